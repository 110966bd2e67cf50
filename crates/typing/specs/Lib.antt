pub mod Typing
pub mod Parts
