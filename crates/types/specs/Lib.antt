pub mod Types
pub mod Kept
pub mod Match
pub mod Numbered
