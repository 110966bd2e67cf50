pub mod Known
pub mod Tested
