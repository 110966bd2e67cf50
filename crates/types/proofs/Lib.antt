pub mod Finding
pub mod Matching
