pub mod Code
pub mod Decoding
