pub mod Answers
pub mod Places
pub mod Operators
pub mod Ready
pub mod Packed
