pub mod Storing
pub mod Writing
pub mod Marks
pub mod Meanings
pub mod Asking
