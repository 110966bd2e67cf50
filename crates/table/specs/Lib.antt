pub mod Bytes
pub mod Empty
pub mod Table
pub mod Kinds
pub mod Entries
pub mod Reading
pub mod Parts
