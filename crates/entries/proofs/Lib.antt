pub mod Rows
pub mod Promise
pub mod Examples
