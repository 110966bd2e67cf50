pub mod Rows
pub mod Scoping
pub mod Users
pub mod Promise
pub mod Handing
pub mod Examples
