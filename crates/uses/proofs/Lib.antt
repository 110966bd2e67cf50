pub mod Rows
pub mod Noting
pub mod Blanks
pub mod Promise
pub mod Examples
pub mod Slices
