pub mod Sums
pub mod Counting
pub mod Strings
pub mod Judging
pub mod Promise
pub mod Examples
