pub mod Rooming
pub mod Promise
pub mod Examples
