pub mod Grammar
pub mod Complete
pub mod Fine
pub mod Flat
pub mod Classes
pub mod Promise
pub mod Examples
