pub mod Passing
pub mod Promise
pub mod Examples
pub mod Results
