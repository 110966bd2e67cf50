pub mod Nest
pub mod Blocks
pub mod Grammar
pub mod Ends
