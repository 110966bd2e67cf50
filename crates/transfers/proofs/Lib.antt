pub mod Following
pub mod Steps
pub mod Referring
pub mod Assigning
pub mod Creating
pub mod Writing
