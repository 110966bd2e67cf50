pub mod Lookup
pub mod Walks
pub mod Heads
pub mod Jumps
