pub mod Frames
pub mod Chains
