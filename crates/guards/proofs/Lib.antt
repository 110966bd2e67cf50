pub mod Arms
pub mod Choosing
pub mod Linking
pub mod Opening
pub mod Standing
