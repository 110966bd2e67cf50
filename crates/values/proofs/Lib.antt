pub mod Filling
pub mod Each
pub mod Reading
pub mod Values
pub mod Heading
pub mod Parts
pub mod Jumping
