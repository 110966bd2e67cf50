pub mod Plans
pub mod Telling
pub mod Enums
pub mod Roots
