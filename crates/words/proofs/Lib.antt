pub mod MemoryLaws
pub mod Integers
pub mod Arithmetic
pub mod Divisions
pub mod StandardTypes
pub mod DeviceLaws
pub mod BitLaws
