pub mod References
pub mod Assignments
pub mod Creations
pub mod Devices
