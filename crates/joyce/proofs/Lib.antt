pub mod CallsCut
pub mod Logs
pub mod EmptySlots
