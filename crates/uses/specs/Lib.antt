pub mod Uses
pub mod Marked
