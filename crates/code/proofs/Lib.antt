pub mod Slots
pub mod Columns
pub mod Decodes
pub mod Blanks
