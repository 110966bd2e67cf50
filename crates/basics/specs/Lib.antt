pub mod Choice
pub mod Loops
pub mod Cases
pub mod Course
pub mod Chain
pub mod Holds
pub mod Marks
