pub mod Verdict
pub mod Rooms
pub mod Accepted
pub mod Edition
pub mod Refusals
pub mod Checked
