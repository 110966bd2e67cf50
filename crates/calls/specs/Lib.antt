pub mod Gathering
pub mod Framing
pub mod Entering
pub mod Serving
