-- Space (02, i): what the calls take that a process made while it worked on its own variables.
pub mod OwnFrames
pub mod OwnCallsOnce
pub mod OwnProcedure
