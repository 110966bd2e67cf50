-- Start values (02, g): what the number of begin comes to, and that a board tested under 0 runs alike under 1.
pub mod NumberStays
pub mod NeverUnset
pub mod Twins
pub mod TwinOutcomes
pub mod TwinOperands
pub mod TwinStatements
pub mod TwinSteps
pub mod TwinRuns
