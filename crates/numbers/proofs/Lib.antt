pub mod Rows
pub mod Taking
pub mod Marks
pub mod Parts
pub mod TypePromise
pub mod BlockPromise
pub mod OperandPromise
pub mod Examples
