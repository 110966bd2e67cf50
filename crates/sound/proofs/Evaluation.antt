-- Operands, arguments and statements of a started process are not stuck: what each comes to.
pub mod OutcomeLaws
pub mod NodeTypes
pub mod OperandSizes
pub mod Operators
pub mod Nodes
pub mod Arguments
pub mod Statements
pub mod StructuredStatements
pub mod Scopes
pub mod Claims
