-- Frames and calls that have not ended: which a state has, what a step does to them, and that their bindings stay.
pub mod CallsListed
pub mod CallEntry
pub mod CallRecords
pub mod CallsKept
pub mod BindingsKept
