-- The state rule as a record, what a state that meets it has, and the parts of it that stay where their words stay.
pub mod RuleRecord
pub mod WorkedProcesses
pub mod Workers
pub mod Chains
pub mod Processes
pub mod ValuesInUse
