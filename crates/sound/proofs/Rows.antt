-- 'Step answers' (01): each answer is given exactly if its row holds, and a step leaves what its rule says.
pub mod OutcomeOrStuck
pub mod NodeFailures
pub mod StatementRules
pub mod ListedFailures
pub mod RowsHold
