-- Begin's state, lists of run calls (histories), and demand 3 of them.
pub mod FirstStateRule
pub mod FirstStateWords
pub mod CallLists
pub mod Demand3FromLaws
