-- What each write of a statement leaves meets the state rule again: by what is written first, then statement by statement.
pub mod Marks
pub mod RecordWord
pub mod Holders
pub mod Position
pub mod ChainsAfterStore
pub mod Store
pub mod AssignEnterWait
pub mod Push
pub mod Call
pub mod Return
pub mod Create
pub mod Start
