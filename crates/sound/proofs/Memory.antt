-- Words and bytes of a state: what a write changes and what it leaves. Laws used everywhere.
pub mod Writes
pub mod ProcessRecords
pub mod Bytes
