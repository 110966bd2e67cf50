-- Theorems about the definitions of `machine`, in folders by subject. The list of a folder (Theorems.antt for Theorems/) says what it is
-- about, and each file's first line what the file gives. Theorems/ is what users may rely on; the others lead there, about in this order.
pub mod Memory
pub mod Values
pub mod Rule
pub mod RuleKept
pub mod Places
pub mod Evaluation
pub mod Rows
pub mod Steps
pub mod Calls
pub mod Runs
pub mod StartValues
pub mod Space
pub mod Theorems
