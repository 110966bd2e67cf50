-- What users may rely on: in each file THE THEOREM, about every run, every input of bytes, or every table of bytes that the verdict accepts.
-- The statements are records of specs/: of Demand, Refusals, Cuts, StateRule, Places, Tested and Space, in the order of this list.
pub mod Demand3
pub mod Refusals
pub mod CutsAgree
pub mod StateRule
pub mod PlacesApart
pub mod TestedAlike
pub mod SpaceUse
