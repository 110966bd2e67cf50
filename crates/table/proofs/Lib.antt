pub mod EachKind
pub mod EachField
pub mod Shapes
pub mod Numbers
pub mod Cells
pub mod Sectioning
pub mod Parts
pub mod ReadBytes
