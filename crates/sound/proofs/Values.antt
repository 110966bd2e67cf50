-- Values of types, and where variables and their parts lie. Laws used everywhere.
pub mod TypeKinds
pub mod KnownTypes
pub mod ValuesByKind
pub mod OneWord
pub mod Strings
pub mod Parts
pub mod BlockVariables
pub mod ModuleVariables
pub mod PlaceLaws
