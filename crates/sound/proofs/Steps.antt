-- A step is not stuck and leaves a state that meets the rule; what else it keeps.
pub mod StepSound
pub mod WritesInside
pub mod CreatedKept
pub mod StepLaws
