pub mod Changes
pub mod StepLaws
