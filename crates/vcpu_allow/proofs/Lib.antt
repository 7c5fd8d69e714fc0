pub mod ValuesLaws
pub mod ListSteps
