pub mod BitLaws
pub mod WordLaws
pub mod Laws
pub mod MarkedLaws
pub mod Counts
pub mod Cases
pub mod SummaryLaws
