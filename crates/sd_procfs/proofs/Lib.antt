pub mod ClearSteps
pub mod ClearHistory
pub mod WordLemmas
pub mod AreaLemmas
