pub mod Sources
pub mod Gathered
pub mod Copying
pub mod PlanSteps
pub mod Merger
pub mod Left
pub mod Merging
pub mod Files
