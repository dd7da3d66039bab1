pub mod PlanRuns
pub mod Arriving
pub mod Arrived
pub mod Merged
pub mod Copies
