pub mod ListLemmas
pub mod PageLemmas
pub mod PartLemmas
pub mod SpaceLemmas
pub mod LaidLemmas
pub mod HeldLemmas
pub mod DifferenceLemmas
pub mod FaultLemmas
