pub mod BodyLemmas
pub mod CallLemmas
mod FitLemmas
mod LawLemmas
mod LeftLemmas
mod PhaseLemmas
mod SlotsLemmas
pub mod TakeLemmas
mod LookLemmas
mod CommuteLemmas
pub mod UseLemmas
