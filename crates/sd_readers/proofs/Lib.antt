pub mod EndingLemmas
mod ListingLemmas
pub mod DigitLemmas
pub mod LineLemmas
pub mod PageLemmas
pub mod MemoryTexts
pub mod BreakLemmas
pub mod SteadyLemmas
mod AnswerLemmas
pub mod HeldLemmas
mod AtLemmas
pub mod RestoredLemmas
