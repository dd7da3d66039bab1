pub mod HeadLemmas
pub mod LawLemmas
pub mod NextLemmas
pub mod PieceLemmas
pub mod RecordLemmas
pub mod StepLemmas
pub mod TallyLemmas
