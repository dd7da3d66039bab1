pub mod MarkLemmas
pub mod WalkLemmas
pub mod FreeLemmas
pub mod TakenLemmas
pub mod ListLemmas
