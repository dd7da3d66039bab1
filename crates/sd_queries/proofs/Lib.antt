pub mod DropLemmas
pub mod ReadingLemmas
pub mod ShowingLemmas
