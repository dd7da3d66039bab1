pub mod CheckLemmas
pub mod ChangeLemmas
pub mod SavedLemmas
