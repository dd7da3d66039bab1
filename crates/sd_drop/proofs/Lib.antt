pub mod FileLemmas
pub mod CloseLemmas
pub mod ReachLemmas
pub mod NeedLemmas
pub mod DropLemmas
