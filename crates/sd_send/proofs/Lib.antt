pub mod FilesLemmas
pub mod GroupLemmas
pub mod LastLemmas
pub mod WalkLemmas
