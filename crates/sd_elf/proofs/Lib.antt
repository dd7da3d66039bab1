pub mod SegmentLemmas
pub mod CoreLemmas
pub mod AreaLemmas
pub mod PageLemmas
pub mod FileLemmas
pub mod ReadLemmas
