pub mod TakeLemmas
pub mod FileLemmas
pub mod DigestLemmas
pub mod ScanLemmas
pub mod GoodLemmas
pub mod MappedLemmas
pub mod PlacedLemmas
pub mod MemoryLemmas
pub mod RunLemmas
pub mod ShowLemmas
mod CallLemmas
mod FitsLemmas
mod WantLemmas
mod LaidLemmas
mod AtLemmas
