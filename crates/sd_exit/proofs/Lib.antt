pub mod EndingLemmas
pub mod SlotLemmas
pub mod WriteLemmas
