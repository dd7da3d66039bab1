pub mod ByteLemmas
pub mod ItemLemmas
pub mod PrintLemmas
pub mod CountLemmas
pub mod SlotLemmas
pub mod TableLemmas
