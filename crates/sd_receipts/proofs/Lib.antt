pub mod EntryLemmas
pub mod FaultLemmas
pub mod GotLemmas
pub mod NotedLemmas
