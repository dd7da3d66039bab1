pub mod AuditLemmas
pub mod EntryLemmas
pub mod SameLemmas
pub mod Seen
