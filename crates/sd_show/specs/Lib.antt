pub mod Slots
pub mod Items
pub mod Numbers
pub mod Counts
pub mod Phrases
pub mod Texts
