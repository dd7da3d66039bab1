pub mod Changes
pub mod Imported
pub mod Saved
