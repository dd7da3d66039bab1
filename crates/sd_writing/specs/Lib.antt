pub mod Entries
pub mod Tables
pub mod Files
pub mod Endings
