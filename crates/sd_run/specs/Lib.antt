pub mod Bulk
pub mod Ending
pub mod Lines
pub mod Merging
pub mod Promise
pub mod Strict
pub mod Whole
pub mod Words
