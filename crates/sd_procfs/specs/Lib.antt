pub mod Clears
pub mod Words
pub mod Listing
pub mod Refusals
