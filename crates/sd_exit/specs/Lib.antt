pub mod Ending
pub mod Texts
