pub mod Told
pub mod Turns
