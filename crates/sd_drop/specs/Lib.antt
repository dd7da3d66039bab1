pub mod Errors
pub mod Closing
pub mod Reached
pub mod Needed
