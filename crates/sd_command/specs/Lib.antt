pub mod Attempts
pub mod Copies
pub mod Events
pub mod Refusals
pub mod Replies
