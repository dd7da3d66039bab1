pub mod Asked
pub mod Last
pub mod Sending
pub mod Sent
