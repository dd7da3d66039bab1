pub mod Folders
pub mod Running
