pub mod Beside
pub mod Folders
pub mod Pace
pub mod Seen
pub mod Texts
pub mod Verbose
