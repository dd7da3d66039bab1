pub mod Course
pub mod Wanted
