pub mod Asked
pub mod Dropping
pub mod Reading
pub mod Showing
pub mod Printing
