pub mod Held
pub mod Difference
pub mod Faults
pub mod Parts
pub mod Spaces
