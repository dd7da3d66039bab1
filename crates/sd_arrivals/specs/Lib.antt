pub mod Arrivals
pub mod Programs
