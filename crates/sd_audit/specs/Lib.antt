pub mod Freezes
pub mod ShowsOne
