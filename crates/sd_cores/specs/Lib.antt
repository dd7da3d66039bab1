pub mod Cores
pub mod Exports
pub mod Texts
