pub mod Overlay
pub mod Room
pub mod Effective
