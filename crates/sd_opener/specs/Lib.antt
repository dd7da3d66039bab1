pub mod Left
pub mod Looking
pub mod Sees
