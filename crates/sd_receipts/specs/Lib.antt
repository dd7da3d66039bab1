pub mod InTime
pub mod Laws
pub mod Noted
