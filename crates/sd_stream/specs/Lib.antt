pub mod Laws
pub mod Pieces
pub mod Progress
pub mod Reading
pub mod Stream
pub mod Tallies
pub mod Writing
