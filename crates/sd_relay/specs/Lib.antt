pub mod Fronts
pub mod Hands
pub mod Relays
pub mod Results
pub mod Tickets
