pub mod Fields
pub mod Lines
pub mod Numerals
pub mod Pairs
pub mod Parsing
pub mod Printing
