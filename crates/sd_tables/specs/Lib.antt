pub mod Tables
pub mod Firsts
pub mod Entries
pub mod Runs
pub mod Radix
pub mod Copies
