pub mod Restorable
