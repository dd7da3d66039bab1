mod Ends
mod Inspecting
mod Lowers
mod Steps
