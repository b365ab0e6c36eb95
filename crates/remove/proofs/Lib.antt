pub mod Outs
pub mod Taken
pub mod Steps
