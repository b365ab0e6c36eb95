pub mod Runs
pub mod Parts
pub mod Copies
