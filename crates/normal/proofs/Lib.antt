pub mod Puts
pub mod Runs
pub mod Wholes
