pub mod Words
pub mod Runs
pub mod Every
