pub mod Whole
pub mod Target
