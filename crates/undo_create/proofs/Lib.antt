pub mod Fresh
pub mod Uncreates
