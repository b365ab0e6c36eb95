pub mod Front
pub mod Openings
