pub mod Counts
pub mod Buffer
