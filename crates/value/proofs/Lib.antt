pub mod Gather
pub mod Refusal
pub mod Parts
pub mod Fast
pub mod Seen
