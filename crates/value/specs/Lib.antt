pub mod Answers
pub mod Tail
pub mod Fast
