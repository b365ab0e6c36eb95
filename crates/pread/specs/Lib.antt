pub mod Answers
pub mod Assembled
pub mod Stands
