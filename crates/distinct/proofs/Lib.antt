pub mod Repeats
pub mod Read
pub mod Walks
pub mod Rounds
