pub mod Refusals
pub mod Lists
pub mod Bytes
pub mod Parse
pub mod Sight
pub mod Answers
pub mod Outcome
