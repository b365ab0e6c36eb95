pub mod Flags
pub mod Appends
pub mod Closed
