pub mod Inserted
pub mod Whole
pub mod Entered
pub mod Entries
