pub mod Laid
pub mod Rest
pub mod Fields
pub mod Sizes
pub mod Used
pub mod Name
pub mod Whole
pub mod Writes
