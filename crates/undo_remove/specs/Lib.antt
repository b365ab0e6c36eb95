pub mod Insertable
pub mod Blocks
