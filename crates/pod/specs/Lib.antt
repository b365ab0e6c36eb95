pub mod Values
pub mod Blocks
pub mod Layout
pub mod Sound
pub mod Told
pub mod Written
pub mod Descs
