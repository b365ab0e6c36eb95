pub mod Says
pub mod Holding
