pub mod Reaches
pub mod Listing
pub mod InBlock
pub mod InConvention
