pub mod Order
pub mod Counts
pub mod Neighbours
pub mod Heaps
pub mod Sorts
