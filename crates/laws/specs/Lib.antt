pub mod Holds
pub mod Normal
pub mod Moved
pub mod At
