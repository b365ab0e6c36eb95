pub mod Tables
pub mod Totals
pub mod Rated
pub mod InBlock
pub mod Charged
