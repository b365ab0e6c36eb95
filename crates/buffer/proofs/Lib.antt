pub mod Put
pub mod Moves
pub mod Digits
pub mod Alike
