pub mod Head
pub mod Rising
pub mod Noted
