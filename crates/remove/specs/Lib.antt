pub mod Removable
