pub mod Unappends
