pub mod News
pub mod States
pub mod Machinery
