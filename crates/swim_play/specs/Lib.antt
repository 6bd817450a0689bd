pub mod Life
pub mod Play
pub mod Text
pub mod Machinery
