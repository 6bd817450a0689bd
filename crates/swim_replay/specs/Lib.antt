pub mod Machinery
pub mod Recorded
pub mod Versions
