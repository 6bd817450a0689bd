pub mod Causes
pub mod Covers
pub mod Lasting
pub mod Sending
pub mod Stories
pub mod Examples
