pub mod Calls
pub mod Entering
pub mod Lines
mod Ranges
pub mod Sections
pub mod Versions
pub mod Walks
