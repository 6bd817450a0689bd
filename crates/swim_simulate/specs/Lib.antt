pub mod Network
pub mod Detection
pub mod Laws
pub mod Running
pub mod Joining
pub mod Measuring
