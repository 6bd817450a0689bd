pub mod Asking
mod Examples
mod Pace
pub mod Searching
