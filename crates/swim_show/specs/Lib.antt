pub mod Departing
pub mod Showing
