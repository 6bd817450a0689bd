pub mod Moments
pub mod Silences
pub mod Joins
pub mod Introductions
pub mod Searches
pub mod Turns
