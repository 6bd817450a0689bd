pub mod Merging
pub mod Order
