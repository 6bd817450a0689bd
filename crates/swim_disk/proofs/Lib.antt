pub mod Filled
mod Parts
pub mod Recorded
mod Patched
mod Making
mod Laid
mod Caching
mod Spanning
mod Filing
