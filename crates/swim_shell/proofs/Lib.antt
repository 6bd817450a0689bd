pub mod News
pub mod Gating
pub mod Running
pub mod Trying
pub mod Reading
pub mod Writing
pub mod Counting
pub mod Hearing
pub mod Talking
pub mod Receiving
pub mod Ticking
pub mod Losing
pub mod Dealing
pub mod Crosses
mod Examples
pub mod Printing
