pub mod Backs
pub mod Blocks
mod EventWords
pub mod EraTimes
pub mod Events
mod Heads
pub mod Others
pub mod Texts
pub mod Writing
