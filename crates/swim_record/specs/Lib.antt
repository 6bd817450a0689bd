pub mod Blocks
pub mod EraTimes
pub mod Events
pub mod Handing
pub mod Lines
pub mod Recording
pub mod Text
