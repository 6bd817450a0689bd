pub mod Accused
pub mod Stopped
pub mod Journals
pub mod Eras
