pub mod Accusing
pub mod Stopping
pub mod Journals
pub mod Eras
