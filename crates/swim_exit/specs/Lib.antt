pub mod Exit
pub mod Nearest
pub mod Takes
