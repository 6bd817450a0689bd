mod Examples
pub mod Paths
pub mod Texts
pub mod Slashes
