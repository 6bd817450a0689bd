pub mod Clash
pub mod Lacking
