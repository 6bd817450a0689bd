pub mod Lists
pub mod Crosses
