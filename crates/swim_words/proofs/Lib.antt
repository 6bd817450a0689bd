pub mod Digits
pub mod Endpoints
pub mod Naming
pub mod Splits
pub mod Tables
