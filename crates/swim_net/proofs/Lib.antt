pub mod Answering
pub mod Guarding
pub mod Moving
pub mod Naming
pub mod Passing
pub mod Crosses
