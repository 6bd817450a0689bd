pub mod Lists
pub mod Fates
pub mod Probing
pub mod Begins
pub mod Nodes
pub mod Lives
pub mod Living
mod KeptPeers
pub mod Crosses
pub mod Replaying
mod Examples
mod TurnExamples
mod Known
