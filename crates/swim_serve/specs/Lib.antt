pub mod Desks
pub mod EraCounts
pub mod Eras
pub mod Faults
pub mod Members
pub mod Peers
pub mod Views
pub mod Works
