pub mod Companies
pub mod Identities
pub mod Notes
pub mod Numbers
pub mod Views
