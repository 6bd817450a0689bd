pub mod Keys
pub mod Plan
