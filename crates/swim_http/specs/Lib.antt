pub mod Answers
pub mod Directory
pub mod Gauges
pub mod Groups
pub mod Members
pub mod Metrics
pub mod Requests
