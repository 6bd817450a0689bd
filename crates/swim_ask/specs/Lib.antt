pub mod Answers
pub mod JoinRequest
pub mod Leaving
pub mod Whole
pub mod Machinery
