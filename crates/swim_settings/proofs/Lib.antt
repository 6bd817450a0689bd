mod MemberTimes
mod Naming
pub mod Taken
pub mod Texts
