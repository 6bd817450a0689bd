pub mod Rules
pub mod Rows
pub mod Deals
pub mod Hearing
pub mod Calls
pub mod Machinery
