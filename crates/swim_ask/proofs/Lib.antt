pub mod Statuses
pub mod Counted
pub mod CounterLines
pub mod Counts
pub mod Rows
pub mod Wholes
pub mod Pages
