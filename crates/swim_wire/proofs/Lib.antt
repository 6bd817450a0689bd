pub mod Texts
pub mod Order
pub mod Updates
pub mod Grammar
pub mod Judging
pub mod Saying
pub mod Examples
