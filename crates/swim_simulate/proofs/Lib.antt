mod Detecting
pub mod Watching
pub mod Asking
