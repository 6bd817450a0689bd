pub mod OwnFile
pub mod Starting
pub mod WatchedDisk
