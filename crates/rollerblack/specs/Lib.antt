pub use Rattle.swim_member.specs.Checks
pub use Rattle.swim_disk.specs.Disk
pub use Rattle.swim_node.specs.History
pub use Rattle.swim_node.specs.Lives
pub use Rattle.swim_shared.specs.Passes
pub use Rattle.swim_shell.specs.Calls
pub mod OverUdp
