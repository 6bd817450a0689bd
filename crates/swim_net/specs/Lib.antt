pub mod Control
pub mod Datagrams
pub mod Guard
pub mod Moves
pub mod Udp
