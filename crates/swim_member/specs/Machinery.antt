-- What only proofs, private functions and the invariants of types use: no public clause needs it.
pub mod Steps
pub mod Adding
pub mod Kept
pub mod Turns
