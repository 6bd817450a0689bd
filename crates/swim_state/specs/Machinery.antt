-- What only proofs, private functions and the invariants of types use: no public clause needs it.
pub mod Saving
pub mod Places
pub mod Padding
