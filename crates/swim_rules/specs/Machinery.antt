-- What only proofs, private functions and the invariants of types use: no public clause needs it.
pub mod Places
pub mod Tallies
