-- What only proofs, private functions and the invariants of types use: no public clause needs it.
pub mod Patch
pub mod Torn
pub mod Reached
pub mod Made
