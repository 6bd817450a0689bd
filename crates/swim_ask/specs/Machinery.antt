-- What only proofs and private functions use: no public clause needs it.
pub mod Counts
