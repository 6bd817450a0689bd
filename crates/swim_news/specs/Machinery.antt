-- What only private functions and proofs use: no public clause needs it.
pub mod Merging
