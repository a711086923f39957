-- What callers go by, worked lines, that no two outcomes satisfy a contract, and the lemmas below the reader's proofs.
pub mod Laws
mod Digits
mod Endings
mod Examples
pub mod OneOutcome
