-- Laws that more than one proof cites. `Accepted`: what is known of a request that the checks let through. `OneOutcome`: no two answers satisfy the contract of `verdict`. `Ranges`: two ranges of
-- pages. `Verdicts`: lists of checks, one behind the other.
pub mod Accepted
pub mod OneOutcome
mod Ranges
pub mod Verdicts
