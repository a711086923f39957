-- What callers of `fill` go by, what the proofs of `feed`, of bytes put on a sheet and of a writer's `lay` go by, and worked examples.
pub mod Laws
pub mod Adding
pub mod Handing
pub mod Fitting
mod Examples
