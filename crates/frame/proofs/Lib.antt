-- What follows from the definitions: the laws that callers go by, the published check values, and the lemmas below both.
pub mod Laws
mod ByTable
mod Bytes
mod CheckValues
mod Passed
mod Places
mod Sums
