-- What follows from the definitions: the laws that callers go by, and the lemmas below them.
pub mod Choices
pub mod Laws
pub mod PageLaws
mod Programming
mod Runs
mod Storing
