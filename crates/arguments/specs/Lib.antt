-- What the crate's contracts mean: the start value that a command line asks for. Each word that they are written in is explained in docs/READING.md.
pub mod CommandLine
