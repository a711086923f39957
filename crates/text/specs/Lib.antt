-- What the crate's contracts mean: bytes in hex, a number in hex, a line of text as a message, and the words in which the reader's loop speaks of the first. Each word that they are
-- written in is explained in docs/READING.md.
pub mod Hex
pub mod Numbers
pub mod Lines
pub mod Walk
