-- What the crate's contracts mean: the CRC, and the frame that it closes. Document 01, "A message and its reply". Each word that they are
-- written in is explained in docs/READING.md.
pub mod Crc
pub mod Frame
