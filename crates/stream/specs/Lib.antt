-- What the contracts of the block and the sheet mean. Each word that they are written in is explained in docs/READING.md.
pub mod Blocks
pub mod Inputs
pub mod Sheets
