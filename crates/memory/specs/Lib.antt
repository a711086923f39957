-- What the crate's contracts mean: ranges in regions, pages, and stores into lent memory; and what erases and wipes of pages leave, for the crates above. Document 01, "The ten commands" and "Who may touch which page". Each word that they
-- are written in is explained in docs/READING.md.
pub mod Erases
pub mod Pages
pub mod Ranges
pub mod Stores
