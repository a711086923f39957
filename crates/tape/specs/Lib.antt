-- The bench tape as document 01 lays it down: records, the messages that a tape holds, and what playing them leaves. Each word that these are written in is explained in docs/READING.md.
pub mod Records
pub mod Stops
pub mod Script
pub mod Play
pub mod Starting
pub mod Blocks
pub mod Promises
