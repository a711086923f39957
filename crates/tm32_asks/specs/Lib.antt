-- The TM32G07x as document 01 lays it down, first half: what a message asks for, and whether it may. Short definitions that run, in the order in which to read them; those of `tm32` come behind them.
-- Each word that they are written in is explained in docs/READING.md.
pub mod Results
pub mod Map
pub mod Numbers
pub mod Rates
pub mod Request
pub mod Options
pub mod Checks
