-- The TM32G07x as document 01 lays it down, second half: what is done and answered. Short definitions that run, in the order in which to read them, behind those of `tm32_asks`. What a
-- reader must believe stands there and here; what follows from it stands in `demands`. Each word that they are written in is explained in docs/READING.md.
pub mod Device
pub mod Work
pub mod Respond
pub mod After
pub mod Promises
pub mod Run
pub mod OptionMessages
pub mod Fresh
