-- What is worked out of the TM32G07x case by case, by the checker, over the definitions of `frame`, `memory` and `tm32`.
-- Open `Edges` first: the cases that document 01 marks P, each with its whole reply and every byte of the device afterwards. `FullFlash` and `Bounds` have more of them, `StartValues` those of another start value of the CRC, `Examples` what the single
-- definitions say, `WrongAnswers` what they do not, and `Fakes` the false devices that 01 names. `Wire` and `Cases` have the words that these are written in.
pub mod Wire
pub mod Cases
pub mod Edges
pub mod FullFlash
pub mod Bounds
pub mod StartValues
pub mod Examples
pub mod WrongAnswers
pub mod Fakes
