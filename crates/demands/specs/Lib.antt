-- What is shown of the TM32G07x, over the definitions of `tm32` and `tape`. Five files to open first:
-- `crates/cases/specs/Edges.antt`: the cases that document 01 marks, each worked out by the checker.
-- `Demand1`: any bytes, in any state: each refusal has its own number, and a refused message changes nothing.
-- `Demand2`: every reply and every byte of memory is what 01 lays down, and what follows from that.
-- `Demand3`: more rights never alter an answer already given.
-- `BenchTape`: what the player makes of a tape, in one piece or in many.
-- Each of these is one page, and states what is claimed. Of what stands below a page only the words are to be read, which its first lines name; the rest is how it is shown, and may be skipped.
-- `Messages` has what all of them stand on.
pub mod Messages
pub mod Demand1
pub mod Demand2
pub mod Demand3
pub mod BenchTape
