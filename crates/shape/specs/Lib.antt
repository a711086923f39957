-- What any device of our shape is, whichever chip it stands in for; then what a chip must bring so that more rights never alter an answer. The argument itself stands in
-- `proofs/MoreRights.antt`. Each word that they are written in is explained in docs/READING.md.
pub mod Shape
pub mod MoreRights
