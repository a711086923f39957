-- Laws of the tape. For whoever builds on it, `Laws`: what is played record by record; `Longer`: what stands at the start of a tape when more comes behind it; `Ways`: the ways that a tape goes, whatever
-- the room; `Handed`: that what the player hands back lies inside what it was lent; `OneOutcome`: that numbers tell a stop apart. For the proofs here: `Buffers` (records written into a buffer) and `Stepping`
-- (a step of the player).
mod Buffers
pub mod Handed
pub mod Laws
pub mod Longer
pub mod OneOutcome
mod Stepping
pub mod Ways
