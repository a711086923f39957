-- Document 01, "A message and its reply" and "When nothing is done": what all rooms stand on. `FirstFailing` says which check gives its number, of a call and of a request; `Ways` says which ways a message
-- can go, and what is known where its work is done. Each begins with the words that the demands are stated in, and the rest are lemmas.
pub mod FirstFailing
pub mod Ways
