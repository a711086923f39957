-- Laws that more than one proof cites, or a proof that the check finds by them. `Answers`: messages that are equal, a reply that was laid over the buffer, and a call that is told no reply. `Apart`: what
-- the work of a request hangs on, and what it doesn't. `OneOutcome`: answers that are told by one number. `Passed`: calls and requests that the checks let through. `Written`: what is kept in flash, pages that are erased, and how long memory is.
pub mod Answers
pub mod Apart
pub mod OneOutcome
pub mod Passed
pub mod Written
