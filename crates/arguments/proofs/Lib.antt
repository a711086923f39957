-- What the tactics go by, command lines worked out, and mistakes that somebody might make.
pub mod Laws
mod Examples
