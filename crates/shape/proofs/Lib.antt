-- The argument that more rights never alter an answer already given.
pub mod MoreRights
