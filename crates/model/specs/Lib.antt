-- Document 01, in its order, up to the single step and lookup, and document 02's reasons. The whole runs stand in
-- the crate `runs`. Definitions only: the laws about them are the crate `laws`, and the bench cards stand in proofs/.
pub mod Bits
pub mod Buffers
pub mod Context
pub mod Layouts
pub mod Mappings
pub mod Tables
pub mod Events
pub mod Scopes
pub mod Answers
pub mod Steps
pub mod Lookups
pub mod Refusals
pub mod Reasons
