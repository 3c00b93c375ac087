-- A query and the scope of an event, and its kinds by VPID.
pub mod Queries
pub mod Splitting
