-- The definitions: names, faults and their causes, what the calls of a source and a sink do, those in memory, and the counts of a `Work`.
pub mod Name
pub mod Causes
pub mod Ports
pub mod Memory
pub mod Counted
-- What serves the proofs: how the fields of a source in memory stand for what is left.
pub mod Rest
