-- The definitions: trees, their size and their order, the words on trees, and what contracts see of an expression with its stamps.
pub mod Tree
pub mod Size
pub mod Proper
pub mod Words
pub mod Same
pub mod Special
pub mod Order
pub mod OrderLaws
pub mod Sorted
pub mod Spans
pub mod Stamped
pub mod Look
pub mod Passed
pub mod Applied
pub mod Hash
-- What serves the proofs: how the fields of an expression stand for its tree, and that its parts are less deep.
pub mod View
pub mod Falls
