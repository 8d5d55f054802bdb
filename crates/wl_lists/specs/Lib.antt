-- The definition: the rows, and which name has which.
pub mod Nodes
pub mod Elements
pub mod Places
pub mod Segments
pub mod Tabulated
pub mod Arrays
pub mod Flattening
pub mod Partitions
pub mod Ranges
pub mod Parts
pub mod Joining
pub mod Functions
pub mod Strings
pub mod Table
pub mod Laws
-- What contracts say of an answer, and the rows by their kinds.
pub mod Answers
pub mod Kinds
-- What serves the proofs.
pub mod Alike
pub mod RangesInside
pub mod PartsInside
