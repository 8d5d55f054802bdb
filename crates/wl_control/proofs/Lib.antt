-- For use from other crates: which answers are waited for behind a question, and how often a row asks between two passes.
pub mod Waiting
pub mod Pacing
-- For this crate's own proofs.
mod Collecting
mod Counts
mod Elements
mod Faults
mod Iterated
mod Iterating
mod Nesting
mod Passes
mod WorkedRows
