-- For use from other crates: which texts are names.
pub mod AsciiNames
pub mod MadeNames
-- For this crate's own proofs.
mod Names
