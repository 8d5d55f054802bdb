-- For this crate's own proofs.
pub mod Faults
mod Chunks
mod FirstTimes
mod Heavy
mod Makings
pub mod Once
mod Walks
pub mod Rows
pub mod Spanning
mod Splits
