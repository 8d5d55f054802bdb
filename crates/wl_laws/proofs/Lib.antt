-- For this crate's own proofs.
mod Agreement
mod Computed
