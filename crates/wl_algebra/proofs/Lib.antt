-- For this crate's own proofs.
pub mod Faults
mod Apartness
mod Chains
mod Factors
mod FirstTimes
mod Groups
mod Growth
mod Leftovers
mod Ratios
mod Splices
mod Splits
mod Terms
