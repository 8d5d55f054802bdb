-- The definitions: patterns, the leaves of a search, the heads that a match reads, and the law of the leaves.
pub mod Pattern
pub mod Search
pub mod Trials
pub mod Heads
pub mod Followed
pub mod Placed
pub mod Left
pub mod Literals
-- What serves the proofs.
pub mod Sought
pub mod Parts
pub mod Sizes
pub mod Runs
pub mod Nested
pub mod Means
pub mod Plays
pub mod Listed
pub mod Kinds
pub mod Fits
pub mod Serves
pub mod Shown
