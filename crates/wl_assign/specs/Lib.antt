pub mod Core
pub mod Targets
pub mod Tags
pub mod Limits
pub mod Laws
-- What serves the proofs.
pub mod Kinds
