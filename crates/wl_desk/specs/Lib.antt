-- The definitions: what a message says, and what a desk shows and hears.
pub mod MessageText
pub mod Desk
pub mod Laws
-- What serves the proofs.
pub mod DeskCode
pub mod TallyInside
pub mod Consulted
