-- The definitions: what a turn does to the elements of a node, and what stands in a body where names are filled.
pub mod Shape
pub mod Scopes
pub mod Fill
pub mod Laws
pub mod Sizes
-- What contracts see of answers and of elements.
pub mod Answers
pub mod Elements
-- What serves the proofs.
pub mod Locals
pub mod Renewed
pub mod Standing
pub mod Names
pub mod Held
pub mod Entering
pub mod Walks
pub mod Given
