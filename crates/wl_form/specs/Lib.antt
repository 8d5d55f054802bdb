pub mod Operators
pub mod Heads
pub mod Shown
pub mod Table
pub mod Texts
pub mod Boxes
pub mod Laws
-- What serves the proofs.
pub mod Pages
pub mod Words
pub mod Writing
