-- For use from other crates: a walk over the elements (Parts, Items), sizes (Sizes, Small), what is handed on (Passing, Properness), one tree or another (SameNodes), the order (CanonicalOrder, Sorting).
pub mod Parts
pub mod Items
pub mod Sizes
pub mod Small
pub mod Passing
pub mod Properness
pub mod SameNodes
pub mod Sorting
pub mod CanonicalOrder
-- For this crate's own proofs.
mod Chain
mod Factors
mod Normal
mod NumberOrder
mod Rows
mod StructuralOrder
mod WordRows
