-- For use from other crates: greatest common divisors, lowest terms, whole numbers scaled, the order by value, and what sums, products, powers and quotients come to.
pub mod Divisors
pub mod Division
pub mod Integers
pub mod LowestTerms
pub mod Order
pub mod Powers
pub mod Products
pub mod Sums
-- For this crate's own proofs.
mod Formed
mod Rows
