-- The definitions: what a number is, what the calls compute, and the values of an iterator.
pub mod Fraction
pub mod Arithmetic
pub mod Gcd
pub mod Span
-- What is true of them: the statements that `laws` proves.
pub mod Laws
