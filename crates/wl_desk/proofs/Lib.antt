mod Filling
mod Tallies
mod Numerals
mod Lent
mod Consulting
mod Ticks
pub mod Issued
mod FullNames
