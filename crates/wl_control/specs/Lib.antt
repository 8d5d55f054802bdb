-- The definition: what a row asks, one question after the other, and the rows.
pub mod Asks
pub mod Branches
pub mod Collected
pub mod Families
pub mod Iterators
pub mod Loops
pub mod Table
-- What contracts say of a cursor: what it waits for, how often it asks, and the expressions that it holds.
pub mod Stand
pub mod Pacing
pub mod Places
pub mod Kinds
pub mod Cursors
