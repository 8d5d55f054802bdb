-- The definition: the rows, and which name has which.
pub mod Spliced
pub mod Numbers
pub mod Extremes
pub mod Factorials
pub mod Powers
pub mod Joining
pub mod Sums
pub mod Products
pub mod Questions
pub mod Comparisons
pub mod Table
pub mod WorkedRows
-- What contracts say of an answer, and the rows by their kinds.
pub mod Answers
pub mod Kinds
-- What serves the proofs.
pub mod Alike
pub mod Standings
pub mod Ranges
pub mod SumsInside
pub mod ProductsInside
