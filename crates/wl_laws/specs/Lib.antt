-- What is true of every evaluation.
pub mod Laws
-- Sessions that are computed.
pub mod Cells
pub mod WorkedCells
