-- what cells and tokens are, and the laws of them
pub mod Characters
pub mod Places
pub mod Cells
pub mod CellText
pub mod Lengths
pub mod Literals
pub mod Tokens
pub mod TokenParts
pub mod Forms
pub mod Laws
-- words that serve the proof
pub mod Scanning
