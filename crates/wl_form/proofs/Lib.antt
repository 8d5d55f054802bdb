pub mod Boxing
pub mod Quotes
pub mod Pages
pub mod Levels
pub mod Nodes
pub mod Products
pub mod Spelled
pub mod Whole
