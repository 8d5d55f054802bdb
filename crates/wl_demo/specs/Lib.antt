pub mod Notebook
pub mod Summary
pub mod Laws
