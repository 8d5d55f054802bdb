pub mod Reads
pub mod Live
pub mod Composition
pub mod Laws
