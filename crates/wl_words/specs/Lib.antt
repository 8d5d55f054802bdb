pub mod Command
pub mod Numbers
pub mod Words
pub mod Laws
