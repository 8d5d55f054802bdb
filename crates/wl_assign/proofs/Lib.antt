mod FirstNames
pub mod Forms
mod Found
