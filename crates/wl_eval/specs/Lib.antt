-- A kernel as other crates see it.
pub mod KernelView
