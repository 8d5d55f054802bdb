-- For use from other crates: evaluation by levels, programs made of parts, ends that are caught, the recursion's equations, what an evaluation keeps, the size of what is taken out of Unevaluated.
pub mod Level
pub mod Bind
pub mod Caught
pub mod Equations
pub mod Keeps
pub mod BaredSize
