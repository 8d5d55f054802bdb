-- For use from other crates: the size of what is shaped and of what is filled.
pub mod ShapeSize
pub mod FillDepth
-- For this crate's own proofs.
mod Faults
mod Splits
mod Splices
mod Threads
mod Parameters
mod Members
mod Sets
mod Fresh
mod Renamings
mod Meetings
mod Holdings
mod Lent
mod Preparing
mod Fillings
mod Agreement
mod Standings
mod Formals
