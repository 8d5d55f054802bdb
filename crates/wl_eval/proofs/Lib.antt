-- For this crate's own proofs.
mod Driving
mod Beginning
mod Notices
mod Shapes
mod LiteralParts
mod Updating
mod DefiningRows
mod ControlParts
mod Swapping
mod GuardParts
mod History
mod Kernels
