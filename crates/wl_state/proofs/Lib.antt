-- For use from other crates: what each of these functions plays, and what is known of its parts.
pub mod Ticking
pub mod Stores
pub mod Playing
pub mod Moves
pub mod Rows
pub mod Values
pub mod Turning
pub mod Evaluating
pub mod Changing
pub mod Holding
pub mod Fitting
pub mod Shapings
pub mod Tables
pub mod Answering
pub mod Rounds
pub mod Bindings
pub mod Matches
pub mod RowParts
pub mod Preparing
pub mod Setting
pub mod MatchRowParts
pub mod ReplaceRowParts
pub mod IteratorParts
pub mod LocalParts
pub mod ScopingParts
pub mod ScopeRowParts
pub mod Hushing
pub mod Catching
pub mod SlotParts
-- For this crate's own proofs.
mod Names
mod Placed
mod Recalling
mod Flagging
mod Guarding
mod Lent
mod Symbols
mod EntryRowParts
mod HistoryRowParts
mod DefiningParts
mod Targeting
mod ReadRules
mod Throws
