-- What is true of an evaluator, and what its functions say.
pub mod Honest
pub mod Logs
pub mod Played
pub mod Searching
pub mod Recall
-- How an evaluation that was asked for ended.
pub mod Outcomes
-- The ledger's marks.
pub mod Marks
-- What the functions of a turn say besides.
pub mod Kinds
pub mod Parts
pub mod Operands
pub mod Prepared
pub mod Replacing
pub mod Replies
pub mod LocalNames
pub mod Guards
pub mod Slots
pub mod Endings
