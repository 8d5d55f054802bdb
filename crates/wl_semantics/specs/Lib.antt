-- The state of a kernel; programs, and what their effects do.
pub mod State
pub mod Prog
pub mod Effects
-- Parts of a turn: elements, scopes, matches, left sides, the questions of loops.
pub mod Elements
pub mod Scoping
pub mod Match
pub mod LeftSides
pub mod Control
-- The rows, and which name has which.
pub mod Definitions
pub mod EntryRows
pub mod MatchRows
pub mod ScopeRows
pub mod EndRows
pub mod MessageRows
pub mod PureRows
pub mod BuiltIn
-- A turn, an evaluation, and the calls of a kernel.
pub mod Turn
pub mod Eval
pub mod Outcome
-- What states have in common where one follows the other.
pub mod Settled
pub mod Local
