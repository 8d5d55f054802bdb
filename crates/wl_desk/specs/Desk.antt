-- Messages and shown items. A message that is off shows nothing, and no Check sees it; any other is seen by each open Check, and shown unless a Quiet is open, at most three times in a cell. Tutorial on messages; what follows the third is this project's own.
use Rattle.std.specs.Prelude.{ℕ, ◌+◌, Bool, true, false, ◌==◌, nat_lt, if◌then◌else◌, List, [], ◌∷◌, ◌++◌, unwrap_or, codes, bytes_eq}
use Rattle.wl_expr.specs.Tree.{Tree}
use Rattle.wl_expr.specs.Words.{Name, Bytes}
use Rattle.wl_rules.specs.Entries.{Definitions, message, is_off, value_at}
use Rattle.wl_desk.specs.MessageText.{filled_text}

-- how often each message was shown in this cell, by full names, in the order in which they were first shown
abbrev pub Counts : Type 0
Counts = List (Bytes × ℕ)

pub record Desk : Type 0 where
  pub quiets : ℕ  -- the open Quiets
  pub heard : Bool  -- whether a message that isn't off was issued
  pub counts : Counts
  pub items : List Bytes  -- shown in this cell, in order

abbrev pub new_desk : Desk
new_desk = record { quiets = 0; heard = false; counts = []; items = [] }

-- a cell begins
abbrev pub refilled : Desk → Desk
refilled k = record k { counts = []; items = [] }

abbrev pub printed : Bytes → Desk → Desk
printed item k = record k { items = k.items ++ item ∷ [] }

abbrev pub with_heard : Bool → Desk → Desk
with_heard b k = record k { heard = b }

abbrev pub with_quiets : ℕ → Desk → Desk
with_quiets n k = record k { quiets = n }

-- `s::t`
abbrev pub full_name : Name → Bytes → Bytes
full_name s t = s ++ (codes "::" ++ t)

abbrev pub count_of : Bytes → Counts → ℕ
count_of n cs = unwrap_or (value_at n cs) 0

-- once more
abbrev pub counted : Bytes → Counts → Counts
counted n [] = (n, 1) ∷ []
counted n (c ∷ cs) = if bytes_eq n c.0 then (c.0, c.1 + 1) ∷ cs else c ∷ counted n cs

-- the text stored for the symbol, else the one for `General`, else that none was found
abbrev pub general_text : Definitions → Bytes → Bytes
general_text d t = unwrap_or (message (d (codes "General")) t) (codes "-- Message text not found --")

abbrev pub stored_text : Definitions → Name → Bytes → Bytes
stored_text d s t = unwrap_or (message (d s) t) (general_text d t)

-- `s::t: text`
abbrev pub message_item : Definitions → Name → Bytes → List Tree → Bytes
message_item d s t args = full_name s t ++ (codes ": " ++ filled_text (stored_text d s t) args)

abbrev pub stop_item : Bytes → Bytes
stop_item n = codes "General::stop: Further output of " ++ (n ++ codes " will be suppressed during this calculation.")

-- what a message that was shown so often before shows now: the item, and right behind the third the stop
abbrev pub items_of : Bytes → Bytes → ℕ → List Bytes
items_of n item shown = if shown == 2 then item ∷ stop_item n ∷ [] else item ∷ []

-- a message of this full name is shown
abbrev pub shown : Bytes → Bytes → Desk → Desk
shown n item k = record k { counts = counted n k.counts; items = k.items ++ items_of n item (count_of n k.counts) }

-- a message is shown where it was shown fewer than three times
abbrev pub shown_again : Definitions → Name → Bytes → List Tree → Desk → Desk
shown_again d s t args k = if nat_lt (count_of (full_name s t) k.counts) 3 then shown (full_name s t) (message_item d s t args) k else k

-- one message is issued
abbrev pub issued : Definitions → Name → Bytes → List Tree → Desk → Desk
issued d s t args k = if is_off (d s) t then k else with_heard true (if k.quiets == 0 then shown_again d s t args k else k)
