-- Messages with what they show.
use Rattle.std.specs.Prelude.{◌≡◌, ◌≢◌, ⊤, true, List, [], ◌∷◌, codes}
use Rattle.wl_expr.specs.Tree.{Tree, symbol, text}
use Rattle.wl_expr.specs.Words.{Name, Bytes}
use Rattle.wl_rules.specs.Entries.{Definitions, empty_entry, put_message, set_off, with_entry}
use Rattle.wl_desk.specs.MessageText.{filled_text}
use Rattle.wl_desk.specs.Desk.{Desk, new_desk, full_name, issued, with_heard, with_quiets, stop_item}

-- `a`, `"s"` and `x`
abbrev pub arguments : List Tree
arguments = symbol (codes "a") ∷ text (codes "s") ∷ symbol (codes "x") ∷ []

abbrev pub filled : Bytes → Bytes
filled t = filled_text t arguments

-- arguments; the same twice; a mark without an argument, whose second backtick begins no other mark; a leading zero, no digits, something else than digits, and no second backtick
abbrev pub WorkedTexts : Type 0
WorkedTexts =
    (filled (codes "`1` of `2`.") ≡ codes "a of s.") × (filled (codes "`3``3`") ≡ codes "xx") × (filled (codes "`4`1`") ≡ codes "`4`1`")
    × (filled (codes "`01`1`") ≡ codes "`01a") × (filled (codes "``1`") ≡ codes "`a") × (filled (codes "`1x`2`") ≡ codes "`1xs") × (filled (codes "a`12") ≡ codes "a`12")
    × (filled (codes "`0`") ≡ codes "`0`")

-- no symbol has anything but `f`, with one message, and `General`, with another
abbrev pub definitions : Definitions
definitions = with_entry (codes "General") (put_message (codes "u") (codes "General `1`.") empty_entry)
    (with_entry (codes "f") (set_off (codes "off") true (put_message (codes "t") (codes "See `1`.") empty_entry)) (λ x. empty_entry))

abbrev pub issue : Bytes → Desk → Desk
issue t k = issued definitions (codes "f") t (symbol (codes "a") ∷ []) k

-- the text of the symbol, of `General`, and none; four times the same; off; inside Quiet
abbrev pub WorkedMessages : Type 0
WorkedMessages =
    ((issue (codes "t") new_desk).items ≡ codes "f::t: See a." ∷ []) × ((issue (codes "u") new_desk).items ≡ codes "f::u: General a." ∷ [])
    × ((issue (codes "v") new_desk).items ≡ codes "f::v: -- Message text not found --" ∷ [])
    × ((issue (codes "t") (issue (codes "u") (issue (codes "t") (issue (codes "t") (issue (codes "t") new_desk))))).items
    ≡ codes "f::t: See a." ∷ codes "f::t: See a." ∷ codes "f::t: See a." ∷ stop_item (codes "f::t") ∷ codes "f::u: General a." ∷ [])
    × (issue (codes "off") new_desk ≡ new_desk) × (issue (codes "t") (with_quiets 1 new_desk) ≡ with_heard true (with_quiets 1 new_desk))

abbrev pub WorkedDesks : Type 0
WorkedDesks = WorkedTexts × WorkedMessages

-- no colon stands in a name
abbrev pub HasNoColon : Name → Type 0
HasNoColon [] = ⊤
HasNoColon (c ∷ cs) = (c ≢ 58) × HasNoColon cs

-- a full name tells the symbol and the tag, so messages are counted by it
abbrev pub FullNamesTell : Type 0
FullNamesTell = (s r : Name) (t u : Bytes) → HasNoColon s → HasNoColon r → full_name s t ≡ full_name r u → (s ≡ r) × (t ≡ u)
