-- When a text is a name: a character that begins one, and then characters that continue it.
use Rattle.std.specs.Prelude.{ℕ, Bool, true, false, List, [], ◌∷◌, ◌&&◌, ◌||◌, ◌==◌, not, IsTrue}
use Rattle.std.specs.Str.{chars}
use Rattle.unicode_ident.specs.Ident.{is_xid_start, is_xid_continue}

-- a character that may begin a name: one with the Unicode property XID_Start, or `$`
abbrev pub begins_name : ℕ → Bool
begins_name c = is_xid_start c || (c == 36)

-- a character that may continue a name: one with the Unicode property XID_Continue other than `_`, or `$`
abbrev pub continues_name : ℕ → Bool
continues_name c = (is_xid_continue c && not (c == 95)) || (c == 36)

abbrev pub all_continue_name : List ℕ → Bool
all_continue_name [] = true
all_continue_name (c ∷ cs) = continues_name c && all_continue_name cs

abbrev pub spells_name : List ℕ → Bool
spells_name [] = false
spells_name (c ∷ cs) = begins_name c && all_continue_name cs

-- whether the characters of a text spell a name
abbrev pub is_name : List ℕ → Bool
is_name text = spells_name (chars text)

abbrev pub IsName : List ℕ → Type 0
IsName text = IsTrue (is_name text)
