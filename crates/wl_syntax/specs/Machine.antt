-- The machine that reads tokens by precedence, with a list of what is open.
use Rattle.std.specs.Prelude.{ℕ, Bool, true, false, List, [], ◌∷◌, Option, Some, None, cond, ◌&&◌}
use Rattle.wl_syntax.specs.declared.operator.Infix.{Infix}
use Rattle.wl_syntax.specs.declared.operator.Infix.TheVariants.{Message, Beside, UpSet, UpSetDelayed, Tag, Semi}
use Rattle.wl_syntax.specs.declared.operator.Prefix.{Prefix}
use Rattle.wl_syntax.specs.declared.operator.Postfix.{Postfix}
use Rattle.wl_syntax.specs.Token.{name, text, Token}
use Rattle.wl_syntax.specs.Token as token
use Rattle.wl_syntax.specs.Table.{square_level, semi_level, end_level, infix_level, prefix_level, postfix_level, takes, leaves, Role, joins, ends, parts, nothing, role, prefix_of}
use Rattle.wl_syntax.specs.Tree.{Tree, leaf, paren, brace, call, part, before, after, last, between, Elems, none, more, is_name, is_definition}

pub data Open : Type 0 where
  open_infix : Tree → Infix → Open
  open_prefix : Prefix → Open
  open_round : Open
  open_brace : Elems → Open
  open_call : Tree → Elems → Open
  open_part : Tree → Elems → Open

-- An operand is wanted; one stands there; a `;` stands behind one, infix or postfix by the next token; the first `]` of a
-- part was read; or no token could have come here.
pub data State : Type 0 where
  wants : List Open → State
  has : List Open → Tree → State
  semi : List Open → Tree → State
  shuts : List Open → Tree → State
  dead : State

unfoldable pub fits_left : Infix → Tree → Bool
fits_left Message x = is_name x
fits_left _ x = true

unfoldable pub fits_right : Infix → Tree → Bool
fits_right Tag x = is_definition x
fits_right _ x = true

-- What is open and binds tighter than an operator of level q is closed, with x as its right child.
unfoldable pub close : ℕ → List Open → Tree → State
close q [] x = has [] x
close q (open_infix l o ∷ s) x = cond (takes q (infix_level o)) (cond (fits_right o x) (close q s (between l o x)) dead) (cond (leaves (infix_level o) q) (has (open_infix l o ∷ s) x) dead)
close q (open_prefix o ∷ s) x = cond (takes q (prefix_level o)) (close q s (before o x)) (cond (leaves (prefix_level o) q) (has (open_prefix o ∷ s) x) dead)
close q (open_round ∷ s) x = has (open_round ∷ s) x
close q (open_brace xs ∷ s) x = has (open_brace xs ∷ s) x
close q (open_call f xs ∷ s) x = has (open_call f xs ∷ s) x
close q (open_part f xs ∷ s) x = has (open_part f xs ∷ s) x

-- the same from a state
unfoldable pub closed : ℕ → State → State
closed q (has s x) = close q s x
closed q (semi s x) = close q s (last x)
closed q st = st

-- of the infix operators of level 29 only `=` and `:=` stand right on a `/:`
unfoldable pub tag_bars : Infix → Bool
tag_bars UpSet = true
tag_bars UpSetDelayed = true
tag_bars Tag = true
tag_bars _ = false

unfoldable pub on_tag : List Open → Bool
on_tag (open_infix l Tag ∷ s) = true
on_tag _ = false

unfoldable pub join : Infix → State → State
join o (has s x) = cond (on_tag s && tag_bars o) dead (cond (fits_left o x) (wants (open_infix x o ∷ s)) dead)
join o _ = dead

unfoldable pub end_with : Postfix → State → State
end_with o (has s x) = has s (after x o)
end_with o _ = dead

unfoldable pub part_with : State → State
part_with (has s x) = semi s x
part_with _ = dead

unfoldable pub open_square : State → State
open_square (has s x) = wants (open_call x none ∷ s)
open_square _ = dead

unfoldable pub close_round : State → State
close_round (has (open_round ∷ s) x) = has s (paren x)
close_round _ = dead

unfoldable pub close_brace : State → State
close_brace (has (open_brace xs ∷ s) x) = has s (brace (more xs x))
close_brace _ = dead

unfoldable pub close_square : State → State
close_square (has (open_call f xs ∷ s) x) = has s (call f (more xs x))
close_square (has (open_part f xs ∷ s) x) = shuts s (part f xs x)
close_square _ = dead

unfoldable pub next_element : State → State
next_element (has (open_call f xs ∷ s) x) = wants (open_call f (more xs x) ∷ s)
next_element (has (open_part f xs ∷ s) x) = wants (open_part f (more xs x) ∷ s)
next_element (has (open_brace xs ∷ s) x) = wants (open_brace (more xs x) ∷ s)
next_element _ = dead

unfoldable pub empty_square : List Open → State
empty_square (open_call f none ∷ s) = has s (call f none)
empty_square _ = dead

unfoldable pub empty_brace : List Open → State
empty_brace (open_brace none ∷ s) = has s (brace none)
empty_brace _ = dead

unfoldable pub second_square : List Open → State
second_square (open_call f none ∷ s) = wants (open_part f none ∷ s)
second_square _ = dead

unfoldable pub prefixed : List Open → Option Prefix → State
prefixed s (Some o) = wants (open_prefix o ∷ s)
prefixed s None = dead

unfoldable pub names_wanted : List Open → Bool
names_wanted (open_infix l Message ∷ s) = true
names_wanted _ = false

-- a token where an operand is wanted
unfoldable pub start_any : List Open → Token → State
start_any s (token.atom a) = has s (leaf a)
start_any s (token.sign g) = prefixed s (prefix_of g)
start_any s token.open_round = wants (open_round ∷ s)
start_any s token.open_brace = wants (open_brace none ∷ s)
start_any s token.open_square = second_square s
start_any s token.close_square = empty_square s
start_any s token.close_brace = empty_brace s
start_any s _ = dead

-- and where a name is wanted
unfoldable pub start_name : List Open → Token → State
start_name s (token.atom (name a)) = has s (leaf (name a))
start_name s (token.atom (text a)) = has s (leaf (text a))
start_name s _ = dead

unfoldable pub start : List Open → Token → State
start s k = cond (names_wanted s) (start_name s k) (start_any s k)

unfoldable pub started : State → Token → State
started (wants s) k = start s k
started _ k = dead

unfoldable pub with_role : List Open → Tree → Role → State
with_role s x (joins o) = join o (close (infix_level o) s x)
with_role s x (ends o) = end_with o (close (postfix_level o) s x)
with_role s x parts = part_with (close semi_level s x)
with_role s x nothing = dead

-- a token behind an operand
unfoldable pub go_on : List Open → Tree → Token → State
go_on s x (token.sign g) = with_role s x (role g)
go_on s x token.open_square = open_square (close square_level s x)
go_on s x token.close_round = close_round (close end_level s x)
go_on s x token.close_square = close_square (close end_level s x)
go_on s x token.close_brace = close_brace (close end_level s x)
go_on s x token.comma = next_element (close end_level s x)
go_on s x k = started (join Beside (close (infix_level Beside) s x)) k

-- the same as functions of a state
unfoldable pub beside : Token → State → State
beside k st = started (join Beside (closed (infix_level Beside) st)) k

unfoldable pub behind : Role → State → State
behind (joins o) st = join o (closed (infix_level o) st)
behind (ends o) st = end_with o (closed (postfix_level o) st)
behind parts st = part_with (closed semi_level st)
behind nothing st = dead

unfoldable pub brace_opened : List Open → State
brace_opened s = wants (open_brace none ∷ s)

unfoldable pub ends_element : Token → Bool
ends_element token.close_round = true
ends_element token.close_square = true
ends_element token.close_brace = true
ends_element token.comma = true
ends_element _ = false

unfoldable pub step : State → Token → State
step (wants s) k = start s k
step (has s x) k = go_on s x k
step (semi s x) k = cond (ends_element k) (go_on s (last x) k) (start (open_infix x Semi ∷ s) k)
step (shuts s t) token.close_square = has s t
step (shuts s t) _ = dead
step dead k = dead

unfoldable pub run : State → List Token → State
run st [] = st
run st (k ∷ ks) = run (step st k) ks

unfoldable pub finished : State → Option Tree
finished (has [] x) = Some x
finished _ = None

unfoldable pub finish : State → Option Tree
finish (has s x) = finished (close end_level s x)
finish (semi s x) = finished (close end_level s (last x))
finish _ = None

unfoldable pub parse : List Token → Option Tree
parse ks = finish (run (wants []) ks)

unfoldable pub IsAlive : State → Type 0
IsAlive dead = ⊥
IsAlive _ = Unit {0}
