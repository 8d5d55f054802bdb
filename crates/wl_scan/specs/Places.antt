-- What is known at a place of a text about the bytes before it, as far as the cutting into cells depends on it: this project's own rules.
use Rattle.std.specs.Prelude.{ℕ, suc, ◌+◌, ◌-◌, Bool, true, false, not, ◌||◌, ◌&&◌, ◌==◌, if◌then◌else◌, Option, None, Some, is_some, List, [], ◌∷◌, codes}
use Rattle.std.specs.Str.{byte}
use Rattle.std.specs.List.{list_any}
use Rattle.wl_scan.specs.Characters.{is_blank}
use Rattle.wl_scan.specs.declared.place.Place.{Place}
use Rattle.wl_scan.specs.declared.place.Region.{Region}
use Rattle.wl_scan.specs.declared.place.Region.TheVariants.{Code, Opening, Quoted, Escape, Comment, CommentOpening, CommentClosing}

-- where a cell begins: in code, at no depth, before its first significant byte
abbrev pub beginning : Place
beginning = record { region = Code; depth = 0; last = None; before_last = None }

-- after a byte outside comments, which is significant unless it is blank
abbrev pub seen : Place → ℕ → Place
seen p b = if is_blank b then p else record p { last = Some b; before_last = p.last }

-- after a byte in code: a `"` opens a string, a bracket changes the depth, and a `(` may yet open a comment
abbrev pub after_code : Place → ℕ → Place
after_code p b =
    if b == byte "(" then record p { region = Opening }
    else (if b == byte "\"" then record (seen p b) { region = Quoted }
    else (if (b == byte "[") || (b == byte "{") then record (seen p b) { depth = p.depth + 1 }
    else (if (b == byte ")") || (b == byte "]") || (b == byte "}") then record (seen p b) { depth = p.depth - 1 }
    else seen p b)))

-- behind a `(` that opens no comment
abbrev pub opened : Place → Place
opened p = record (seen p (byte "(")) { region = Code; depth = p.depth + 1 }

-- after a byte in n comments that completes no mark: it may begin one
abbrev pub after_comment : ℕ → ℕ → Region
after_comment n b = if b == byte "(" then CommentOpening n else (if b == byte "*" then CommentClosing n else Comment n)

-- behind the `*)` that closes the innermost of n comments
abbrev pub outside : ℕ → Region
outside n = if n == 1 then Code else Comment (n - 1)

-- after a byte in a comment
abbrev pub in_comment : Region → ℕ → Region
in_comment (Comment n) b = after_comment n b
in_comment (CommentOpening n) b = if b == byte "*" then Comment (n + 1) else after_comment n b
in_comment (CommentClosing n) b = if b == byte ")" then outside n else after_comment n b
in_comment region b = region

-- after a byte, by cases on where it stands
abbrev pub after_in : Region → Place → ℕ → Place
after_in Code p b = after_code p b
after_in Opening p b = if b == byte "*" then record p { region = Comment 1 } else after_code (opened p) b
after_in Quoted p b =
    if b == byte "\"" then record (seen p b) { region = Code }
    else (if b == byte "\\" then record (seen p b) { region = Escape }
    else seen p b)
after_in Escape p b = record (seen p b) { region = Quoted }
after_in region p b = record p { region = in_comment region b }

abbrev pub after : Place → ℕ → Place
after p b = after_in p.region p b

abbrev pub is_code : Region → Bool
is_code Code = true
is_code _ = false

-- whether the byte before is this one
abbrev pub is_behind : Option ℕ → ℕ → Bool
is_behind None b = false
is_behind (Some p) b = p == b

-- whether a cell that ends in the byte q, with p before it, lacks a further operand. `++`, `--` and a lone `&` may end one
abbrev pub is_continuing : ℕ → Option ℕ → Bool
is_continuing q p =
    list_any (λ x. q == x) (codes "*/^=<>,|@~?:")
    || ((q == byte "+") && not (is_behind p (byte "+")))
    || ((q == byte "-") && not (is_behind p (byte "-")))
    || ((q == byte "&") && is_behind p (byte "&"))
    || (((q == byte ".") || (q == byte ";")) && is_behind p (byte "/"))

-- whether a cell may end behind these two last significant bytes
abbrev pub is_complete : Option ℕ → Option ℕ → Bool
is_complete None p = false
is_complete (Some q) p = not (is_continuing q p)

-- whether this byte ends the cell: a line feed in code at no depth behind a complete tail
abbrev pub is_end : Place → ℕ → Bool
is_end p b = (b == byte "\n") && is_code p.region && (p.depth == 0) && is_complete p.last p.before_last

-- whether what stands before the end of the input is a cell: it has a significant byte, as a `(` at the very end is, or a comment is open
abbrev pub is_rest : Place → Bool
is_rest p = is_some p.last || not (is_code p.region)

-- how many comments are open
abbrev pub nesting : Region → ℕ
nesting (Comment n) = n
nesting (CommentOpening n) = n
nesting (CommentClosing n) = n
nesting _ = 0

-- how many of these bytes come before one that ends the cell
abbrev pub run_length : Place → List ℕ → ℕ
run_length p [] = 0
run_length p (b ∷ bs) = if is_end p b then 0 else suc (run_length (after p b) bs)

-- what is known behind them
abbrev pub run_place : Place → List ℕ → Place
run_place p [] = p
run_place p (b ∷ bs) = if is_end p b then p else run_place (after p b) bs
