-- One name to unfold where a proof computes what a short text reads as.
use Rattle.std.proofs.Common.{ℕ, zero, suc, ◌<◌, ◌≡◌, nat_lt, Bool, true, false, List, [], ◌∷◌, ◌&&◌, arith}
use Rattle.std.proofs.lemmas.Bool.Decides.{nat_tests}
use Rattle.std.specs.Str.{IsUtf8, IsAscii, chars}
use Rattle.std.proofs.lemmas.Str.{IsUtf8-from_ascii}
use Rattle.unicode_ident.proofs.Computing.{unicode_ident}
use Rattle.wl_scan.specs.Tokens.{rows, scanned_from}
use Rattle.wl_syntax.specs.Ending.{sign_tag, tag_after, levels_after}
use Rattle.wl_syntax.specs.Tags.{is_dot, met_from}
use Rattle.wl_syntax.specs.Machine.{parse, run, step, started, start, start_any, start_name, names_wanted, prefixed, go_on, with_role, behind, join, closed, close, end_with, fits_left, fits_right, on_tag, beside, brace_opened, ends_element, close_brace, next_element, part_with, open_square, close_round, close_square, empty_square, empty_brace, second_square, tag_bars, finish, finished, IsAlive}
use Rattle.wl_syntax.specs.Table.{infix_level, prefix_level, postfix_level, leans_right, leans_left, takes, leaves, role, prefix_of}
use Rattle.wl_syntax.specs.Tree.{is_name, is_definition}

-- `unfolding reading` opens the tokens of a text, the machine over them, and which levels are met
unfoldable pub reading : Unit {0}
unfolding chars rows scanned_from unicode_ident parse run step started start start_any start_name names_wanted prefixed go_on with_role behind join closed close end_with fits_left fits_right on_tag beside brace_opened ends_element close_brace next_element part_with open_square close_round close_square empty_square empty_brace second_square tag_bars finish finished IsAlive sign_tag tag_after levels_after is_dot met_from infix_level prefix_level postfix_level leans_right leans_left takes leaves role prefix_of is_name is_definition
reading = tt

-- bytes below 128 are a text
abbrev pub all_ascii : List ℕ → Bool
all_ascii [] = true
all_ascii (b ∷ bs) = nat_lt b 128 && all_ascii bs

first : (b : ℕ) (rest : Bool) → (nat_lt b 128 && rest) ≡ true → b < 128
first b rest t = grind (arith, nat_tests)

others : (a b : Bool) → (a && b) ≡ true → b ≡ true
others true b t = t
others false b t = cc

ascii : (bs : List ℕ) → all_ascii bs ≡ true → IsAscii bs
ascii [] t i = omega arith
ascii (b ∷ bs) t zero = first b (all_ascii bs) t
ascii (b ∷ bs) t (suc i) = ascii bs (others (nat_lt b 128) (all_ascii bs) t) i

pub ascii_text : (bs : List ℕ) → all_ascii bs ≡ true → IsUtf8 bs
ascii_text bs t = IsUtf8-from_ascii bs (ascii bs t)
