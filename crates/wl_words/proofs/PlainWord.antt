-- A word that doesn't begin with a dash goes to the positional.
use Rattle.std.proofs.Common.{◌≡◌, ◌∙◌, ℕ, false, List, [], ◌∷◌, Option, Some, None, is_some, refl, ap}
use Rattle.std.specs.Str.{bytes_eq}
use Rattle.clap.specs.Lexer.{long_of, short_of}
use Rattle.clap.specs.Walk.{Held, Rule, Step, Walk, arg_by_index, after_step, finished, idle, nothing_held, settled, to_positional, value, walk_from, walked, word_met}
use Rattle.clap.specs.Simple.{Shape, built, entered}
use Rattle.clap.specs.Kinds.{Kinds, or_else}
use Rattle.clap.specs.Faults.{check_fault, defaults_fault, entered_fault, settle_fault, step_fault, turn_fault, walk_fault, word_fault}
use Rattle.clap.proofs.OnLiterals.{clap_on_literals}
use Rattle.wl_words.specs.Command.{command}
use Rattle.wl_words.specs.Words.{Words, file, defaults, unless_faulty, words_of_matches, words_read}
use Rattle.wl_words.specs.Laws.{ReadsPlainWord, begins_with_dash}

abbrev top : Shape
top = (built command).top

abbrev start : Walk
start = walk_from nothing_held

-- where the walk stands behind the word
abbrev behind : List ℕ → Walk
behind word = to_positional top.rules (arg_by_index top.rules 1) word start nothing_held

-- what is read where the walk over one word ends at w, and the word has the faults t
abbrev read_at : Walk → Kinds → Option Words
read_at w t =
    unless_faulty (or_else (or_else t []) (or_else (entered_fault (built command) w.stopped) (or_else (settle_fault top.rules false w.held)
    (or_else (defaults_fault (settled top.rules w.held).rows top.rules)
    (check_fault top (finished top.rules w.held) (is_some (entered (built command) w.stopped)))))))
    (words_of_matches (finished top.rules w.held))

one_word : (word : List ℕ) → words_read (word ∷ []) ≡ read_at (walked top.rules [] start word) (turn_fault top [] start word)
unfolding walk_fault
one_word word = refl

no_dashes : (word : List ℕ) → begins_with_dash word ≡ false → bytes_eq word (45 ∷ 45 ∷ []) ≡ false
no_dashes [] h = refl
no_dashes (b ∷ bs) h = rw h refl

no_long : (word : List ℕ) → begins_with_dash word ≡ false → long_of word ≡ None
no_long [] h = refl
no_long (b ∷ bs) h = rw h refl

no_short : (word : List ℕ) → begins_with_dash word ≡ false → short_of word ≡ None
no_short [] h = refl
no_short (b ∷ bs) h = rw h refl

met_plain : (rules : List Rule) (word : List ℕ) (h : Held) → begins_with_dash word ≡ false → word_met rules [] false idle 1 word h ≡ (h, value)
met_plain rules word h plain = rw (no_dashes word plain, no_long word plain, no_short word plain) refl

fault_plain : (s : Shape) (word : List ℕ) (h : Held) → begins_with_dash word ≡ false → word_fault s [] false idle word h ≡ []
fault_plain s word h plain = rw (no_dashes word plain, no_long word plain, no_short word plain) refl

walked_plain : (word : List ℕ) → begins_with_dash word ≡ false → walked top.rules [] start word ≡ behind word
unfolding walked
walked_plain word plain =
    ap (λ (m : Held × Step). after_step top.rules word start m.0 m.1) (met_plain top.rules word nothing_held plain)

turn_plain : (word : List ℕ) → begins_with_dash word ≡ false → turn_fault top [] start word ≡ []
turn_plain word plain =
    λ i. or_else (fault_plain top word nothing_held plain i)
    (step_fault top 1 (met_plain top.rules word nothing_held plain i).0 (met_plain top.rules word nothing_held plain i).1)

read_behind : (word : List ℕ) → read_at (behind word) [] ≡ Some (defaults (file word))
unfolding clap_on_literals
read_behind word = refl

pub plain_word : ReadsPlainWord
plain_word word plain =
    one_word word ∙ (λ i. read_at (walked_plain word plain i) (turn_plain word plain i)) ∙ read_behind word
