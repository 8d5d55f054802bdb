-- What each effect does to the world, what it answers, and the names that it reads. Reference pages of the functions that have these effects; that numbers stand still at the last one is this project's own.
use Rattle.std.specs.Prelude.{ℕ, ℤ, pos, negsuc, zero, suc, ◌+◌, ◌-◌, ◌^◌, min, true, false, nat_le, List, [], ◌∷◌, Option, None, option_map, slice_get, length, codes}
use Rattle.wl_expr.specs.Words.{Name}
use Rattle.wl_rules.specs.Entries.{PlainRule, Entry, left_side, with_entry, no_rules, cleared, with_attributes, with_rules}
use Rattle.wl_rules.specs.Entries as entries
use Rattle.wl_desk.specs.Desk.{issued, printed}
use Rattle.wl_semantics.specs.State.{Line, World}
use Rattle.wl_semantics.specs.Prog.{What, put_rule, remove_rule, clear, set_attributes, put_message, set_off, take_rules, give_rules, issue, show, draw, recall_value, recall_input, Answer, nothing, rules, number, found}

-- the last number that can be drawn
abbrev pub last_number : ℕ
last_number = 2 ^ 64 - 1

abbrev pub changed : Name → (Entry PlainRule → Entry PlainRule) → World → World
changed x f w = record w { definitions = with_entry x (f (w.definitions x)) w.definitions }

-- the n-th line, from 1
abbrev pub line_at : ℕ → List Line → Option Line
line_at zero ls = None
line_at (suc n) ls = slice_get ls n

-- the line that is k lines back, where n lines are there
abbrev pub line_back : ℕ → ℕ → List Line → Option Line
line_back n k ls = elim (nat_le k n) [ true ↦ line_at (n + 1 - k) ls | false ↦ None ]

abbrev pub value_line : ℤ → List Line → Option Line
value_line (pos n) ls = line_at n ls
value_line (negsuc n) ls = line_back (length ls) (suc n) ls

abbrev pub input_line : ℤ → List Line → Option Line
input_line (pos n) ls = line_at n ls
input_line (negsuc n) ls = None

unfoldable pub acted : What → World → Answer × World
acted (put_rule x k r) w = (nothing, changed x (entries.put_rule left_side k r) w)
acted (remove_rule x k l) w = (nothing, changed x (entries.remove_rule left_side k l) w)
acted (clear x b) w = (nothing, changed x (cleared b) w)
acted (set_attributes x s) w = (nothing, changed x (with_attributes s) w)
acted (put_message x t s) w = (nothing, changed x (entries.put_message t s) w)
acted (set_off x t b) w = (nothing, changed x (entries.set_off t b) w)
acted (take_rules x) w = (rules (w.definitions x).rules, changed x (with_rules no_rules) w)
acted (give_rules x r) w = (nothing, changed x (with_rules r) w)
acted (issue s t args) w = (nothing, record w { desk = issued w.definitions s t args w.desk })
acted (show item) w = (nothing, record w { desk = printed item w.desk })
acted draw w = let n = min (w.module_number + 1) last_number in (number n, record w { module_number = n })
acted (recall_value n) w = (found (option_map (λ l. l.value) (value_line n w.history)), w)
acted (recall_input n) w = (found (option_map (λ l. l.input) (input_line n w.history)), w)

-- whatever touches an entry reads its name; a message has its text from its symbol or from `General`
abbrev pub touched : What → List Name
touched (put_rule x k r) = x ∷ []
touched (remove_rule x k l) = x ∷ []
touched (clear x b) = x ∷ []
touched (set_attributes x s) = x ∷ []
touched (put_message x t s) = x ∷ []
touched (set_off x t b) = x ∷ []
touched (take_rules x) = x ∷ []
touched (give_rules x r) = x ∷ []
touched (issue s t args) = s ∷ codes "General" ∷ []
touched (show item) = []
touched draw = []
touched (recall_value n) = []
touched (recall_input n) = []
