-- Print, messages, Off and On, Quiet and Check, and the history. Tutorials on messages and on the history; what counts as a look at it is this project's own.
use Rattle.std.specs.Prelude.{ℤ, negsuc, Bool, true, false, List, [], ◌∷◌, ◌++◌, Option, Some, None, option_map, codes}
use Rattle.wl_expr.specs.Tree.{Tree, text, symbol, node, none, more}
use Rattle.wl_expr.specs.Words.{Name, Bytes, is_the, int_of, null_symbol}
use Rattle.wl_rules.specs.Entries as entries
use Rattle.wl_desk.specs.MessageText.{argument_text}
use Rattle.wl_semantics.specs.Prog.{Prog, done, eval, What, set_off, show, recall_value, recall_input, Answer, nothing, rules, number, found, quietly, checked, ◌>>=◌, now, valued, entry_of, doing, asking, message, unchanged, result}

-- ---- `Print[a, b]`: one item with all of them, strings without quotes

abbrev pub joined : List Tree → Bytes
joined [] = []
joined (t ∷ ts) = argument_text t ++ joined ts

abbrev pub print_row : List Tree → Prog (Option Tree)
print_row es = do
  _ ← doing (show (joined es))
  result null_symbol

-- ---- messages

pub record MessageName : Type 0 where
  pub symbol : Name
  pub tag : Bytes

-- `s::t`
abbrev pub message_name : Tree → Option MessageName
message_name (node h (more (symbol s) (more (text t) none))) = elim (is_the (codes "MessageName") h) [ true ↦ Some (record { symbol = s; tag = t }) | false ↦ None ]
message_name t = None

abbrev pub message_by : Option MessageName → List Tree → Prog (Option Tree)
message_by None args = unchanged
message_by (Some m) args = do
  _ ← message m.symbol m.tag args
  result null_symbol

-- `Message[s::t, a, b]`
abbrev pub message_row : List Tree → Prog (Option Tree)
message_row (m ∷ args) = message_by (message_name m) args
message_row [] = unchanged

abbrev pub switch_by : Bool → Option MessageName → Prog (Option Tree)
switch_by off None = unchanged
switch_by off (Some m) = do
  _ ← doing (set_off m.symbol m.tag off)
  result null_symbol

-- `Off[s::t]`, `On[s::t]`
abbrev pub off_row : List Tree → Prog (Option Tree)
off_row (m ∷ []) = switch_by true (message_name m)
off_row es = unchanged

abbrev pub on_row : List Tree → Prog (Option Tree)
on_row (m ∷ []) = switch_by false (message_name m)
on_row es = unchanged

-- `MessageName[s, "t"]` gives the text, if s itself has one
abbrev pub message_name_row : List Tree → Prog (Option Tree)
message_name_row (symbol s ∷ text t ∷ []) = do
  e ← entry_of s
  done (option_map text (entries.message e t))
message_name_row es = unchanged

-- ---- Quiet and Check

-- `Quiet[e]` gives the value of e
abbrev pub quiet_row : List Tree → Prog (Option Tree)
quiet_row (e ∷ []) = eval quietly e (λ u b. now (valued u) >>= λ v. result v)
quiet_row es = unchanged

-- `Check[e, f]` gives f if a message was heard while e was evaluated, else the value of e
abbrev pub check_row : List Tree → Prog (Option Tree)
check_row (e ∷ f ∷ []) = eval checked e (λ u b. now (valued u) >>= λ v. result (elim b [ true ↦ f | false ↦ v ]))
check_row es = unchanged

-- ---- the history

abbrev pub found_in : Answer → Option Tree
found_in (found t) = t
found_in nothing = None
found_in (rules r) = None
found_in (number n) = None

-- looking for a line is an effect, even if there is none
abbrev pub recalled : What → Prog (Option Tree)
recalled w = do
  a ← asking w
  done (found_in a)

abbrev pub recalled_at : (ℤ → What) → Option ℤ → Prog (Option Tree)
recalled_at f None = unchanged
recalled_at f (Some n) = recalled (f n)

-- `Out[n]` is the value of line n, `Out[-k]` the value k lines back, `Out[]` the last one. A line that isn't there leaves the expression.
abbrev pub out_row : List Tree → Prog (Option Tree)
out_row [] = recalled (recall_value (negsuc 0))
out_row (n ∷ []) = recalled_at recall_value (int_of n)
out_row es = unchanged

-- `In[n]` is line n as it was read
abbrev pub in_row : List Tree → Prog (Option Tree)
in_row (n ∷ []) = recalled_at recall_input (int_of n)
in_row es = unchanged
