-- The text of a message: in the stored text a mark, which is two backticks around decimal digits without a leading zero, stands for the argument with that number, texts as they are and other expressions in InputForm. Reference pages of `Message` and `StringForm`; the exact reading of marks is this project's own.
use Rattle.std.specs.Prelude.{ℕ, zero, suc, ◌+◌, ◌-◌, Bool, false, ◌&&◌, not, ◌==◌, if◌then◌else◌, List, [], ◌∷◌, ◌++◌, length, Option, Some, None, option_map, slice_get}
use Rattle.std.specs.List.{list_all}
use Rattle.std.specs.Option.{option_and_then}
use Rattle.std.specs.Char.{is_ascii_digit}
use Rattle.std.specs.Str.Parse.{digits_value}
use Rattle.wl_expr.specs.Tree.{Tree, text}
use Rattle.wl_expr.specs.Words.{Bytes}
use Rattle.wl_form.specs.Texts.{input_text}

-- a text as it is, another expression in InputForm
abbrev pub argument_text : Tree → Bytes
argument_text (text s) = s
argument_text t = input_text t

abbrev pub backtick : ℕ
backtick = 96

-- what stands before the next backtick, where there is one
abbrev pub to_backtick : Bytes → Option Bytes
to_backtick [] = None
to_backtick (b ∷ bs) = if b == backtick then Some [] else option_map (λ ds. b ∷ ds) (to_backtick bs)

-- decimal digits without a leading zero, at least one
abbrev pub is_numeral : Bytes → Bool
is_numeral [] = false
is_numeral (b ∷ bs) = not (b == 48) && list_all is_ascii_digit (b ∷ bs)

abbrev pub if_numeral : Bytes → Option Bytes
if_numeral ds = if is_numeral ds then Some ds else None

-- the digits of the mark whose first backtick stands right before these bytes, if one stands there
abbrev pub mark_digits : Bytes → Option Bytes
mark_digits bs = option_and_then if_numeral (to_backtick bs)

-- what a mark stands for: the argument, counted from 1, or the mark itself where there is none
abbrev pub argument_or_mark : Bytes → Option Tree → Bytes
argument_or_mark ds (Some t) = argument_text t
argument_or_mark ds None = backtick ∷ (ds ++ backtick ∷ [])

abbrev pub marked : List Tree → Bytes → Bytes
marked args ds = argument_or_mark ds (slice_get args (digits_value 10 ds - 1))

-- at a backtick: what the mark stands for, and what follows its second backtick; or the backtick as it is, and what follows it
abbrev pub at_backtick : List Tree → Option Bytes → (ℕ → Bytes) → Bytes
at_backtick args (Some ds) further = marked args ds ++ further (length ds + 1)
at_backtick args None further = backtick ∷ further 0

-- the text that is made of these bytes, of which this many belong to a mark that stands before them
abbrev pub filled_from : ℕ → List Tree → Bytes → Bytes
filled_from passed args [] = []
filled_from (suc passed) args (b ∷ bs) = filled_from passed args bs
filled_from zero args (b ∷ bs) = if b == backtick then at_backtick args (mark_digits bs) (λ n. filled_from n args bs) else b ∷ filled_from 0 args bs

-- the stored text with the arguments in place of its marks, read once from left to right
abbrev pub filled_text : Bytes → List Tree → Bytes
filled_text t args = filled_from 0 args t
