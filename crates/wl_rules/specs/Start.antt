-- The definitions at the start: which symbols are Protected, attributes, limits and message texts. All of it is this project's own, written after the manual.
use Rattle.std.specs.Prelude.{ℕ, true, false, ◌==◌, List, [], ◌∷◌, ◌++◌, map, codes, bytes_eq}
use Rattle.wl_expr.specs.Stamped.{unstamped}
use Rattle.wl_expr.specs.Tree.{symbol}
use Rattle.wl_expr.specs.Words.{Name, Bytes, natural}
use Rattle.wl_rules.specs.Attributes.{AttributeSet, no_attributes, with, with_all}
use Rattle.wl_rules.specs.Entries.{Entry, empty_entry, no_rules, put_message}
use Rattle.wl_rules.specs.Stored.{Slot, Stored}
use Rattle.wl_rules.specs.declared.attribute.Attribute.{Attribute}
use Rattle.wl_rules.specs.declared.attribute.Attribute.TheVariants.{Flat, HoldAll, HoldAllComplete, HoldFirst, HoldRest, Listable, NumericFunction, OneIdentity, Orderless, Protected, SequenceHold}
use Rattle.wl_rules.specs.declared.rule.Rule.{Rule}

-- the words of a text with one blank between each two
abbrev pub words_on : Bytes → Bytes → List Bytes
words_on w [] = w ∷ []
words_on w (c ∷ cs) = elim (c == 32) [ true ↦ w ∷ words_on [] cs | false ↦ words_on (w ++ c ∷ []) cs ]

abbrev pub words : Bytes → List Bytes
words text = words_on [] text

-- ---- the symbols of the tables

-- symbols that are Protected, and the attributes that they have besides
abbrev pub SymbolRow : Type 0
SymbolRow = List Attribute × List Name

-- the two limits follow these, and are not Protected
abbrev pub symbol_rows : List SymbolRow
symbol_rows =
    (Flat ∷ Listable ∷ NumericFunction ∷ OneIdentity ∷ Orderless ∷ [], words (codes "Plus Times"))
    ∷ (Listable ∷ NumericFunction ∷ OneIdentity ∷ [], words (codes "Power"))
    ∷ (Listable ∷ NumericFunction ∷ [], words (codes "Abs Sign Floor Ceiling Mod Quotient Factorial"))
    ∷ (Listable ∷ [], words (codes "Numerator Denominator EvenQ OddQ StringLength Characters Out In"))
    ∷ (Flat ∷ Listable ∷ OneIdentity ∷ Orderless ∷ [], words (codes "GCD"))
    ∷ (Flat ∷ NumericFunction ∷ OneIdentity ∷ Orderless ∷ [], words (codes "Max Min"))
    ∷ (Flat ∷ OneIdentity ∷ [], words (codes "StringJoin Join"))
    ∷ (Flat ∷ HoldAll ∷ OneIdentity ∷ [], words (codes "And Or"))
    ∷ (HoldAll ∷ [], words (codes "Hold HoldPattern CompoundExpression Condition Function Module Block With Table Do While For Which Clear ClearAll Attributes Protect Unprotect Check CheckAbort Quiet On Off TagUnset"))
    ∷ (HoldAll ∷ SequenceHold ∷ [], words (codes "SetDelayed UpSetDelayed TagSet TagSetDelayed"))
    ∷ (HoldFirst ∷ [], words (codes "Pattern Unset AddTo SubtractFrom TimesBy DivideBy Increment Decrement PreIncrement PreDecrement AppendTo PrependTo Catch SetAttributes ClearAttributes Message MessageName"))
    ∷ (HoldFirst ∷ SequenceHold ∷ [], words (codes "Set UpSet"))
    ∷ (HoldRest ∷ [], words (codes "If PatternTest Switch"))
    ∷ (HoldRest ∷ SequenceHold ∷ [], words (codes "RuleDelayed"))
    ∷ (SequenceHold ∷ [], words (codes "Rule"))
    ∷ (HoldAllComplete ∷ [], words (codes "HoldComplete Unevaluated MakeBoxes RestoreEntry"))
    ∷ ([], words (codes "Rational IntegerQ NumberQ AtomQ StringQ ListQ TrueQ Equal Unequal Less LessEqual Greater GreaterEqual Inequality SameQ UnsameQ Not True False"))
    ∷ ([], words (codes "Head Length Depth Order OrderedQ First Last Rest Most Append Prepend Reverse Sort Union DeleteDuplicates Part Take Drop Flatten Range Total Transpose Partition Apply MapApply Map Array ToString Evaluate ReleaseHold Identity"))
    ∷ ([], words (codes "Select Scan Fold FoldList Nest NestList FixedPoint MatchQ MemberQ Count Cases DeleteCases FreeQ Replace ReplaceAll ReplaceRepeated Throw Abort Break Continue Print"))
    ∷ ([], words (codes "List Slot SlotSequence Blank BlankSequence BlankNullSequence Optional Alternatives Repeated RepeatedNull StringExpression Sequence"))
    ∷ ([], words (codes "Null $Aborted $Failed Indeterminate ComplexInfinity Overflow Integer String Symbol General Thread"))
    ∷ ([], words (codes "Flat HoldAll HoldAllComplete HoldFirst HoldRest Listable NumericFunction OneIdentity Orderless Protected SequenceHold"))
    ∷ ([], words (codes "StringMatchQ StringCases StringReplace DigitCharacter LetterCharacter Expand Collect Coefficient PolynomialQ"))
    ∷ []

-- a limit, and the number that it has
abbrev pub limit_rows : List (Name × ℕ)
limit_rows = (codes "$RecursionLimit", 200) ∷ (codes "$IterationLimit", 1000) ∷ []

-- ---- message texts

pub record MessageText : Type 0 where
  pub symbol : Name
  pub tag : Bytes
  pub text : Bytes

abbrev pub message_rows : List MessageText
message_rows =
    record { symbol = codes "$RecursionLimit"; tag = codes "reclim"; text = codes "Recursion depth of `1` exceeded." }
    ∷ record { symbol = codes "$IterationLimit"; tag = codes "itlim"; text = codes "Iteration limit of `1` exceeded." }
    ∷ record { symbol = codes "$RecursionLimit"; tag = codes "limset"; text = codes "Cannot set `1` to `2`." }
    ∷ record { symbol = codes "$IterationLimit"; tag = codes "limset"; text = codes "Cannot set `1` to `2`." }
    ∷ record { symbol = codes "General"; tag = codes "large"; text = codes "Expression too large." }
    ∷ record { symbol = codes "General"; tag = codes "ovfl"; text = codes "Overflow occurred in computation." }
    ∷ record { symbol = codes "Power"; tag = codes "infy"; text = codes "Infinite expression `1` encountered." }
    ∷ record { symbol = codes "Power"; tag = codes "indet"; text = codes "Indeterminate expression `1` encountered." }
    ∷ record { symbol = codes "Set"; tag = codes "wrsym"; text = codes "Symbol `1` is Protected." }
    ∷ record { symbol = codes "Set"; tag = codes "write"; text = codes "Tag `1` in `2` is Protected." }
    ∷ record { symbol = codes "Set"; tag = codes "setraw"; text = codes "Cannot assign to raw object `1`." }
    ∷ record { symbol = codes "Set"; tag = codes "shape"; text = codes "Lists `1` and `2` are not the same shape." }
    ∷ record { symbol = codes "TagSet"; tag = codes "tagnf"; text = codes "Tag `1` not found in `2`." }
    ∷ record { symbol = codes "Thread"; tag = codes "tdlen"; text = codes "Objects of unequal length in `1` cannot be combined." }
    ∷ record { symbol = codes "Part"; tag = codes "partw"; text = codes "Part `1` of `2` does not exist." }
    ∷ record { symbol = codes "Throw"; tag = codes "nocatch"; text = codes "Uncaught `1` returned to top level." }
    ∷ []

-- the entry with the texts of this symbol
abbrev pub with_texts : Name → List MessageText → Entry Rule → Entry Rule
with_texts x [] e = e
with_texts x (m ∷ ms) e = elim (bytes_eq x m.symbol) [ true ↦ with_texts x ms (put_message m.tag m.text e) | false ↦ with_texts x ms e ]

-- ---- the whole

-- the entry of a symbol at the start, of version 0
abbrev pub slot_of_symbol : AttributeSet → Name → Slot
slot_of_symbol s x = record { version = 0; entry = with_texts x message_rows (record empty_entry { attributes = s }) }

-- the attributes of a row, and Protected
abbrev pub protected_with : List Attribute → AttributeSet
protected_with as' = with_all (with no_attributes Protected) as'

abbrev pub symbols_in : List SymbolRow → List (Name × Slot)
symbols_in [] = []
symbols_in (r ∷ rs) = map (λ x. (x, slot_of_symbol (protected_with r.0) x)) r.1 ++ symbols_in rs

-- the rule by which a limit has its number
abbrev pub limit_rule : Name → ℕ → Rule
limit_rule x n = record { left = unstamped (symbol x); body = unstamped (natural n) }

abbrev pub slot_of_limit : Name → ℕ → Slot
slot_of_limit x n = record { version = 0; entry = with_texts x message_rows (record empty_entry { rules = record no_rules { own = limit_rule x n ∷ [] } }) }

-- the symbols in the order of the tables, each at its place; no version is drawn yet
abbrev pub start_store : Stored
start_store = record { rows = symbols_in symbol_rows ++ map (λ l. (l.0, slot_of_limit l.0 l.1)) limit_rows; drawn = 0 }
