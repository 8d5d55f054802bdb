-- The heads of full forms are names.
use Rattle.std.proofs.Common.{ℕ, ◌<◌, ◌≡◌, Bool, true, false, List, [], ◌∷◌, ◌&&◌, ◌||◌, nat_lt, length, refl, arith}
use Rattle.std.proofs.lemmas.Bool.Decides.{nat_tests}
use Rattle.wl_ports.specs.Name.{IsName}
use Rattle.wl_ports.proofs.AsciiNames.{begins_ascii_name, continues_ascii_name, all_continue_ascii_name, ascii_is_name}
use Rattle.wl_syntax.specs.declared.operator.Infix.{Infix}
use Rattle.wl_syntax.specs.declared.operator.Infix.TheVariants.{Message, PatternTest, Of, Map, Apply, MapApply, StringJoin, Power, Divide, Times, Beside, Plus, Minus, Equal, Unequal, Less, LessEqual, Greater, GreaterEqual, SameQ, UnsameQ, And, Or, Alternatives, Colon, StringExpression, Condition, Rule, RuleDelayed, ReplaceAll, ReplaceRepeated, AddTo, SubtractFrom, TimesBy, DivideBy, Into, Set, SetDelayed, UpSet, UpSetDelayed, Tag, Semi}
use Rattle.wl_syntax.specs.declared.operator.Prefix.{Prefix}
use Rattle.wl_syntax.specs.declared.operator.Prefix.TheVariants.{PreIncrement, PreDecrement, Negate, Not}
use Rattle.wl_syntax.specs.declared.operator.Postfix.{Postfix}
use Rattle.wl_syntax.specs.declared.operator.Postfix.TheVariants.{Increment, Decrement, Factorial, Repeated, RepeatedNull, Function, Unset}
use Rattle.wl_syntax.specs.declared.chain.Tagged.{Tagged}
use Rattle.wl_syntax.specs.declared.chain.Tagged.TheVariants.{TagSet, TagSetDelayed, TagUnset}
use Rattle.wl_syntax.specs.Lower.{tagged_name}
use Rattle.wl_syntax.specs.Table.{infix_name, prefix_name, postfix_name, all_letters, is_head}

both : (a b : Bool) → (a && b) ≡ true → (a ≡ true) × (b ≡ true)
both true true e = (refl, refl)
both true false e = absurd (cc)
both false b e = absurd (cc)

abbrev is_letter : ℕ → Bool
is_letter b = (nat_lt 64 b && nat_lt b 91) || (nat_lt 96 b && nat_lt b 123)

begins : (b : ℕ) → is_letter b ≡ true → begins_ascii_name b ≡ true
begins b e = grind (arith, nat_tests)

goes_on : (b : ℕ) → is_letter b ≡ true → continues_ascii_name b ≡ true
goes_on b e = grind (arith, nat_tests)

letters : (s : List ℕ) → all_letters s ≡ true → all_continue_ascii_name s ≡ true
letters [] e = refl
letters (b ∷ bs) e = let p = both (is_letter b) (all_letters bs) e in rw (goes_on b p.0, letters bs p.1) refl

pub head_is_name : (s : List ℕ) → is_head s ≡ true → IsName s
head_is_name [] e = absurd (cc)
head_is_name (b ∷ bs) e = let p = both (is_letter b) (all_letters bs) e in ascii_is_name (b ∷ bs) (rw (begins b p.0, letters bs p.1) refl)

pub infix_head : (o : Infix) → is_head (infix_name o) ≡ true
infix_head Message = refl
infix_head PatternTest = refl
infix_head Of = refl
infix_head Map = refl
infix_head Apply = refl
infix_head MapApply = refl
infix_head StringJoin = refl
infix_head Power = refl
infix_head Divide = refl
infix_head Times = refl
infix_head Beside = refl
infix_head Plus = refl
infix_head Minus = refl
infix_head Equal = refl
infix_head Unequal = refl
infix_head Less = refl
infix_head LessEqual = refl
infix_head Greater = refl
infix_head GreaterEqual = refl
infix_head SameQ = refl
infix_head UnsameQ = refl
infix_head And = refl
infix_head Or = refl
infix_head Alternatives = refl
infix_head Colon = refl
infix_head StringExpression = refl
infix_head Condition = refl
infix_head Rule = refl
infix_head RuleDelayed = refl
infix_head ReplaceAll = refl
infix_head ReplaceRepeated = refl
infix_head AddTo = refl
infix_head SubtractFrom = refl
infix_head TimesBy = refl
infix_head DivideBy = refl
infix_head Into = refl
infix_head Set = refl
infix_head SetDelayed = refl
infix_head UpSet = refl
infix_head UpSetDelayed = refl
infix_head Tag = refl
infix_head Semi = refl

pub infix_is_name : (o : Infix) → IsName (infix_name o)
infix_is_name o = head_is_name (infix_name o) (infix_head o)

-- none is long
pub infix_short : (o : Infix) → length (infix_name o) < 20
infix_short Message = omega arith
infix_short PatternTest = omega arith
infix_short Of = omega arith
infix_short Map = omega arith
infix_short Apply = omega arith
infix_short MapApply = omega arith
infix_short StringJoin = omega arith
infix_short Power = omega arith
infix_short Divide = omega arith
infix_short Times = omega arith
infix_short Beside = omega arith
infix_short Plus = omega arith
infix_short Minus = omega arith
infix_short Equal = omega arith
infix_short Unequal = omega arith
infix_short Less = omega arith
infix_short LessEqual = omega arith
infix_short Greater = omega arith
infix_short GreaterEqual = omega arith
infix_short SameQ = omega arith
infix_short UnsameQ = omega arith
infix_short And = omega arith
infix_short Or = omega arith
infix_short Alternatives = omega arith
infix_short Colon = omega arith
infix_short StringExpression = omega arith
infix_short Condition = omega arith
infix_short Rule = omega arith
infix_short RuleDelayed = omega arith
infix_short ReplaceAll = omega arith
infix_short ReplaceRepeated = omega arith
infix_short AddTo = omega arith
infix_short SubtractFrom = omega arith
infix_short TimesBy = omega arith
infix_short DivideBy = omega arith
infix_short Into = omega arith
infix_short Set = omega arith
infix_short SetDelayed = omega arith
infix_short UpSet = omega arith
infix_short UpSetDelayed = omega arith
infix_short Tag = omega arith
infix_short Semi = omega arith

pub prefix_head : (o : Prefix) → is_head (prefix_name o) ≡ true
prefix_head PreIncrement = refl
prefix_head PreDecrement = refl
prefix_head Negate = refl
prefix_head Not = refl

pub postfix_head : (o : Postfix) → is_head (postfix_name o) ≡ true
postfix_head Increment = refl
postfix_head Decrement = refl
postfix_head Factorial = refl
postfix_head Repeated = refl
postfix_head RepeatedNull = refl
postfix_head Function = refl
postfix_head Unset = refl

pub tagged_head : (d : Tagged) → is_head (tagged_name d) ≡ true
tagged_head TagSet = refl
tagged_head TagSetDelayed = refl
tagged_head TagUnset = refl
