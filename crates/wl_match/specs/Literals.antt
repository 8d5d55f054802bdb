-- A left side without a pattern: no node of it has the head of a form of patterns. Where its heads have no flags either, it matches itself alone, and has one leaf.
use Rattle.std.specs.Prelude.{◌≡◌, Bool, true, false, cond, ◌&&◌, ◌||◌, not, List, [], ◌∷◌, codes}
use Rattle.std.specs.Str.{bytes_eq}
use Rattle.std.specs.List.{list_all}
use Rattle.wl_expr.specs.Tree.{Tree, Trees, num, text, symbol, node, none, more}
use Rattle.wl_expr.specs.Same.{same}
use Rattle.wl_expr.specs.Words.{Name}
use Rattle.wl_match.specs.declared.flags.Flags.{Flags}
use Rattle.wl_match.specs.Pattern.{pattern}
use Rattle.wl_match.specs.Heads.{heads}
use Rattle.wl_match.specs.Search.{Leaf, Fail, Found}
use Rattle.wl_match.specs.Trials.{Trials}

-- the heads of the forms of patterns
abbrev pub heads_form : Name → Bool
heads_form s =
    cond (bytes_eq s (codes "Blank")) true
    (cond (bytes_eq s (codes "BlankSequence")) true
    (cond (bytes_eq s (codes "BlankNullSequence")) true
    (cond (bytes_eq s (codes "Pattern")) true
    (cond (bytes_eq s (codes "PatternTest")) true
    (cond (bytes_eq s (codes "Condition")) true
    (cond (bytes_eq s (codes "HoldPattern")) true
    (cond (bytes_eq s (codes "Optional")) true
    (cond (bytes_eq s (codes "Alternatives")) true
    (cond (bytes_eq s (codes "Repeated")) true
    (cond (bytes_eq s (codes "RepeatedNull")) true
    (cond (bytes_eq s (codes "Verbatim")) true
    (cond (bytes_eq s (codes "Except")) true false))))))))))))

abbrev pub plain_head : Tree → Bool
plain_head (symbol s) = not (heads_form s)
plain_head h = true

abbrev mutual
  pub literal : Tree → Bool
  literal (num n) = true
  literal (text s) = true
  literal (symbol s) = true
  literal (node h ts) = plain_head h && (literal h && literals ts)

  pub literals : Trees → Bool
  literals none = true
  literals (more t ts) = literal t && literals ts

abbrev pub is_free : Flags → Bool
is_free f = not (f.flat || f.orderless || f.one_identity)

-- none of these names has flags
abbrev pub all_free : (Name → Flags) → List Name → Bool
all_free f xs = list_all (λ x. is_free (f x)) xs

-- what follows, where it matches
abbrev pub leaves_if : Bool → List Leaf → List Leaf
leaves_if true ls = ls
leaves_if false ls = Fail ∷ []

abbrev pub OneLeaf : Type 0
OneLeaf = (f : Name → Flags) (u t : Tree) → literal u ≡ true → all_free f (heads u) ≡ true → Trials (pattern f u) t ≡ leaves_if (same u t) (Found [] ∷ [])
