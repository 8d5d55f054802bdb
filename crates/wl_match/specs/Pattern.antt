-- Patterns: a tree read as a pattern.
use Rattle.std.specs.Prelude.{ℕ, ◌+◌, min, max, Bool, true, false, cond, ◌||◌, List, Option, Some, None, codes}
use Rattle.std.specs.Str.{bytes_eq}
use Rattle.wl_expr.specs.Tree.{Tree, Trees, num, text, symbol, node, none, more}
use Rattle.wl_expr.specs.Same.{same}
use Rattle.wl_match.specs.declared.flags.Flags.{Flags}

-- how many elements a blank takes
pub data Count : Type 0 where
  one : Count
  some : Count
  any : Count

-- a test that is noted where its pattern has matched
pub data Ask : Type 0 where
  applies : Tree → Ask
  holds : Tree → Ask
  refuses : Tree → Ask

mutual
  pub data Pat : Type 0 where
    exactly : Tree → Pat
    blank : Count → Option Tree → Pat
    named : List ℕ → Pat → Pat
    tested : Ask → Pat → Pat
    hold : Pat → Pat
    optional : Option Tree → Pat → Pat
    alternatives : Pats → Pat
    repeated : Count → Pat → Pat
    except : Tree → Pat → Pat
    nodes : Flags → Tree → Pat → Pats → Pat

  pub data Pats : Type 0 where
    end : Pats
    also : Pat → Pats → Pats

-- Reading. Each has the elements, as trees and as patterns, and what stands for another number of elements.
abbrev pub read_blank : Count → Trees → Pat → Pat
read_blank c none p = blank c None
read_blank c (more h none) p = blank c (Some h)
read_blank c _ p = p

abbrev pub read_named : Trees → Pats → Pat → Pat
read_named (more (symbol x) (more t none)) (also a (also q end)) p = named x q
read_named _ _ p = p

abbrev pub read_tested : (Tree → Ask) → Trees → Pats → Pat → Pat
read_tested f (more t (more c none)) (also q (also b end)) p = tested (f c) q
read_tested f _ _ p = p

abbrev pub read_one : (Pat → Pat) → Pats → Pat → Pat
read_one f (also q end) p = f q
read_one f _ p = p

abbrev pub read_verbatim : Trees → Pat → Pat
read_verbatim (more t none) p = exactly t
read_verbatim _ p = p

abbrev pub read_optional : Trees → Pats → Pat → Pat
read_optional (more t none) (also q end) p = optional None q
read_optional (more t (more d none)) (also q (also b end)) p = optional (Some d) q
read_optional _ _ p = p

abbrev pub read_except : Trees → Pats → Pat → Pat
read_except (more c none) (also a end) p = except c (blank one None)
read_except (more c (more t none)) (also a (also q end)) p = except c q
read_except _ _ p = p

abbrev pub read_special : List ℕ → Trees → Pats → Pat → Pat
read_special s ts ps p =
    cond (bytes_eq s (codes "Blank")) (read_blank one ts p)
    (cond (bytes_eq s (codes "BlankSequence")) (read_blank some ts p)
    (cond (bytes_eq s (codes "BlankNullSequence")) (read_blank any ts p)
    (cond (bytes_eq s (codes "Pattern")) (read_named ts ps p)
    (cond (bytes_eq s (codes "PatternTest")) (read_tested applies ts ps p)
    (cond (bytes_eq s (codes "Condition")) (read_tested holds ts ps p)
    (cond (bytes_eq s (codes "HoldPattern")) (read_one hold ps p)
    (cond (bytes_eq s (codes "Optional")) (read_optional ts ps p)
    (cond (bytes_eq s (codes "Alternatives")) (alternatives ps)
    (cond (bytes_eq s (codes "Repeated")) (read_one (repeated some) ps p)
    (cond (bytes_eq s (codes "RepeatedNull")) (read_one (repeated any) ps p)
    (cond (bytes_eq s (codes "Verbatim")) (read_verbatim ts p)
    (cond (bytes_eq s (codes "Except")) (read_except ts ps p) p))))))))))))

abbrev pub no_flags : Flags
no_flags = record { flat = false; orderless = false; one_identity = false }

abbrev pub read_node : (List ℕ → Flags) → Tree → Trees → Pat → Pats → Pat
read_node f (symbol s) ts hp ps = read_special s ts ps (nodes (f s) (symbol s) hp ps)
read_node f h ts hp ps = nodes no_flags h hp ps

abbrev mutual
  pub pattern : (List ℕ → Flags) → Tree → Pat
  pattern f (num n) = exactly (num n)
  pattern f (text s) = exactly (text s)
  pattern f (symbol s) = exactly (symbol s)
  pattern f (node h ts) = read_node f h ts (pattern f h) (patterns f ts)

  pub patterns : (List ℕ → Flags) → Trees → Pats
  patterns f none = end
  patterns f (more t ts) = also (pattern f t) (patterns f ts)

-- Lengths. None is no end.
abbrev pub plus : Option ℕ → Option ℕ → Option ℕ
plus (Some n) (Some m) = Some (n + m)
plus _ _ = None

abbrev pub greater : Option ℕ → Option ℕ → Option ℕ
greater (Some n) (Some m) = Some (max n m)
greater _ _ = None

abbrev pub need_of : Count → ℕ
need_of one = 1
need_of some = 1
need_of any = 0

abbrev pub most_of : Count → Option ℕ
most_of one = Some 1
most_of some = None
most_of any = None

abbrev mutual
  pub need : Pat → ℕ
  need (exactly t) = 1
  need (blank c h) = need_of c
  need (named x q) = need q
  need (tested t q) = need q
  need (hold q) = need q
  need (optional d q) = 0
  need (alternatives qs) = least_need qs
  need (repeated c q) = need_of c
  need (except c q) = 1
  need (nodes f h hp ps) = 1

  pub least_need : Pats → ℕ
  least_need end = 1
  least_need (also q end) = need q
  least_need (also q (also p ps)) = min (need q) (least_need (also p ps))

abbrev mutual
  pub most : Pat → Option ℕ
  most (exactly t) = Some 1
  most (blank c h) = most_of c
  most (named x q) = most q
  most (tested t q) = most q
  most (hold q) = most q
  most (optional d q) = most q
  most (alternatives qs) = greatest_most qs
  most (repeated c q) = most_of c
  most (except c q) = Some 1
  most (nodes f h hp ps) = Some 1

  pub greatest_most : Pats → Option ℕ
  greatest_most end = Some 1
  greatest_most (also q end) = most q
  greatest_most (also q (also p ps)) = greater (most q) (greatest_most (also p ps))

-- the core within wrappers and Optional is Blank[] or Blank[h]
abbrev pub stretchable : Tree → Pat → Bool
stretchable h (blank one None) = true
stretchable h (blank one (Some g)) = same g h
stretchable h (named x q) = stretchable h q
stretchable h (tested t q) = stretchable h q
stretchable h (hold q) = stretchable h q
stretchable h (optional d q) = stretchable h q
stretchable h _ = false

-- the name that the absent choice binds
abbrev pub name_in : Pat → Option (List ℕ)
name_in (named x q) = Some x
name_in (tested t q) = name_in q
name_in (hold q) = name_in q
name_in _ = None

abbrev pub is_optional : Pat → Bool
is_optional (optional d q) = true
is_optional _ = false

abbrev pub any_optional : Pats → Bool
any_optional end = false
any_optional (also p ps) = is_optional p || any_optional ps
