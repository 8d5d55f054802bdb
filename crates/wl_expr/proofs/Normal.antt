-- Each tree made proper: numbers and texts that are none are replaced. On proper trees nothing changes, so that the canonical order becomes an order of all trees.
use Rattle.std.proofs.Common.{◌≡◌, ℕ, nat_lt, ◌^◌, Bool, true, false, ◌&&◌, List, [], pos, refl, unsigned_abs}
use Rattle.std.proofs.lemmas.Bool.Decides.{Decides-and, Decides-ltb}
use Rattle.std.proofs.lemmas.Str.{IsUtf8-nil, IsUtf8-from_is_utf8, is_utf8-from_IsUtf8}
use Rattle.std.specs.Bool.{Decides}
use Rattle.std.specs.Cmp.{unsigned_Decides}
use Rattle.std.specs.Prelude.{nat_eq, codes}
use Rattle.std.specs.Str.{is_utf8, IsUtf8}
use Rattle.wl_exact.specs.Fraction.{Fraction, IsNumber, of_int}
use Rattle.wl_exact.specs.Gcd.{gcd}
use Rattle.wl_ports.specs.Name.{is_name, IsName}
use Rattle.wl_ports.proofs.MadeNames.{ascii_name}
use Rattle.wl_expr.specs.Proper.{IsProper, AreProper}
use Rattle.wl_expr.specs.Tree.{Tree, Trees, num, text, symbol, node, none, more}
use Rattle.wl_expr.proofs.NumberOrder.{one_number}

abbrev pub is_number : Fraction → Bool
is_number f = nat_eq (gcd (unsigned_abs f.num) f.den) 1 && (nat_lt 0 f.den && (nat_lt (unsigned_abs f.num) (2 ^ 127) && nat_lt f.den (2 ^ 127)))

is_number_decides : (f : Fraction) → Decides (is_number f) (IsNumber f)
is_number_decides f =
    let d = Decides-and (nat_eq (gcd (unsigned_abs f.num) f.den) 1) _ (unsigned_Decides (gcd (unsigned_abs f.num) f.den) 1)
    (Decides-and (nat_lt 0 f.den) _ (Decides-ltb 0 f.den) (Decides-and (nat_lt (unsigned_abs f.num) (2 ^ 127)) (nat_lt f.den (2 ^ 127)) (Decides-ltb (unsigned_abs f.num) (2 ^ 127)) (Decides-ltb f.den (2 ^ 127)))) in (
      λ t. let h = d.0 t in record { reduced = h.0; positive = h.1.0; range = record { num = h.1.1.0; den = h.1.1.1 } },
      λ n. d.1 (n.reduced, (n.positive, (n.range.num, n.range.den))),
    )

-- the first where the test is true
abbrev pub choose : {X : Type 0} → Bool → X → X → X
choose true x y = x
choose false x y = y

choose_meets : {X : Type 0} (P : X → Type 0) (b : Bool) (x y : X) → (b ≡ true → P x) → P y → P (choose b x y)
choose_meets P true x y p q = p refl
choose_meets P false x y p q = q

choose_first : {X : Type 0} (b : Bool) (x y : X) → b ≡ true → choose b x y ≡ x
choose_first true x y e = refl
choose_first false x y e = cc

-- ASCII's `x`
abbrev pub letter : List ℕ
letter = codes "x"

abbrev mutual
  pub normal : Tree → Tree
  normal (num n) = num (choose (is_number n) n (of_int (pos 1)))
  normal (text s) = text (choose (is_utf8 s) s [])
  normal (symbol s) = symbol (choose (is_utf8 s && is_name s) s letter)
  normal (node h ts) = node (normal h) (normals ts)

  pub normals : Trees → Trees
  normals none = none
  normals (more t ts) = more (normal t) (normals ts)

word_decides : (s : List ℕ) → Decides (is_utf8 s && is_name s) (IsUtf8 s × IsName s)
word_decides s = Decides-and (is_utf8 s) (is_name s) (IsUtf8-from_is_utf8 s, is_utf8-from_IsUtf8 s) ((λ t. t), (λ t. t))

mutual
  pub normal_proper : (t : Tree) → IsProper (normal t)
  normal_proper (num n) = choose_meets IsNumber (is_number n) n (of_int (pos 1)) (is_number_decides n).0 one_number
  normal_proper (text s) = choose_meets IsUtf8 (is_utf8 s) s [] (IsUtf8-from_is_utf8 s) IsUtf8-nil
  normal_proper (symbol s) =
      choose_meets (λ s. IsUtf8 s × IsName s) (is_utf8 s && is_name s) s letter (word_decides s).0 (ascii_name letter refl)
  normal_proper (node h ts) = (normal_proper h, normals_proper ts)

  pub normals_proper : (ts : Trees) → AreProper (normals ts)
  normals_proper none = tt
  normals_proper (more t ts) = (normal_proper t, normals_proper ts)

mutual
  pub normal_same : (t : Tree) → IsProper t → normal t ≡ t
  normal_same (num n) p i = num (choose_first (is_number n) n (of_int (pos 1)) ((is_number_decides n).1 p) i)
  normal_same (text s) p i = text (choose_first (is_utf8 s) s [] (is_utf8-from_IsUtf8 s p) i)
  normal_same (symbol s) p i = symbol (choose_first (is_utf8 s && is_name s) s letter ((word_decides s).1 p) i)
  normal_same (node h ts) p i = node (normal_same h p.0 i) (normals_same ts p.1 i)

  pub normals_same : (ts : Trees) → AreProper ts → normals ts ≡ ts
  normals_same none p i = none
  normals_same (more t ts) p i = more (normal_same t p.0 i) (normals_same ts p.1 i)
