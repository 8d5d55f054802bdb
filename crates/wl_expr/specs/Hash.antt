-- A number of 64 bits for each tree, which two different trees seldom share. It is this project's own, and its constants are the first digits of pi: each part is mixed in by a product that wraps, whose high half is folded onto the low one.
use Rattle.std.specs.Prelude.{ℕ, ◌*◌, ◌/◌, ◌%◌, ◌^◌, bit_xor, fold, unsigned_abs, if◌then◌else◌}
use Rattle.std.specs.Int.{is_negative}
use Rattle.wl_exact.specs.Fraction.{Fraction}
use Rattle.wl_expr.specs.Tree.{Tree, Trees, num, text, symbol, node, none, more}

abbrev pub folded : ℕ → ℕ
folded n = bit_xor n (n / 2 ^ 32)

-- one part more
abbrev pub mixed : ℕ → ℕ → ℕ
mixed hash part = folded ((bit_xor hash part * 0x452821E638D01377) % 2 ^ 64)

-- a number of 128 bits, its low half first
abbrev pub mixed_wide : ℕ → ℕ → ℕ
mixed_wide hash n = mixed (mixed hash (n % 2 ^ 64)) (n / 2 ^ 64)

-- the sign, the numerator and the denominator
abbrev pub number_hash : Fraction → ℕ
number_hash f = mixed_wide (mixed_wide (mixed 0x082EFA98EC4E6C89 (if is_negative f.num then 1 else 0)) (unsigned_abs f.num)) f.den

-- byte by byte; a node's head and elements by their hashes
abbrev mutual
  pub tree_hash : Tree → ℕ
  tree_hash (num n) = number_hash n
  tree_hash (text s) = fold mixed 0x243F6A8885A308D3 s
  tree_hash (symbol s) = fold mixed 0x13198A2E03707344 s
  tree_hash (node h ts) = mixed_trees (mixed 0xA4093822299F31D0 (tree_hash h)) ts

  pub mixed_trees : ℕ → Trees → ℕ
  mixed_trees hash none = hash
  mixed_trees hash (more t ts) = mixed_trees (mixed hash (tree_hash t)) ts
