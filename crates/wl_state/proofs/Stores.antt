-- What stays true of stamps while the entries change.
use Rattle.std.proofs.Common.{◌≡◌, ◌≤◌, List, [], ◌∷◌, get_or, Option, Some, None, refl, sym, ap, ap₂, ◌∙◌, subst, le_refl, le_trans, arith, Contains}
use Rattle.std.proofs.lemmas.List.Elements.{All-head, All-tail, All-contains, All-map, All-weaker}
use Rattle.std.specs.List.{All}
use Rattle.wl_expr.specs.Passed.{AtStamps, AllAtStamps}
use Rattle.wl_expr.specs.Stamped.{Stamped, Stampeds, num, text, symbol, node, none, more, plain, stamp_of}
use Rattle.wl_expr.specs.Tree.{Tree}
use Rattle.wl_expr.specs.Words.{Name}
use Rattle.wl_expr.specs.declared.stamp.Stamp.{Stamp}
use Rattle.wl_rules.specs.Entries.{Definitions, Rules, of_kind}
use Rattle.wl_rules.specs.Stored.{Stored, Slot, IsIndex, name_at, version_at, definitions}
use Rattle.wl_rules.specs.declared.rule.Rule.{Rule}
use Rattle.wl_stamps.specs.Live.{IsLive, IsLiveRead}
use Rattle.wl_stamps.specs.Reads.{Read}
use Rattle.wl_state.specs.Honest.{AgreeOn, IsKnown, AreKnown, names_in, IsTrueStamp, IsTrueTop, HonestIn, HonestOption, HonestRule, HonestRules, Grows, Kept}
use Rattle.wl_state.proofs.Names.{contains_mapped}

pub kept_refl : (a : Stored) → Kept a a
kept_refl a = record { more = le_refl _; drawn = refl; rows = λ i h. refl; definitions = refl }

pub kept_trans : {a b c : Stored} → Kept a b → Kept b c → Kept a c
kept_trans p q = record {
  more = le_trans p.more q.more;
  drawn = q.drawn ∙ p.drawn;
  rows = λ i h. q.rows i (omega (arith, h, p.more)) ∙ p.rows i h;
  definitions = q.definitions ∙ p.definitions;
}

pub grows_refl : (a : Stored) → Grows a a
grows_refl a = record { more = le_refl _; drawn = le_refl _; names = λ i h. refl; versions = λ i h v n. refl; entries = λ i h v n. refl }

pub grows_trans : {a b c : Stored} → Grows a b → Grows b c → Grows a c
grows_trans {a} {b} {c} p q = record {
  more = le_trans p.more q.more;
  drawn = le_trans p.drawn q.drawn;
  names = λ i h. q.names i (omega (arith, h, p.more)) ∙ p.names i h;
  versions = λ i h v n.
      let e = q.versions i (omega (arith, h, p.more)) (omega (arith, v, p.drawn)) n in
      e ∙ p.versions i h (subst (λ z. z ≤ a.drawn) e v) (λ x. n (e ∙ x));
  entries = λ i h v n.
      let j : IsIndex i b = omega (arith, h, p.more) in
      let w : version_at i c ≤ b.drawn = omega (arith, v, p.drawn) in
      let e = q.versions i j w n in
      ap (definitions c) (sym (p.names i h)) ∙ q.entries i j w n ∙ ap (definitions b) (p.names i h) ∙ p.entries i h (subst (λ z. z ≤ a.drawn) e v) (λ x. n (e ∙ x));
}

pub kept_grows : {a b : Stored} → Kept a b → Grows a b
kept_grows {a} {b} k = record {
  more = k.more;
  drawn = omega (arith, k.drawn);
  names = λ i h. ap (λ (r : Name × Slot). r.0) (k.rows i h);
  versions = λ i h v n. ap (λ (r : Name × Slot). r.1.version) (k.rows i h);
  entries = λ i h v n. ap (λ f. f (name_at i a)) k.definitions;
}

-- ---- stamps over a store that grew

mutual
  pub at_stamps_weaker : (P Q : Stamped → Type 0) → ((u : Stamped) → P u → Q u) → (e : Stamped) → AtStamps P e → AtStamps Q e
  at_stamps_weaker P Q f (num n) h = tt
  at_stamps_weaker P Q f (text s) h = tt
  at_stamps_weaker P Q f (symbol None s) h = tt
  at_stamps_weaker P Q f (symbol (Some p) s) h = f (symbol (Some p) s) h
  at_stamps_weaker P Q f (node None x ts) h = (at_stamps_weaker P Q f x h.0, all_at_stamps_weaker P Q f ts h.1)
  at_stamps_weaker P Q f (node (Some p) x ts) h = (f (node (Some p) x ts) h.0, at_stamps_weaker P Q f x h.1, all_at_stamps_weaker P Q f ts h.2)

  all_at_stamps_weaker : (P Q : Stamped → Type 0) → ((u : Stamped) → P u → Q u) → (es : Stampeds) → AllAtStamps P es → AllAtStamps Q es
  all_at_stamps_weaker P Q f none h = tt
  all_at_stamps_weaker P Q f (more t ts) h = (at_stamps_weaker P Q f t h.0, all_at_stamps_weaker P Q f ts h.1)

module _ (a b : Stored) (g : Grows a b) where
  pub known_grows : (rs : List Read) → AreKnown a rs → AreKnown b rs
  known_grows rs k i d l = let h = k i d l in (omega (arith, h.0, g.more), omega (arith, h.1, g.drawn))

  pub names_grow : (rs : List Read) → AreKnown a rs → names_in b rs ≡ names_in a rs
  names_grow [] k = refl
  names_grow (r ∷ rs) k = ap₂ (λ x y. x ∷ y) (g.names r.0 (All-head (IsKnown a) r rs k).0) (names_grow rs (All-tail (IsKnown a) r rs k))

  pub versions_before : (r : Read) → IsKnown a r → IsLiveRead b r → version_at r.0 b ≡ version_at r.0 a
  versions_before r k l = g.versions r.0 k.0 (subst (λ z. z ≤ a.drawn) (sym l.0) k.1) (λ q. l.1 (sym l.0 ∙ q))

  pub entries_before : (r : Read) → IsKnown a r → IsLiveRead b r → definitions b (name_at r.0 a) ≡ definitions a (name_at r.0 a)
  entries_before r k l = g.entries r.0 k.0 (subst (λ z. z ≤ a.drawn) (sym l.0) k.1) (λ q. l.1 (sym l.0 ∙ q))

  pub live_before : (p : Stamp) → AreKnown a p.reads → IsLive b p → IsLive a p
  live_before p k l i d h = let w = l i d h in (sym (versions_before (get_or p.reads i d) (k i d h) w) ∙ w.0, w.1)

  pub agree_before : (f : Definitions) (p : Stamp) → AreKnown a p.reads → IsLive b p → AgreeOn (definitions b) f (names_in b p.reads) → AgreeOn (definitions a) f (names_in a p.reads)
  agree_before f p k l h x i =
      let n = names_grow p.reads k in
      let each : All (λ r. definitions a (name_at r.0 a) ≡ f (name_at r.0 a)) p.reads = λ j d m.
      let r = get_or p.reads j d in
      sym (entries_before r (k j d m) (l j d m)) ∙ h (name_at r.0 a) (subst (λ z. Contains z (name_at r.0 a)) (sym n) (contains_mapped (λ q. name_at q.0 a) p.reads j d m)) in
      All-contains (λ y. definitions a y ≡ f y) (names_in a p.reads) x (All-map (λ y. definitions a y ≡ f y) (λ r. name_at r.0 a) p.reads each) i

  pub true_grows : (p : Stamp) (t : Tree) → IsTrueStamp a p t → IsTrueStamp b p t
  true_grows p t h = record {
    known = known_grows p.reads h.known;
    holds = λ l s agree enough.
        let n = names_grow p.reads h.known in
        let y = h.holds (live_before p h.known l) s (agree_before s.world.definitions p h.known l agree) (record { depth = enough.depth; turns = enough.turns; steps = enough.steps }) in (
          y.0,
          record {
            names = record { to = λ m i. y.1.names.to m (subst (λ z. Contains z m) n i); from = λ m i. subst (λ z. Contains z m) (sym n) (y.1.names.from m i) };
            once = y.1.once;
            steps = y.1.steps;
            depth = y.1.depth;
            turns = y.1.turns;
          },
        );
  }

  top_grows : (o : Option Stamp) (t : Tree) → IsTrueTop a o t → IsTrueTop b o t
  top_grows None t h = tt
  top_grows (Some p) t h = true_grows p t h

  pub honest_grows : (e : Stamped) → HonestIn a e → HonestIn b e
  honest_grows e h = at_stamps_weaker _ _ (λ u k. top_grows (stamp_of u) (plain u) k) e h

  pub option_grows : (o : Option Stamped) → HonestOption a o → HonestOption b o
  option_grows None h = tt
  option_grows (Some e) h = honest_grows e h

  pub rule_grows : (r : Rule) → HonestRule a r → HonestRule b r
  rule_grows r h = (honest_grows r.left h.0, honest_grows r.body h.1)

  pub rules_grow : (rs : Rules Rule) → HonestRules a rs → HonestRules b rs
  rules_grow rs h k = All-weaker (HonestRule a) (HonestRule b) rule_grows (of_kind k rs) (h k)
