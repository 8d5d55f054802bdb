-- The levels behind one more token.
use Rattle.std.proofs.Common.{◌≡◌, List, ◌∷◌, refl, sym, ap, ◌∙◌}
use Rattle.wl_syntax.specs.declared.operator.Sign.{Sign}
use Rattle.wl_syntax.specs.declared.tags.Tags.{Tags}
use Rattle.wl_syntax.specs.declared.tags.Tagging.{Tagging}
use Rattle.wl_syntax.specs.declared.tags.Tagging.TheVariants.{Untagged}
use Rattle.wl_syntax.specs.Token.{Atom, Token}
use Rattle.wl_syntax.specs.Token as token
use Rattle.wl_syntax.specs.Ending.{Closer, round, square, curly, Level, level, sign_tag, tag_after, levels_after, outer_tag, outer_levels}
use Rattle.wl_syntax.specs.Tags.{Past, past_after, is_dot, all_met}
use Rattle.wl_syntax.specs.TagsHold.{TagsHold, Levels, OpensLevel, ClosesLevel, frames}

-- a token that stays in its level
pub stays : (m n : Tags) (p : Past) (k : Token) → TagsHold m p → n.tagging ≡ tag_after p.tag p.outer k → n.dotted_last ≡ is_dot k → levels_after p.tag p.outer k ≡ p.outer → n.outer.items ≡ m.outer.items → n.outer_met ≡ m.outer_met → TagsHold n (past_after p k)
stays m n p k h t d l o e = record { tag = t; dot = d; outer = o ∙ h.outer ∙ ap frames (sym l); met = e ∙ h.met ∙ ap all_met (sym l) }

pub sign_stays : (t u : Tagging) (p : Past) (k : Token) (g : Sign) → t ≡ p.tag → k ≡ token.sign g → u ≡ sign_tag t g → (u ≡ tag_after p.tag p.outer k) × (levels_after p.tag p.outer k ≡ p.outer)
unfolding tag_after levels_after
sign_stays t u p k g e i j = rw i (j ∙ ap (λ v. sign_tag v g) e, refl)

pub atom_stays : (t : Tagging) (p : Past) (k : Token) (a : Atom) → t ≡ p.tag → k ≡ token.atom a → (t ≡ tag_after p.tag p.outer k) × (levels_after p.tag p.outer k ≡ p.outer)
unfolding tag_after levels_after
atom_stays t p k a e i = rw i (e, refl)

pub comma_stays : (p : Past) (k : Token) → k ≡ token.comma → (Untagged ≡ tag_after p.tag p.outer k) × (levels_after p.tag p.outer k ≡ p.outer)
unfolding tag_after levels_after
comma_stays p k i = rw i (refl, refl)

-- a token that opens a bracket
abbrev pub Opens : Closer → Token → Type 0
Opens b k = (g : Tagging) (ls : List Level) → (tag_after g ls k ≡ Untagged) × (levels_after g ls k ≡ level b g ∷ ls)

pub opens : (m l n : Tags) (p : Past) (k : Token) (b : Closer) → TagsHold m p → l.tagging ≡ m.tagging → l.dotted_last ≡ is_dot k → l.outer.items ≡ m.outer.items → l.outer_met ≡ m.outer_met → Opens b k → OpensLevel l n → TagsHold n (past_after p k)
opens m l n p k b h t d o e f g =
    let i = f p.tag p.outer in
    let j : Levels n (level b l.tagging ∷ p.outer) = g.levels b p.outer (record { outer = o ∙ h.outer; met = e ∙ h.met }) in
    let q : level b l.tagging ∷ p.outer ≡ levels_after p.tag p.outer k = ap (λ v. level b v ∷ p.outer) (t ∙ h.tag) ∙ sym i.1 in
    record { tag = g.tag ∙ sym i.0; dot = g.dot ∙ d; outer = j.outer ∙ ap frames q; met = j.met ∙ ap all_met q }

pub opens_round : (k : Token) → k ≡ token.open_round → Opens round k
unfolding tag_after levels_after
opens_round k e g ls = rw e (refl, refl)

pub opens_square : (k : Token) → k ≡ token.open_square → Opens square k
unfolding tag_after levels_after
opens_square k e g ls = rw e (refl, refl)

pub opens_brace : (k : Token) → k ≡ token.open_brace → Opens curly k
unfolding tag_after levels_after
opens_brace k e g ls = rw e (refl, refl)

-- a token that closes one
abbrev pub Closes : Token → Type 0
Closes k = (g : Tagging) (ls : List Level) → (tag_after g ls k ≡ outer_tag ls) × (levels_after g ls k ≡ outer_levels ls)

pub closes : (m l n : Tags) (p : Past) (k : Token) → TagsHold m p → l.dotted_last ≡ is_dot k → l.outer.items ≡ m.outer.items → l.outer_met ≡ m.outer_met → Closes k → ClosesLevel l n → TagsHold n (past_after p k)
closes m l n p k h d o e f g =
    let i = f p.tag p.outer in
    let v : Levels l p.outer = record { outer = o ∙ h.outer; met = e ∙ h.met } in
    let j : Levels n (outer_levels p.outer) = g.levels p.outer v in
    record { tag = g.tag p.outer v ∙ sym i.0; dot = g.dot ∙ d; outer = j.outer ∙ ap frames (sym i.1); met = j.met ∙ ap all_met (sym i.1) }

pub closes_round : (k : Token) → k ≡ token.close_round → Closes k
unfolding tag_after levels_after
closes_round k e g ls = rw e (refl, refl)

pub closes_square : (k : Token) → k ≡ token.close_square → Closes k
unfolding tag_after levels_after
closes_square k e g ls = rw e (refl, refl)

pub closes_brace : (k : Token) → k ≡ token.close_brace → Closes k
unfolding tag_after levels_after
closes_brace k e g ls = rw e (refl, refl)
