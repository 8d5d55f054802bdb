-- What stands on the writer's page: one text, or boxes.
use Rattle.std.specs.Prelude.{ℕ, Bool, ◌≡◌, ◌⊎◌, refl, ◌&&◌, nat_le, List, [], ◌∷◌, ◌++◌, codes, if◌then◌else◌, Option, Some, None}
use Rattle.wl_expr.specs.Tree.{Tree, weight, depth}
use Rattle.std.proofs.Common.{inl, inr}
use Rattle.std.specs.Coded.{Coded, code_by, coded_ℕ, coded_list, coded×, coded⊎, coded_option}
use Rattle.wl_expr.specs.Stamped.{Stamped, text, symbol, node, from_list, plain, unstamped, stamped_code}
use Rattle.wl_form.specs.declared.page.Kind.{Kind}
use Rattle.wl_form.specs.declared.page.Kind.TheVariants as kind
use Rattle.wl_form.specs.Boxes.{Piece, between, boxed, strings}

-- a row of boxes under way: its parts, and the text behind the last one
pub record Line : Type 0 where
  pub parts : List Stamped
  pub text : List ℕ

abbrev pub blank_line : Line
blank_line = record { parts = []; text = [] }

-- One text; or the row under way and those around it, the innermost last; or boxes that don't fit.
pub data Page : Type 0 where
  writing : List ℕ → Page
  boxing : Line → List Line → Page
  large : Page

abbrev pub page_of : Kind → List Stamped → List ℕ → List Line → Page
page_of kind.Text ts s ls = writing s
page_of kind.Boxes ts s ls = boxing (record { parts = ts; text = s }) ls
page_of kind.Large ts s ls = large

-- neither too heavy nor too deep
abbrev pub fits : Tree → Bool
fits t = nat_le (weight t) 4000000 && nat_le (depth t) 1000

abbrev pub fitted : Stamped → Option Stamped
fitted b = if fits (plain b) then Some b else None

-- the parts and the string of a text, which is none where it is empty
abbrev pub all_parts : List Stamped → List ℕ → Option (List Stamped)
all_parts ts [] = Some ts
all_parts ts (c ∷ cs) = if fits (plain (text (c ∷ cs))) then Some (ts ++ text (c ∷ cs) ∷ []) else None

abbrev pub then_box : Option (List Stamped) → Stamped → Option Line
then_box (Some ts) b = if fits (plain b) then Some record { parts = ts ++ b ∷ []; text = [] } else None
then_box None b = None

abbrev pub with_box : Line → Stamped → Option Line
with_box l b = then_box (all_parts l.parts l.text) b

abbrev pub named_node : List ℕ → List Stamped → Stamped
named_node name ts = node None (symbol None name) (from_list ts)

-- the box of a row
abbrev pub parts_with : List Stamped → List ℕ → List Stamped
parts_with ts [] = ts
parts_with ts (c ∷ cs) = ts ++ text (c ∷ cs) ∷ []

abbrev pub finished_by : List Stamped → List ℕ → Stamped
finished_by [] s = text s
finished_by (t ∷ ts) s = named_node (codes "RowBox") (named_node (codes "List") (parts_with (t ∷ ts) s) ∷ [])

abbrev pub finished : Line → Stamped
finished l = finished_by l.parts l.text

-- what a page has more by a text, and by a box

abbrev pub put_text : Page → List ℕ → Page
put_text (writing w) s = writing (w ++ s)
put_text (boxing l ls) s = boxing (record { parts = l.parts; text = l.text ++ s }) ls
put_text large s = large

abbrev pub lined : Option Line → List Line → Page
lined (Some l) ls = boxing l ls
lined None ls = large

abbrev pub put_box : Page → Stamped → Page
put_box (writing w) b = writing (w ++ strings (plain b))
put_box (boxing l ls) b = lined (with_box l b) ls
put_box large b = large

abbrev pub taken : Page → List Piece → Page
taken p [] = p
taken p (between s ∷ ps) = taken (put_text p s) ps
taken p (boxed t ∷ ps) = taken (put_box p (unstamped t)) ps

-- a row within the row under way
abbrev pub opened : Page → Page
opened (writing w) = writing w
opened (boxing l ls) = boxing blank_line (ls ++ l ∷ [])
opened large = large

-- the row under way is a box of the one around it
pub record Closes (old new : Page) : Type 0 where
  pub text : (w : List ℕ) → old ≡ writing w → new ≡ writing w
  pub boxes : (m l : Line) (ls : List Line) → old ≡ boxing m (ls ++ l ∷ []) → new ≡ put_box (boxing l ls) (finished m)
  pub too_large : old ≡ large → new ≡ large

-- how the checker tells lines and pages apart
abbrev pub line_code : Coded Line
line_code = code_by (List Stamped × List ℕ) (coded× (coded_list stamped_code) (coded_list coded_ℕ)) (λ l. (l.parts, l.text)) (λ p. record { parts = p.0; text = p.1 }) (λ _. refl)

abbrev pub Coding : Type 0
Coding = List ℕ ⊎ Option (Line × List Line)

abbrev pub coding : Page → Coding
coding (writing w) = inl w
coding (boxing l ls) = inr (Some (l, ls))
coding large = inr None

abbrev pub decoded : Coding → Page
decoded (inl w) = writing w
decoded (inr (Some p)) = boxing p.0 p.1
decoded (inr None) = large

pub decoded_coding : (p : Page) → decoded (coding p) ≡ p
decoded_coding (writing w) = refl
decoded_coding (boxing l ls) = refl
decoded_coding large = refl

abbrev pub page_code : Coded Page
page_code = code_by Coding (coded⊎ (coded_list coded_ℕ) (coded_option (coded× line_code (coded_list line_code)))) coding decoded decoded_coding
