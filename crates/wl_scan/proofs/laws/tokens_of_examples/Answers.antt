use Rattle.std.proofs.Common.{◌≡◌, [], ◌∷◌, refl, codes}
use Rattle.std.specs.Str.{chars}
use Rattle.unicode_ident.proofs.Computing.{unicode_ident}
use Rattle.wl_scan.specs.Tokens.{rows, scanned_from}
use Rattle.wl_scan.specs.Laws.{lexemes}
use Rattle.wl_scan.specs.declared.token.Kind.TheVariants.{Number, Name, Sign}
use Rattle.wl_scan.proofs.laws.tokens_of_examples.Goals as goal

range : lexemes (codes "1..5") ≡ (Number, 1, 1) ∷ (Sign, 2, 2) ∷ (Number, 1, 4) ∷ []
unfolding chars rows scanned_from unicode_ident
range = refl

unequal : lexemes (codes "a!==b") ≡ (Name, 1, 1) ∷ (Sign, 2, 2) ∷ (Sign, 1, 4) ∷ (Name, 1, 5) ∷ []
unfolding chars rows scanned_from unicode_ident
unequal = refl

pub returns : goal.returns
unfolding chars rows scanned_from unicode_ident
returns c = (refl, refl, refl, refl, refl, refl)
