-- Which message has a full name.
use Rattle.std.proofs.Common.{◌≡◌, [], ◌∷◌, refl}
use Rattle.wl_desk.specs.Desk.{full_name}
use Rattle.wl_desk.specs.Laws.{FullNamesTell}

pub full_names_tell : FullNamesTell
full_names_tell [] [] t u h k e = (refl, cc)
full_names_tell [] (c ∷ cs) t u h k e = absurd (k.0 cc)
full_names_tell (c ∷ cs) [] t u h k e = absurd (h.0 cc)
full_names_tell (c ∷ cs) (d ∷ ds) t u h k e =
    let behind : full_name cs t ≡ full_name ds u = cc in
    let same : c ≡ d = cc in
    let told = full_names_tell cs ds t u h.1 k.1 behind in
    (cc (same, told.0), told.1)
