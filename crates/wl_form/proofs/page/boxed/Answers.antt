use Rattle.std.proofs.Common.{refl, rules}
use Rattle.std.specs.Str.{chars}
use Rattle.unicode_ident.proofs.Computing.{unicode_ident}
use Rattle.wl_form.proofs.Pages.{unparted}
use Rattle.wl_form.proofs.page.boxed.Goals as goal

pub returns-in_default : goal.returns-in_default
returns-in_default c = search (rules, unparted)

pub named_box-requires : goal.named_box-requires
unfolding chars unicode_ident
named_box-requires c = refl

pub named_box-requires-2 : goal.named_box-requires-2
unfolding chars unicode_ident
named_box-requires-2 c = refl
