-- Where no file is imported, no item is beaten.
use Rattle.std.proofs.Common.{◌≡◌, ◌∙◌, sym, subst, IfOk}
use Rattle.just_lang_spots.specs.Entries.{entries}
use Rattle.just_lang_spots.proofs.BeatenLaws.{unbeaten_alone}
use Rattle.just_lang_spots.proofs.winners.unbeaten.Goals as goal

pub returns : goal.returns
returns c =
    subst (λ ys. IfOk c.copies.result (λ v. entries v.items ≡ ys))
    (sym (unbeaten_alone c.args.winners.now (entries c.args.items.now) (sym c.imports_any.ensures ∙ c.if-imports_any.false))) c.copies.ensures
