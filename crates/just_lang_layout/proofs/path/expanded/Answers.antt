-- What an expansion gives is what the text becomes, and a name that is refused gives none.
use Rattle.std.proofs.Common.{List, ℕ, sym, subst}
use Rattle.std.specs.Prelude.{Option, Some}
use Rattle.std.proofs.lemmas.Result.{IfOk-weaker}
use Rattle.just_lang_layout.specs.Paths.{ExpandsIf}
use Rattle.just_lang_layout.proofs.Expansions.{refused_by}
use Rattle.just_lang_layout.proofs.path.expanded.Goals as goal

pub returns-in-Ok : goal.returns-in-Ok
returns-in-Ok c =
    IfOk-weaker c.text_from.result _ _ (λ t h. subst (λ (o : Option (List ℕ)). ExpandsIf c.args.environ.now.pairs (Some c.args.text.now) o) (sym h) c.in-Ok.ensures.expanded) c.text_from.ensures

pub returns-in-Err-Lookup : goal.returns-in-Err-Lookup
returns-in-Err-Lookup c =
    refused_by c.args.environ.now.pairs c.args.text.now c.in-Err-Lookup.field-0 c.in-Err-Lookup.field-0-0 c.in-Err-Lookup.field-0-is c.in-Err-Lookup.ensures.expanded
