-- The index finds each recipe.
use Rattle.std.proofs.Common.{map, ap, ◌∙◌, subst}
use Rattle.just_lang_types.specs.Modules.{located}
use Rattle.just_eval_closure.specs.Entries.{AreFirst}
use Rattle.just_eval_closure.proofs.EntryLists.{entries_found}
use Rattle.just_eval_closure.proofs.request.Request.new.Goals as goal

pub returns-clause-indexed : goal.returns-clause-indexed
returns-clause-indexed c =
    let index = c.in_ok-entries.entries in
    let all = c.in_ok-all.all.items in
    let first : AreFirst all index = subst (λ es. AreFirst es index) c.as_slice-2.ensures.value c.in_ok-entries.ensures in
    let are = c.in_ok-all.ensures.entries ∙ ap (λ ms. located (map (λ m. m.now) ms)) c.as_slice.ensures.value in
    entries_found c.args.scopes.now (map (λ m. m.now) c.in_ok-modules.modules.items) all index first are c.in_ok-all.ensures.see
