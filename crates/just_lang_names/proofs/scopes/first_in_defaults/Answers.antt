-- One more parameter.
use Rattle.std.proofs.Common.{◌≡◌, ◌+◌, ◌∙◌, take, sym, subst}
use Rattle.just_lang_spots.proofs.ListLaws.{take_here}
use Rattle.just_lang_names.specs.Scopes.{AreParameters}
use Rattle.just_lang_names.proofs.ScopeLaws.{defaults_step}
use Rattle.just_lang_names.proofs.scopes.first_in_defaults.Goals as goal

pub parameters-preserved : goal.parameters-preserved
parameters-preserved c =
    let ps = c.args.parameters.now in
    let i = c.parameters.parameter-index in
    let p = c.parameter-item.result in
    record {
      before = subst (λ xs. AreParameters xs c.add.new.self) (sym (take_here ps i p c.parameters-test.true c.parameter-item.is)) (c.in_ok-add.ensures (take i ps) c.parameters.invariant.before);
      rest =
          defaults_step c.args.names.now c.args.file ps i p c.parameters.before c.parameters.found c.first_in_default-here.result c.earlier-found.result c.parameters-test.true c.parameter-item.is
          c.parameters.invariant.before c.first_in_default-here.ensures c.earlier-found.ensures ∙ c.parameters.invariant.rest;
    }
