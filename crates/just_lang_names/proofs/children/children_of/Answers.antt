-- One more module has its number in the table; at the end all have theirs.
use Rattle.std.proofs.Common.{arith, ◌≡◌, ◌≤◌, [], ◌∷◌, ◌++◌, length, take, ap, ◌∙◌}
use Rattle.std.proofs.lemmas.List.{take_all}
use Rattle.just_lang_names.specs.Lookup.{module_at}
use Rattle.just_lang_names.specs.Names.{child_in}
use Rattle.just_lang_names.proofs.ChildLaws.{child_entered}
use Rattle.just_lang_names.proofs.children.children_of.Goals as goal

pub modules-preserved : goal.modules-preserved
modules-preserved c =
    child_entered c.args.modules.now c.args.paths.now c.modules.number c.index-modules-number.result c.as_slice.result.now c.stands_in-key.result (child_in c.modules.children) (child_in c.enter.new.self) c.requires
    c.modules-test.true c.index-modules-number.is c.as_slice.ensures c.stands_in-key.ensures c.modules.invariant c.in_ok-enter.ensures

pub returns : goal.returns
returns c = λ path outer e q.
    let last : length c.args.modules.now ≤ c.modules.number = omega arith in
    c.modules.invariant path outer e q ∙ ap (λ xs. module_at xs (path ++ q ∷ [])) (take_all c.modules.number c.args.modules.now last)
