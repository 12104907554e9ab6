-- One more module is taken from the end.
use Rattle.std.proofs.Common.{rules, ◌≡◌, ◌++◌, ◌∷◌, [], true}
use Rattle.just_lang_types.specs.Modules.{path_of}
use Rattle.just_lang_justfile.specs.Trees.{is_within}
use Rattle.just_lang_justfile.proofs.Nested.{taken_parts, taken_here, taken_within, taken_others}
use Rattle.just_lang_justfile.proofs.tree.take_within.Goals as goal

pub modules-preserved : goal.modules-preserved
modules-preserved c =
    let ks = c.modules.modules.items in
    let rest = c.pop.new.self.items in
    let j = c.in-Some.module in
    let more = c.push_one.new.list.items in
    let popped : ks ≡ rest ++ j ∷ [] = search rules in
    let pushed : more ≡ c.modules.inner.items ++ j ∷ [] = c.in_ok-push_one-in-Some.ensures in
    let here : is_within c.args.path.now (path_of j).components ≡ true = taken_here c.args.path.now ks rest j c.is_last_within.result (search rules) c.modules-test.true popped in
    record {
      parts = taken_parts c.args.modules.now.items ks rest c.modules.inner.items more j c.modules.invariant.parts popped pushed;
      within = taken_within c.args.path.now c.modules.inner.items more j c.modules.invariant.within here pushed;
      others = taken_others c.args.path.now c.args.modules.now.items ks rest j c.modules.invariant.others here popped;
    }
