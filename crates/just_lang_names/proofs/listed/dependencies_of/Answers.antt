-- One more module; there are no others behind the last one.
use Rattle.std.proofs.Common.{arith, ◌≡◌, ◌≤◌, ℕ, List, ◌++◌, length, map, rules, ◌∙◌, sym}
use Rattle.std.specs.List.{flat_map}
use Rattle.just_lang_spots.specs.Entries.{entries}
use Rattle.just_lang_names.specs.declared.names.ModuleNames.{ModuleNames}
use Rattle.just_lang_names.specs.TargetSpots.{dependencies_in}
use Rattle.just_lang_names.specs.Targets.{dependency_of}
use Rattle.just_lang_names.proofs.Steps.{enumerated_step, enumerated_end}
use Rattle.just_lang_names.proofs.listed.dependencies_of.Goals as goal

pub modules-preserved : goal.modules-preserved
modules-preserved c =
    let n = c.index-modules-number.result in
    let more : map dependency_of c.push_dependencies.new.list.items ≡ map dependency_of c.modules.list.items ++ flat_map (dependencies_in c.modules.number) (entries n.recipes.items) = search rules in
    enumerated_step (λ (x : ℕ × ModuleNames). flat_map (dependencies_in x.0) (entries x.1.recipes.items)) (map dependency_of c.modules.list.items) (map dependency_of c.push_dependencies.new.list.items) c.args.modules.now c.modules.number n
    c.modules-test.true c.index-modules-number.is more ∙ c.modules.invariant

pub returns : goal.returns
returns c =
    let last : length c.args.modules.now ≤ c.modules.number = omega arith in
    sym (enumerated_end (λ (x : ℕ × ModuleNames). flat_map (dependencies_in x.0) (entries x.1.recipes.items)) (map dependency_of c.modules.list.items) c.args.modules.now c.modules.number last) ∙ c.modules.invariant
