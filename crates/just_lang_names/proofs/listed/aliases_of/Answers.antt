-- One more module; there are no others behind the last one.
use Rattle.std.proofs.Common.{arith, ◌≡◌, ◌≤◌, ℕ, List, ◌++◌, length, map, rules, ◌∙◌, sym}
use Rattle.std.specs.List.{flat_map}
use Rattle.just_lang_spots.specs.Entries.{entries}
use Rattle.just_lang_names.specs.declared.names.ModuleNames.{ModuleNames}
use Rattle.just_lang_names.specs.TargetSpots.{aliases_in}
use Rattle.just_lang_names.specs.Targets.{alias_in}
use Rattle.just_lang_names.proofs.Steps.{enumerated_step, enumerated_end}
use Rattle.just_lang_names.proofs.listed.aliases_of.Goals as goal

pub modules-preserved : goal.modules-preserved
modules-preserved c =
    let n = c.index-modules-number.result in
    let more : map alias_in c.push_aliases.new.list.items ≡ map alias_in c.modules.list.items ++ flat_map (aliases_in c.modules.number) (entries n.items.items) = search rules in
    enumerated_step (λ (x : ℕ × ModuleNames). flat_map (aliases_in x.0) (entries x.1.items.items)) (map alias_in c.modules.list.items) (map alias_in c.push_aliases.new.list.items) c.args.modules.now c.modules.number n
    c.modules-test.true c.index-modules-number.is more ∙ c.modules.invariant

pub returns : goal.returns
returns c =
    let last : length c.args.modules.now ≤ c.modules.number = omega arith in
    sym (enumerated_end (λ (x : ℕ × ModuleNames). flat_map (aliases_in x.0) (entries x.1.items.items)) (map alias_in c.modules.list.items) c.args.modules.now c.modules.number last) ∙ c.modules.invariant
