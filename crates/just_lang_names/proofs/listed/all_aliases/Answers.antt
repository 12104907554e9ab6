-- What the tables give is what the modules give.
use Rattle.std.proofs.Common.{rules, ◌≡◌, ◌∙◌, ℕ, ap, map}
use Rattle.std.specs.List.{flat_map}
use Rattle.just_lang_layout.specs.declared.layout.Module.{Module}
use Rattle.just_lang_layout.specs.Items.{items_of_module}
use Rattle.just_lang_spots.specs.Entries.{entries}
use Rattle.just_lang_names.specs.declared.names.ModuleNames.{ModuleNames}
use Rattle.just_lang_names.specs.Names.{layout_of, wins_of}
use Rattle.just_lang_names.specs.TargetSpots.{aliases_in}
use Rattle.just_lang_names.specs.Targets.{alias_in, aliases_of}
use Rattle.just_lang_names.proofs.TableLaws.{given_same}
use Rattle.just_lang_names.proofs.listed.all_aliases.Goals as goal

pub returns : goal.returns
returns c =
    let names = c.args.names.now in
    let listed : map alias_in c.in_ok-list.list.items ≡ aliases_of names.modules.items = search rules in
    listed ∙ given_same (λ (x : ℕ × Module). flat_map (aliases_in x.0) (items_of_module (layout_of names).files x.1)) (λ (x : ℕ × ModuleNames). flat_map (aliases_in x.0) (entries x.1.items.items)) (wins_of names) (layout_of names).files
    (λ k m n h. ap (flat_map (aliases_in k)) h.items_are) 0 (layout_of names).modules names.modules.items c.requires.modules_are
