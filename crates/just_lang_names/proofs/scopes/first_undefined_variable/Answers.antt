-- What stands in the tables stands in the modules.
use Rattle.std.proofs.Common.{rules, ◌≡◌, ◌∙◌, ap}
use Rattle.std.specs.List.{flat_map}
use Rattle.just_lang_spots.specs.Spots.{first_spot}
use Rattle.just_lang_names.specs.Names.{layout_of, wins_of}
use Rattle.just_lang_names.specs.Scopes.{unknown_in_names}
use Rattle.just_lang_names.proofs.ScopeLaws.{undefined_is}
use Rattle.just_lang_names.proofs.scopes.first_undefined_variable.Goals as goal

pub returns : goal.returns
returns c =
    let names = c.args.names.now in
    let found : c.in_ok-found.found ≡ first_spot (flat_map unknown_in_names names.modules.items) = search rules in
    found ∙ ap first_spot (undefined_is (wins_of names) (layout_of names).files (layout_of names).modules names.modules.items c.requires.modules_are)
