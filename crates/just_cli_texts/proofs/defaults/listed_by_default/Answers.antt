-- The modules that were found are one list with any other.
use Rattle.std.proofs.Common.{rules, ◌≡◌, map, Some, None}
use Rattle.just_config.specs.ModulePaths.{module_path}
use Rattle.just_cli_texts.specs.Defaults.{names_if}
use Rattle.just_cli_texts.proofs.DefaultLaws.{names_in_all, no_names}
use Rattle.just_cli_texts.proofs.defaults.listed_by_default.Goals as goal

pub returns-in_ok-modules-in-Some : goal.returns-in_ok-modules-in-Some
returns-in_ok-modules-in-Some c =
    let ms = map (λ m. m.now) c.in_ok-modules-in-Some.modules.items in
    let root = c.args.justfile.now in
    let is : c.names_if.result ≡ names_if c.args.given ms root c.in-Some.names = search rules in
    let there : Some c.in-Some.names ≡ module_path c.args.words.now = search rules in
    names_in_all c.args.given root c.args.words.now ms c.in-Some.names c.names_if.result c.in_ok-modules-in-Some.ensures there is

pub returns-in-None : goal.returns-in-None
returns-in-None c =
    let none : None ≡ module_path c.args.words.now = search rules in
    no_names c.args.given c.args.justfile.now c.args.words.now none
