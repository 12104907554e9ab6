-- The settings alone make the same settings.
use Rattle.std.proofs.Common.{◌≡◌, ℕ, Bool, List, [], ◌∷◌, refl, ap, ◌∙◌}
use Rattle.std.proofs.Math.Path.{fun_ext}
use Rattle.std.specs.Prelude.{filter, filter_map, Option, codes, ◌||◌}
use Rattle.std.specs.List.{list_any, cons_option}
use Rattle.std.specs.Option.{option_and_then}
use Rattle.just_lang_syntax.specs.declared.ast.AstItem.{AstItem}
use Rattle.just_lang_syntax.specs.declared.ast.AstItem.TheVariants as item
use Rattle.just_lang_syntax.specs.declared.ast.SettingValue.{SettingValue}
use Rattle.just_lang_syntax.specs.declared.ast.StringLiteral.{StringLiteral}
use Rattle.just_lang_types.specs.declared.settings.Interpreter.{Interpreter}
use Rattle.just_lang_types.specs.declared.settings.Settings.{Settings}
use Rattle.just_lang_spots.specs.Items.{is_set, sets}
use Rattle.just_lang_shapes.specs.declared.settings.FlagSettings.{FlagSettings}
use Rattle.just_lang_shapes.specs.declared.settings.TextSettings.{TextSettings}
use Rattle.just_lang_shapes.specs.declared.settings.ListSettings.{ListSettings}
use Rattle.just_lang_shapes.specs.Attributes.{first_of}
use Rattle.just_lang_shapes.specs.Settings.{is_setting, value_in, setting_value, text_setting, list_setting, text_in, interpreter_in, settings_by, settings_of, settings_with}

pub set_kept : (flag : List ℕ) (xs : List (ℕ × AstItem)) → is_set flag (filter is_setting xs) ≡ is_set flag xs
set_kept flag [] = refl
set_kept flag ((n, item.Setting name value comment) ∷ xs) = ap (λ b. sets flag (item.Setting name value comment) || b) (set_kept flag xs)
set_kept flag ((n, item.Blank) ∷ xs) = set_kept flag xs
set_kept flag ((n, item.Comment text) ∷ xs) = set_kept flag xs
set_kept flag ((n, item.Alias name target comment) ∷ xs) = set_kept flag xs
set_kept flag ((n, item.Import optional path comment) ∷ xs) = set_kept flag xs
set_kept flag ((n, item.Module attributes optional name path comment) ∷ xs) = set_kept flag xs
set_kept flag ((n, item.Assignment export name value comment) ∷ xs) = set_kept flag xs
set_kept flag ((n, item.Unexport name comment) ∷ xs) = set_kept flag xs
set_kept flag ((n, item.Recipe r) ∷ xs) = set_kept flag xs

values_kept : (name : List ℕ) (xs : List (ℕ × AstItem)) → filter_map (λ x. value_in name x.1) (filter is_setting xs) ≡ filter_map (λ x. value_in name x.1) xs
values_kept name [] = refl
values_kept name ((n, item.Setting set value comment) ∷ xs) = ap (cons_option (value_in name (item.Setting set value comment))) (values_kept name xs)
values_kept name ((n, item.Blank) ∷ xs) = values_kept name xs
values_kept name ((n, item.Comment text) ∷ xs) = values_kept name xs
values_kept name ((n, item.Alias alias target comment) ∷ xs) = values_kept name xs
values_kept name ((n, item.Import optional path comment) ∷ xs) = values_kept name xs
values_kept name ((n, item.Module attributes optional module_name path comment) ∷ xs) = values_kept name xs
values_kept name ((n, item.Assignment export variable value comment) ∷ xs) = values_kept name xs
values_kept name ((n, item.Unexport variable comment) ∷ xs) = values_kept name xs
values_kept name ((n, item.Recipe r) ∷ xs) = values_kept name xs

value_kept : (name : List ℕ) (xs : List (ℕ × AstItem)) → setting_value name (filter is_setting xs) ≡ setting_value name xs
value_kept name xs = ap first_of (values_kept name xs)

text_kept : (text_of : StringLiteral → Option (List ℕ)) (name : List ℕ) (xs : List (ℕ × AstItem)) → text_setting text_of name (filter is_setting xs) ≡ text_setting text_of name xs
text_kept text_of name xs = ap (option_and_then (text_in text_of)) (value_kept name xs)

list_kept : (text_of : StringLiteral → Option (List ℕ)) (name : List ℕ) (xs : List (ℕ × AstItem)) → list_setting text_of name (filter is_setting xs) ≡ list_setting text_of name xs
list_kept text_of name xs = ap (option_and_then (interpreter_in text_of)) (value_kept name xs)

pub settings_kept : (text_of : StringLiteral → Option (List ℕ)) (xs : List (ℕ × AstItem)) → settings_of text_of (filter is_setting xs) ≡ settings_of text_of xs
settings_kept text_of xs =
    ap (λ (f : List ℕ → Bool). settings_by f (λ name. text_setting text_of name (filter is_setting xs)) (λ name. list_setting text_of name (filter is_setting xs))) (fun_ext (λ name. set_kept name xs))
    ∙ ap (λ (f : List ℕ → Option (List ℕ)). settings_by (λ name. is_set name xs) f (λ name. list_setting text_of name (filter is_setting xs))) (fun_ext (λ name. text_kept text_of name xs))
    ∙ ap (λ (f : List ℕ → Option Interpreter). settings_by (λ name. is_set name xs) (λ name. text_setting text_of name xs) f) (fun_ext (λ name. list_kept text_of name xs))

-- settings that are those of the items
pub settings_are : (text_of : StringLiteral → Option (List ℕ)) (xs : List (ℕ × AstItem)) (flags : FlagSettings) (texts : TextSettings) (lists : ListSettings)
    → flags.allow_duplicate_recipes ≡ is_set (codes "allow-duplicate-recipes") xs
    → flags.allow_duplicate_variables ≡ is_set (codes "allow-duplicate-variables") xs
    → flags.default_list ≡ is_set (codes "default-list") xs
    → flags.dotenv_load ≡ is_set (codes "dotenv-load") xs
    → flags.dotenv_override ≡ is_set (codes "dotenv-override") xs
    → flags.dotenv_required ≡ is_set (codes "dotenv-required") xs
    → flags.export ≡ is_set (codes "export") xs
    → flags.fallback ≡ is_set (codes "fallback") xs
    → flags.guards ≡ is_set (codes "guards") xs
    → flags.ignore_comments ≡ is_set (codes "ignore-comments") xs
    → flags.lists ≡ is_set (codes "lists") xs
    → flags.no_cd ≡ is_set (codes "no-cd") xs
    → flags.no_exit_message ≡ is_set (codes "no-exit-message") xs
    → flags.positional_arguments ≡ is_set (codes "positional-arguments") xs
    → flags.quiet ≡ is_set (codes "quiet") xs
    → flags.unstable ≡ is_set (codes "unstable") xs
    → flags.windows_powershell ≡ is_set (codes "windows-powershell") xs
    → texts.dotenv_command ≡ text_setting text_of (codes "dotenv-command") xs
    → texts.dotenv_filename ≡ text_setting text_of (codes "dotenv-filename") xs
    → texts.dotenv_path ≡ text_setting text_of (codes "dotenv-path") xs
    → texts.indentation ≡ text_setting text_of (codes "indentation") xs
    → texts.tempdir ≡ text_setting text_of (codes "tempdir") xs
    → texts.working_directory ≡ text_setting text_of (codes "working-directory") xs
    → lists.shell ≡ list_setting text_of (codes "shell") xs
    → lists.script_interpreter ≡ list_setting text_of (codes "script-interpreter") xs
    → lists.windows_shell ≡ list_setting text_of (codes "windows-shell") xs
    → settings_with flags texts lists ≡ settings_of text_of xs
unfolding settings_by settings_with
settings_are text_of xs flags texts lists e0 e1 e2 e3 e4 e5 e6 e7 e8 e9 e10 e11 e12 e13 e14 e15 e16 e17 e18 e19 e20 e21 e22 e23 e24 e25 =
    let s0 : Settings = settings_with flags texts lists in
    let s1 : Settings = record s0 { allow_duplicate_recipes = is_set (codes "allow-duplicate-recipes") xs } in
    let s2 : Settings = record s1 { allow_duplicate_variables = is_set (codes "allow-duplicate-variables") xs } in
    let s3 : Settings = record s2 { default_list = is_set (codes "default-list") xs } in
    let s4 : Settings = record s3 { dotenv_load = is_set (codes "dotenv-load") xs } in
    let s5 : Settings = record s4 { dotenv_override = is_set (codes "dotenv-override") xs } in
    let s6 : Settings = record s5 { dotenv_required = is_set (codes "dotenv-required") xs } in
    let s7 : Settings = record s6 { export = is_set (codes "export") xs } in
    let s8 : Settings = record s7 { fallback = is_set (codes "fallback") xs } in
    let s9 : Settings = record s8 { guards = is_set (codes "guards") xs } in
    let s10 : Settings = record s9 { ignore_comments = is_set (codes "ignore-comments") xs } in
    let s11 : Settings = record s10 { lists = is_set (codes "lists") xs } in
    let s12 : Settings = record s11 { no_cd = is_set (codes "no-cd") xs } in
    let s13 : Settings = record s12 { no_exit_message = is_set (codes "no-exit-message") xs } in
    let s14 : Settings = record s13 { positional_arguments = is_set (codes "positional-arguments") xs } in
    let s15 : Settings = record s14 { quiet = is_set (codes "quiet") xs } in
    let s16 : Settings = record s15 { unstable = is_set (codes "unstable") xs } in
    let s17 : Settings = record s16 { windows_powershell = is_set (codes "windows-powershell") xs } in
    let s18 : Settings = record s17 { dotenv_command = text_setting text_of (codes "dotenv-command") xs } in
    let s19 : Settings = record s18 { dotenv_filename = text_setting text_of (codes "dotenv-filename") xs } in
    let s20 : Settings = record s19 { dotenv_path = text_setting text_of (codes "dotenv-path") xs } in
    let s21 : Settings = record s20 { indentation = text_setting text_of (codes "indentation") xs } in
    let s22 : Settings = record s21 { tempdir = text_setting text_of (codes "tempdir") xs } in
    let s23 : Settings = record s22 { working_directory = text_setting text_of (codes "working-directory") xs } in
    let s24 : Settings = record s23 { shell = list_setting text_of (codes "shell") xs } in
    let s25 : Settings = record s24 { script_interpreter = list_setting text_of (codes "script-interpreter") xs } in
    ap (λ (z : Bool). record s0 { allow_duplicate_recipes = z }) e0
    ∙ ap (λ (z : Bool). record s1 { allow_duplicate_variables = z }) e1
    ∙ ap (λ (z : Bool). record s2 { default_list = z }) e2
    ∙ ap (λ (z : Bool). record s3 { dotenv_load = z }) e3
    ∙ ap (λ (z : Bool). record s4 { dotenv_override = z }) e4
    ∙ ap (λ (z : Bool). record s5 { dotenv_required = z }) e5
    ∙ ap (λ (z : Bool). record s6 { export = z }) e6
    ∙ ap (λ (z : Bool). record s7 { fallback = z }) e7
    ∙ ap (λ (z : Bool). record s8 { guards = z }) e8
    ∙ ap (λ (z : Bool). record s9 { ignore_comments = z }) e9
    ∙ ap (λ (z : Bool). record s10 { lists = z }) e10
    ∙ ap (λ (z : Bool). record s11 { no_cd = z }) e11
    ∙ ap (λ (z : Bool). record s12 { no_exit_message = z }) e12
    ∙ ap (λ (z : Bool). record s13 { positional_arguments = z }) e13
    ∙ ap (λ (z : Bool). record s14 { quiet = z }) e14
    ∙ ap (λ (z : Bool). record s15 { unstable = z }) e15
    ∙ ap (λ (z : Bool). record s16 { windows_powershell = z }) e16
    ∙ ap (λ (z : Option (List ℕ)). record s17 { dotenv_command = z }) e17
    ∙ ap (λ (z : Option (List ℕ)). record s18 { dotenv_filename = z }) e18
    ∙ ap (λ (z : Option (List ℕ)). record s19 { dotenv_path = z }) e19
    ∙ ap (λ (z : Option (List ℕ)). record s20 { indentation = z }) e20
    ∙ ap (λ (z : Option (List ℕ)). record s21 { tempdir = z }) e21
    ∙ ap (λ (z : Option (List ℕ)). record s22 { working_directory = z }) e22
    ∙ ap (λ (z : Option Interpreter). record s23 { shell = z }) e23
    ∙ ap (λ (z : Option Interpreter). record s24 { script_interpreter = z }) e24
    ∙ ap (λ (z : Option Interpreter). record s25 { windows_shell = z }) e25
