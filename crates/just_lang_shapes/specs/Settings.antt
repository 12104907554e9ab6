-- The settings that items make.
use Rattle.std.specs.Prelude.{ℕ, Bool, true, false, if◌then◌else◌, List, [], ◌∷◌, filter_map, Option, Some, None, option_map, bytes_eq, codes}
use Rattle.std.specs.Option.{option_and_then}
use Rattle.just_lang_syntax.specs.declared.ast.AstItem.{AstItem}
use Rattle.just_lang_syntax.specs.declared.ast.AstItem.TheVariants as item
use Rattle.just_lang_syntax.specs.declared.ast.SettingValue.{SettingValue}
use Rattle.just_lang_syntax.specs.declared.ast.SettingValue.TheVariants as setting
use Rattle.just_lang_syntax.specs.declared.ast.StringLiteral.{StringLiteral}
use Rattle.just_lang_types.specs.declared.settings.Interpreter.{Interpreter}
use Rattle.just_lang_types.specs.declared.settings.Settings.{Settings}
use Rattle.just_lang_types.specs.ConstantTexts.{const_text}
use Rattle.just_lang_spots.specs.Items.{is_set}
use Rattle.just_lang_shapes.specs.declared.settings.FlagSettings.{FlagSettings}
use Rattle.just_lang_shapes.specs.declared.settings.TextSettings.{TextSettings}
use Rattle.just_lang_shapes.specs.declared.settings.ListSettings.{ListSettings}
use Rattle.just_lang_shapes.specs.Attributes.{first_of}

abbrev pub is_setting : ℕ × AstItem → Bool
is_setting (n, item.Setting name value comment) = true
is_setting (n, item.Blank) = false
is_setting (n, item.Comment text) = false
is_setting (n, item.Alias name target comment) = false
is_setting (n, item.Import optional path comment) = false
is_setting (n, item.Module attributes optional name path comment) = false
is_setting (n, item.Assignment export name value comment) = false
is_setting (n, item.Unexport name comment) = false
is_setting (n, item.Recipe r) = false

-- the value that an item gives to the setting of that name
abbrev pub value_in : List ℕ → AstItem → Option SettingValue
value_in name (item.Setting set value comment) = if bytes_eq set.text name then value else None
value_in name item.Blank = None
value_in name (item.Comment text) = None
value_in name (item.Alias alias target comment) = None
value_in name (item.Import optional path comment) = None
value_in name (item.Module attributes optional inner path comment) = None
value_in name (item.Assignment export variable value comment) = None
value_in name (item.Unexport variable comment) = None
value_in name (item.Recipe r) = None

-- the value of the setting of that name
abbrev pub setting_value : List ℕ → List (ℕ × AstItem) → Option SettingValue
setting_value name items = first_of (filter_map (λ x. value_in name x.1) items)

-- the settings whose flags, texts and lists are these
unfoldable pub settings_by : (List ℕ → Bool) → (List ℕ → Option (List ℕ)) → (List ℕ → Option Interpreter) → Settings
settings_by flag text list = record {
  allow_duplicate_recipes = flag (codes "allow-duplicate-recipes");
  allow_duplicate_variables = flag (codes "allow-duplicate-variables");
  default_list = flag (codes "default-list");
  dotenv_load = flag (codes "dotenv-load");
  dotenv_override = flag (codes "dotenv-override");
  dotenv_required = flag (codes "dotenv-required");
  export = flag (codes "export");
  fallback = flag (codes "fallback");
  guards = flag (codes "guards");
  ignore_comments = flag (codes "ignore-comments");
  lists = flag (codes "lists");
  no_cd = flag (codes "no-cd");
  no_exit_message = flag (codes "no-exit-message");
  positional_arguments = flag (codes "positional-arguments");
  quiet = flag (codes "quiet");
  unstable = flag (codes "unstable");
  windows_powershell = flag (codes "windows-powershell");
  dotenv_command = text (codes "dotenv-command");
  dotenv_filename = text (codes "dotenv-filename");
  dotenv_path = text (codes "dotenv-path");
  indentation = text (codes "indentation");
  tempdir = text (codes "tempdir");
  working_directory = text (codes "working-directory");
  shell = list (codes "shell");
  script_interpreter = list (codes "script-interpreter");
  windows_shell = list (codes "windows-shell");
}

module _ (text_of : StringLiteral → Option (List ℕ)) where
  abbrev pub text_in : SettingValue → Option (List ℕ)
  text_in (setting.Text x) = const_text text_of x
  text_in (setting.Bool b) = None
  text_in (setting.List xs) = None

  -- the first string is the command, and those behind it are its arguments; none where there is no string
  abbrev pub interpreter_of : List StringLiteral → Option Interpreter
  interpreter_of [] = None
  interpreter_of (x ∷ xs) = option_map (λ (command : List ℕ). record { command = command; arguments = filter_map text_of xs }) (text_of x)

  abbrev pub interpreter_in : SettingValue → Option Interpreter
  interpreter_in (setting.List xs) = interpreter_of xs
  interpreter_in (setting.Bool b) = None
  interpreter_in (setting.Text x) = None

  abbrev pub text_setting : List ℕ → List (ℕ × AstItem) → Option (List ℕ)
  text_setting name items = option_and_then text_in (setting_value name items)

  abbrev pub list_setting : List ℕ → List (ℕ × AstItem) → Option Interpreter
  list_setting name items = option_and_then interpreter_in (setting_value name items)

  -- the settings that items make
  abbrev pub settings_of : List (ℕ × AstItem) → Settings
  settings_of items = settings_by (λ name. is_set name items) (λ name. text_setting name items) (λ name. list_setting name items)

-- ---- what the code keeps

-- the settings that are these
unfoldable pub settings_with : FlagSettings → TextSettings → ListSettings → Settings
settings_with flags texts lists = record {
  allow_duplicate_recipes = flags.allow_duplicate_recipes;
  allow_duplicate_variables = flags.allow_duplicate_variables;
  default_list = flags.default_list;
  dotenv_load = flags.dotenv_load;
  dotenv_override = flags.dotenv_override;
  dotenv_required = flags.dotenv_required;
  export = flags.export;
  fallback = flags.fallback;
  guards = flags.guards;
  ignore_comments = flags.ignore_comments;
  lists = flags.lists;
  no_cd = flags.no_cd;
  no_exit_message = flags.no_exit_message;
  positional_arguments = flags.positional_arguments;
  quiet = flags.quiet;
  unstable = flags.unstable;
  windows_powershell = flags.windows_powershell;
  dotenv_command = texts.dotenv_command;
  dotenv_filename = texts.dotenv_filename;
  dotenv_path = texts.dotenv_path;
  indentation = texts.indentation;
  tempdir = texts.tempdir;
  working_directory = texts.working_directory;
  shell = lists.shell;
  script_interpreter = lists.script_interpreter;
  windows_shell = lists.windows_shell;
}
