-- What commands print of a project is one thing.
use Rattle.std.specs.Prelude.{◌≡◌, ℕ, Bool, List, [], ◌∷◌, Option, Result}
use Rattle.just_lang_types.specs.declared.project.Justfile.{Justfile}
use Rattle.just_lang_types.specs.declared.scope.Scopes.{Scopes}
use Rattle.just_lang_types.specs.declared.source.Source.{Source}
use Rattle.just_lang_layout.specs.declared.layout.Layout.{Layout}
use Rattle.just_lang_layout.specs.Paths.{Pairs}
use Rattle.just_lang_spots.specs.Standing.{Wins}
use Rattle.just_lang_syntax.specs.declared.ast.StringLiteral.{StringLiteral}
use Rattle.just_config.specs.declared.config.Config.{Config}
use Rattle.just_exec.specs.declared.error.Error.{Error}
use Rattle.just_print_lists.specs.declared.listed.ListedModule.{ListedModule}
use Rattle.just_print_lists.specs.declared.variable.EvaluateFormat.{EvaluateFormat}
use Rattle.just_print_lists.specs.Summaries.{AreInTurn, ArePaths}
use Rattle.just_print_commands.specs.Projects.{Parts}
use Rattle.just_print_tree.specs.Branches.{IsTreeOf}
use Rattle.just_cli_texts.specs.declared.printed.Printed.{Printed}
use Rattle.just_cli_texts.specs.Choices.{Feeds}
use Rattle.just_cli_texts.specs.Defaults.{ListsLaid}
use Rattle.just_cli_texts.specs.Evaluated.{EvaluatesNames}
use Rattle.just_cli_texts.specs.Formatted.{Formats}
use Rattle.just_cli_texts.specs.Laid.{LaidSources}
use Rattle.just_cli_texts.specs.Prints.{Prints}
use Rattle.just_cli_texts.specs.Targets.{Lists, Shows, Uses}

-- what listings show of a project is one thing, and so is each text of a project's parts
pub record PrintersAgree : Type 0 where
  pub trees : (text_of : StringLiteral → Option (List ℕ)) (wins : Wins) (layout : Layout) (j : Justfile) (a b : ListedModule) → IsTreeOf text_of wins layout j a → IsTreeOf text_of wins layout j b → a ≡ b
  pub lists : (c : Config) (p : Parts) (names : List (List ℕ)) (x y : Result (List ℕ) Error) → Lists c p names x → Lists c p names y → x ≡ y
  pub shows : (c : Config) (p : Parts) (names : List (List ℕ)) (x y : Result (List ℕ) Error) → Shows c p names x → Shows c p names y → x ≡ y
  pub uses : (p : Parts) (names : List (List ℕ)) (x y : Result (List ℕ) Error) → Uses p names x → Uses p names y → x ≡ y
  pub paths : (unsorted : Bool) (root : ListedModule) (xs ys : List (List ℕ)) → ArePaths unsorted root xs → ArePaths unsorted root ys → xs ≡ ys
  pub turns : (unsorted : Bool) (root : ListedModule) (xs ys : List ListedModule) → AreInTurn unsorted (root ∷ []) xs → AreInTurn unsorted (root ∷ []) ys → xs ≡ ys

-- each text that a command prints or feeds to a chooser, or its refusal
pub record TextsAgree : Type 0 where
  pub listings : (environ : Pairs) (c : Config) (l : LaidSources) (names : List (List ℕ)) (x y : Result Printed Error) → ListsLaid environ c l names x → ListsLaid environ c l names y → x ≡ y
  pub prints : (environ : Pairs) (c : Config) (l : LaidSources) (x y : Result Printed Error) → Prints environ c l x → Prints environ c l y → x ≡ y
  pub evaluates : (f : EvaluateFormat) (modules : List Justfile) (scopes : Scopes) (root : Justfile) (names : List (List ℕ)) (x y : Result (List ℕ) Error) → EvaluatesNames f modules scopes root names x → EvaluatesNames f modules scopes root names y → x ≡ y
  pub formats : (c : Config) (environ : Pairs) (s : Source) (x y : Result (List ℕ) Error) → Formats c environ s x → Formats c environ s y → x ≡ y
  pub feeds : (environ : Pairs) (c : Config) (l : LaidSources) (x y : Result (List ℕ) Error) → Feeds environ c l x → Feeds environ c l y → x ≡ y
