-- Lines of recipes that can be chosen, one recipe at a time; and what a chooser is fed.
use denote.Ref.{Bor}
use Rattle.std.proofs.Common.{◌≡◌, ◌++◌, ◌+◌, ◌<◌, ℕ, Bool, true, false, List, [], ◌∷◌, length, map, filter, drop, get_or, Option, Result, Ok, Err, refl, sym, ◌∙◌, ap, append_assoc}
use Rattle.std.proofs.lemmas.List.{drop_more}
use Rattle.std.specs.Prelude.{if◌then◌else◌}
use Rattle.std.specs.List.{flat_map}
use Rattle.std.specs.Option.{option_copied}
use Rattle.just_lang_types.specs.declared.project.Justfile.{Justfile}
use Rattle.just_lang_layout.specs.Paths.{Pairs}
use Rattle.just_config.specs.declared.config.Config.{Config}
use Rattle.just_print_lists.specs.declared.listed.ListedModule.{ListedModule}
use Rattle.just_print_lists.specs.declared.listed.ListedRecipe.{ListedRecipe}
use Rattle.just_print_lists.specs.Groups.{is_nil}
use Rattle.just_print_commands.specs.Projects.{Parts}
use Rattle.just_exec.specs.declared.error.Error.{Error}
use Rattle.just_exec.specs.declared.error.Error.TheVariants as error
use Rattle.just_cli_texts.specs.Choices.{is_choosable, spaced_path, choices_of, AreChoices, fed, fed_unless_none, Feeds}
use Rattle.just_cli_texts.specs.Laid.{LaidSources, ArePartsOf}

-- the lines of those of some recipes of a module that can be chosen
abbrev pub lines_among : List (List ℕ) → Option (Bor Justfile) → ListedModule → List (Bor ListedRecipe) → List (List ℕ)
lines_among groups justfile outer rs = map (λ (r : ListedRecipe). spaced_path outer r.name) (filter (is_choosable groups (option_copied justfile)) (map (λ (r : Bor ListedRecipe). r.now) rs))

-- the line of one of them, where it can be chosen
abbrev pub line_if : Bool → ListedModule → ListedRecipe → List (List ℕ)
line_if chosen outer r = if chosen then spaced_path outer r.name ∷ [] else []

-- one more
module _ (groups : List (List ℕ)) (justfile : Option (Bor Justfile)) (outer : ListedModule) (r : Bor ListedRecipe) (rs : List (Bor ListedRecipe)) where
  abbrev rest : List ListedRecipe
  rest = filter (is_choosable groups (option_copied justfile)) (map (λ (x : Bor ListedRecipe). x.now) rs)

  by_chosen : (b : Bool) → map (λ (x : ListedRecipe). spaced_path outer x.name) (if b then r.now ∷ rest else rest) ≡ line_if b outer r.now ++ map (λ (x : ListedRecipe). spaced_path outer x.name) rest
  by_chosen true = refl
  by_chosen false = refl

  pub one_more : lines_among groups justfile outer (r ∷ rs) ≡ line_if (is_choosable groups (option_copied justfile) r.now) outer r.now ++ lines_among groups justfile outer rs
  one_more = by_chosen (is_choosable groups (option_copied justfile) r.now)

-- the lines of one more module
pub more_lines : (lines_of : ListedModule → List (List ℕ)) (ms : List (Bor ListedModule)) (i : ℕ) (m : Bor ListedModule) (old new all : List (List ℕ)) → i < length ms → m ≡ get_or ms i m
    → old ++ flat_map lines_of (map (λ (x : Bor ListedModule). x.now) (drop i ms)) ≡ all → new ≡ old ++ lines_of m.now → new ++ flat_map lines_of (map (λ (x : Bor ListedModule). x.now) (drop (i + 1) ms)) ≡ all
more_lines lines_of ms i m old new all less here before added =
    let left : drop i ms ≡ m ∷ drop (i + 1) ms = drop_more ms i m less ∙ ap (λ (x : Bor ListedModule). x ∷ drop (i + 1) ms) (sym here) in
    let others : List (List ℕ) = flat_map lines_of (map (λ (x : Bor ListedModule). x.now) (drop (i + 1) ms)) in
    ap (λ (l : List (List ℕ)). l ++ others) added
    ∙ (append_assoc old (lines_of m.now) others
    ∙ (ap (λ (l : List (Bor ListedModule)). old ++ flat_map lines_of (map (λ (x : Bor ListedModule). x.now) l)) (sym left) ∙ before))

-- the lines of modules, one module at a time
abbrev pub lines_of_modules : Config → List Justfile → List (Bor ListedModule) → List (List ℕ)
lines_of_modules c js ms = flat_map (choices_of c js) (map (λ (m : Bor ListedModule). m.now) ms)

pub one_module : (c : Config) (js : List Justfile) (m : Bor ListedModule) (ms : List (Bor ListedModule)) → lines_of_modules c js (m ∷ ms) ≡ choices_of c js m.now ++ lines_of_modules c js ms
one_module c js m ms = refl

-- some lines are fed, and none are refused
some_fed : (lines : List (List ℕ)) → is_nil lines ≡ false → Ok (fed lines) ≡ fed_unless_none lines
some_fed [] some = absurd (let no : ⊥ = cc in no)
some_fed (l ∷ ls) some = refl

none_fed : (lines : List (List ℕ)) → is_nil lines ≡ true → Err error.NoChoosableRecipes ≡ fed_unless_none lines
none_fed [] none = refl
none_fed (l ∷ ls) none = absurd (let no : ⊥ = cc in no)

module _ (environ : Pairs) (c : Config) (l : LaidSources) (p : Parts) (are : ArePartsOf environ l p) (lines : List (List ℕ)) (choices : AreChoices c p lines) where
  pub feeds_some : is_nil lines ≡ false → (text : List ℕ) → text ≡ fed lines → Feeds environ c l (Ok text)
  feeds_some some text is = (p, are, (lines, choices, ap (λ (t : List ℕ). let into : Result (List ℕ) Error = Ok t in into) is ∙ some_fed lines some))

  pub feeds_none : is_nil lines ≡ true → Feeds environ c l (Err error.NoChoosableRecipes)
  feeds_none none = (p, are, (lines, choices, none_fed lines none))
