-- What a command prints of the parts of a project is what it prints of the project.
use Rattle.std.proofs.Common.{◌≡◌, inl, inr, ℕ, List, Option, Some, Result, Ok, Err, IfOk, IfErr, refl, sym, subst}
use Rattle.just_lang_types.specs.Modules.{assignments_of}
use Rattle.just_lang_layout.specs.Paths.{Pairs}
use Rattle.just_config_words.specs.declared.subcommand.Subcommand.{Subcommand}
use Rattle.just_config_words.specs.declared.subcommand.Subcommand.TheVariants as command
use Rattle.just_config.specs.declared.config.Config.{Config}
use Rattle.just_print_lists.specs.NameLists.{variables_text, groups_text}
use Rattle.just_print_lists.specs.Summaries.{ArePaths, joined_line}
use Rattle.just_print_commands.specs.Projects.{Parts}
use Rattle.just_exec.specs.declared.error.Error.{Error}
use Rattle.just_cli_plan.specs.Own.{OrMemory}
use Rattle.just_cli_plan.specs.Pairs.{Answers}
use Rattle.just_cli_texts.specs.declared.printed.Printed.{Printed}
use Rattle.just_cli_texts.specs.Laid.{LaidSources, ArePartsOf}
use Rattle.just_cli_texts.specs.ListOptions.{prefix_of}
use Rattle.just_cli_texts.specs.Prints.{alone, as_printed, no_recipes, IsSummed, dump_text, PrintsOf, Prints}
use Rattle.just_cli_texts.specs.Targets.{names_of, Lists, Shows, Uses}

-- the paths of recipes, and what is told beside them
pub summed : (c : Config) (p : Parts) (paths : List (List ℕ)) (text : List ℕ) (told : Option (List ℕ)) → ArePaths c.unsorted p.tree paths → text ≡ joined_line paths → told ≡ no_recipes paths → IsSummed c p (record { text = text; told = told })
summed c p paths text told are is at = (paths, are, rw (is, at) refl)

-- ---- what a command prints of all

module _ (c : Config) (p : Parts) (s : Subcommand) (ws : List (List ℕ)) (x : Printed) where
  module _ (text : List ℕ) (at : x ≡ alone text) where
    pub dump_printed : s ≡ command.Dump ws → text ≡ dump_text c p → PrintsOf c (Some s) p (Ok x)
    dump_printed it is = subst (λ (y : Subcommand). PrintsOf c (Some y) p (Ok x)) (sym it) (rw (at, is) refl)

    pub groups_printed : s ≡ command.Groups ws → text ≡ groups_text c.unsorted (prefix_of c) p.tree → PrintsOf c (Some s) p (Ok x)
    groups_printed it is = subst (λ (y : Subcommand). PrintsOf c (Some y) p (Ok x)) (sym it) (rw (at, is) refl)

    pub variables_printed : s ≡ command.Variables ws → text ≡ variables_text (assignments_of p.root) → PrintsOf c (Some s) p (Ok x)
    variables_printed it is = subst (λ (y : Subcommand). PrintsOf c (Some y) p (Ok x)) (sym it) (rw (at, is) refl)

  pub summary_printed : s ≡ command.Summary ws → IsSummed c p x → PrintsOf c (Some s) p (Ok x)
  summary_printed it is = subst (λ (y : Subcommand). PrintsOf c (Some y) p (Ok x)) (sym it) (x, is, refl)

-- ---- what words lead to

-- what is printed of it, from its text or its refusal
abbrev PrintsBy : (Result (List ℕ) Error → Type 0) → Result Printed Error → Type 0
PrintsBy P r = (x : Result (List ℕ) Error) × P x × (r ≡ as_printed x)

printed_by : (P : Result (List ℕ) Error → Type 0) (x : Result (List ℕ) Error) (r : Result Printed Error) → IfOk x (λ t. P (Ok t)) → IfErr x (OrMemory (λ e. P (Err e))) → r ≡ as_printed x → Answers (PrintsBy P) r
printed_by P (Ok t) r found refused is = rw is (Ok t, found, refl)
printed_by P (Err e) r found (inl wants) is = rw is (inl wants)
printed_by P (Err e) r found (inr why) is = rw is (inr (Err e, why, refl))

-- an answer that is one thing is another, where the first is the second
answers_by : (P Q : Result Printed Error → Type 0) → ((r : Result Printed Error) → P r → Q r) → (r : Result Printed Error) → Answers P r → Answers Q r
answers_by P Q is (Ok x) h = is (Ok x) h
answers_by P Q is (Err e) (inl wants) = inl wants
answers_by P Q is (Err e) (inr h) = inr (is (Err e) h)

module _ (c : Config) (p : Parts) (s : Subcommand) (ws names : List (List ℕ)) (same : names ≡ names_of ws) (x : Result (List ℕ) Error) (r : Result Printed Error) (is : r ≡ as_printed x) where
  pub lists_printed : s ≡ command.List ws → IfOk x (λ t. Lists c p names (Ok t)) → IfErr x (OrMemory (λ e. Lists c p names (Err e))) → Answers (PrintsOf c (Some s) p) r
  lists_printed it found refused =
      answers_by (PrintsBy (Lists c p names)) (PrintsOf c (Some s) p)
      (λ z h. subst (λ (y : Subcommand). PrintsOf c (Some y) p z) (sym it) (subst (λ (ns : List (List ℕ)). PrintsBy (Lists c p ns) z) same h)) r
      (printed_by (Lists c p names) x r found refused is)

  pub shows_printed : s ≡ command.Show ws → IfOk x (λ t. Shows c p names (Ok t)) → IfErr x (OrMemory (λ e. Shows c p names (Err e))) → Answers (PrintsOf c (Some s) p) r
  shows_printed it found refused =
      answers_by (PrintsBy (Shows c p names)) (PrintsOf c (Some s) p)
      (λ z h. subst (λ (y : Subcommand). PrintsOf c (Some y) p z) (sym it) (subst (λ (ns : List (List ℕ)). PrintsBy (Shows c p ns) z) same h)) r
      (printed_by (Shows c p names) x r found refused is)

  pub uses_printed : s ≡ command.Usage ws → IfOk x (λ t. Uses p names (Ok t)) → IfErr x (OrMemory (λ e. Uses p names (Err e))) → Answers (PrintsOf c (Some s) p) r
  uses_printed it found refused =
      answers_by (PrintsBy (Uses p names)) (PrintsOf c (Some s) p)
      (λ z h. subst (λ (y : Subcommand). PrintsOf c (Some y) p z) (sym it) (subst (λ (ns : List (List ℕ)). PrintsBy (Uses p ns) z) same h)) r
      (printed_by (Uses p names) x r found refused is)

-- ---- of the project

module _ (environ : Pairs) (c : Config) (l : LaidSources) (p q : Parts) (s : Subcommand) (are : ArePartsOf environ l p) (same : q ≡ p) (is : c.subcommand ≡ Some s) where
  prints_it : (r : Result Printed Error) → PrintsOf c (Some s) q r → Prints environ c l r
  prints_it r prints = (p, are, subst (λ (x : Option Subcommand). PrintsOf c x p r) (sym is) (subst (λ (y : Parts). PrintsOf c (Some s) y r) same prints))

  pub prints_so : (r : Result Printed Error) → Answers (PrintsOf c (Some s) q) r → Answers (Prints environ c l) r
  prints_so r prints = answers_by (PrintsOf c (Some s) q) (Prints environ c l) prints_it r prints
