-- The path of the recipes whose entries go is one.
use Rattle.std.proofs.Common.{◌≡◌, ◌&&◌, ℕ, Bool, true, false, List, [], ◌∷◌, Option, Some, None, refl, sym, subst}
use Rattle.std.specs.Prelude.{if◌then◌else◌, unwrap_or, All}
use Rattle.std.specs.List.{list_all}
use Rattle.std.proofs.lemmas.List.Elements.{All-nil, All-cons}
use Rattle.just_lang_read.specs.Characters.{begins_name, in_name}
use Rattle.just_lang_types.specs.Names.{IsName}
use Rattle.just_config.specs.ModulePaths.{is_name, all_names, names_only, components_of}
use Rattle.just_cli_texts.specs.Targets.{names_of}
use Rattle.just_cli.specs.declared.task.Other.{Other}
use Rattle.just_cli.specs.declared.task.Other.TheVariants as no_run
use Rattle.just_cli.specs.Commands.{path_if}
use Rattle.just_cli.specs.Tasks.{IsPathOrNone, IsCommand}

both_true : (a b : Bool) → (a && b) ≡ true → (a ≡ true) × (b ≡ true)
both_true true b is = (refl, is)
both_true false b is = absurd (let no : ⊥ = cc in no)

name_is : (n : List ℕ) → is_name n ≡ true → IsName n
name_is [] is = absurd (let no : ⊥ = cc in no)
name_is (c ∷ cs) is = both_true (begins_name c) (list_all in_name cs) is

names_are : (ns : List (List ℕ)) → all_names ns ≡ true → All IsName ns
names_are [] is = All-nil IsName
names_are (n ∷ ns) is = let both = both_true (is_name n) (all_names ns) is in All-cons IsName n ns (name_is n both.0) (names_are ns both.1)

path_is : (ns : List (List ℕ)) → all_names ns ≡ true → IsPathOrNone (path_if ns)
path_is [] is = tt
path_is (n ∷ ns) is = names_are (n ∷ ns) is

only_names : (o : Option (List (List ℕ))) → IsPathOrNone (path_if (unwrap_or (names_only o) []))
only_names None = tt
only_names (Some ns) = pick (all_names ns) refl
  where
    pick : (b : Bool) → all_names ns ≡ b → IsPathOrNone (path_if (unwrap_or (if b then Some ns else None) []))
    pick true is = path_is ns is
    pick false is = tt

-- so it is a path
pub cleans_path : (words : List (List ℕ)) → IsPathOrNone (path_if (names_of words))
cleans_path words = only_names (components_of words)

pub is_clean : (x : Other) (folder : List ℕ) (words : List (List ℕ)) → x ≡ no_run.Clean folder (path_if (names_of words)) → IsCommand x
is_clean x folder words is = subst (λ (y : Other). IsCommand y) (sym is) (cleans_path words)
