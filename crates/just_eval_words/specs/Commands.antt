-- What the path of a command leads to.
use Rattle.std.specs.Prelude.{if◌then◌else◌, List, [], ◌∷◌, ◌++◌, ℕ, Ok}
use Rattle.just_lang_types.specs.declared.project.Justfile.{Justfile}
use Rattle.just_lang_types.specs.declared.project.LangError.{LangError}
use Rattle.just_lang_types.specs.declared.project.LangError.TheVariants as error
use Rattle.just_lang_types.specs.Modules.{path_of}
use Rattle.just_eval_closure.specs.Answers.{Answer}
use Rattle.just_eval_words.specs.Paths.{joined_path}
use Rattle.just_eval_words.specs.Names.{Target, is_absent, within, module_named, last_target}

-- why a name that has to be that of a module is none
abbrev pub no_inner : Justfile → List ℕ → LangError
no_inner j name = if is_absent j name then error.ModuleAbsent name else error.UnknownSubmodule (joined_path ((path_of j).components ++ name ∷ []))

module _ (modules : List Justfile) where
  -- the module that names lead to, each that of a module or of an alias of one
  abbrev pub inner_at : List (List ℕ) → Justfile → Answer Justfile
  inner_at [] j = Ok j
  inner_at (name ∷ names) j = within (module_named modules j name) (λ m. inner_at names m) (no_inner j name)

  -- what the last of some names comes to, where those in front of it lead to a module; no names come to the module itself
  abbrev pub named_at : List (List ℕ) → Justfile → Answer Target
  named_at [] j = Ok (Target.to_module j)
  named_at (name ∷ []) j = last_target modules j name name
  named_at (name ∷ other ∷ names) j = within (module_named modules j name) (λ m. named_at (other ∷ names) m) (no_inner j name)
