-- What is printed of the values of variables.
use Rattle.std.proofs.Common.{◌≡◌, inl, inr, ℕ, ◌+◌, ◌<◌, List, [], ◌∷◌, ◌++◌, map, length, drop, get_or, append_assoc, unwrap_or, Option, Some, None, Result, Ok, Err, refl, sym, ap, ◌∙◌, subst, arith}
use Rattle.std.specs.List.{flat_map}
use Rattle.std.proofs.lemmas.List.{drop_more, map-append}
use Rattle.just_lang_types.specs.declared.project.Justfile.{Justfile}
use Rattle.just_lang_types.specs.declared.scope.Level.{Level}
use Rattle.just_lang_types.specs.declared.scope.Scope.{Scope}
use Rattle.just_lang_types.specs.declared.scope.Scopes.{Scopes}
use Rattle.just_lang_types.specs.Modules.{path_of, AreModules}
use Rattle.just_lang_types.proofs.Nesting.{same_modules}
use Rattle.just_eval_closure.specs.Scopes.{scope_of}
use Rattle.just_eval_words.specs.Names.{module_named}
use Rattle.just_eval_words.specs.Paths.{Word, parts}
use Rattle.just_config.specs.ModulePaths.{module_path}
use Rattle.just_print_lists.specs.declared.variable.Evaluated.{Evaluated}
use Rattle.just_print_lists.specs.declared.variable.EvaluateFormat.{EvaluateFormat}
use Rattle.just_exec.specs.declared.error.Error.{Error}
use Rattle.just_exec.specs.declared.error.Error.TheVariants as error
use Rattle.just_cli_plan.specs.Own.{OrMemory}
use Rattle.just_cli_texts.specs.Evaluated.{names_of_word, as_evaluated, own_bindings, variables_in, variables_of, variable_named, step_in, evaluated_module, all_text, text_named, text_in, EvaluatesNames}

-- ---- the parts of a word

pub one_part : (before : List Word) (word name rest : Word) → parts word ≡ name ∷ parts rest → (before ++ name ∷ []) ++ parts rest ≡ before ++ parts word
one_part before word name rest is = append_assoc before (name ∷ []) (parts rest) ∙ ap (λ ws. before ++ ws) (sym is)

pub last_part : (before : List Word) (word : Word) → parts word ≡ word ∷ [] → before ++ word ∷ [] ≡ before ++ parts word
last_part before word is = ap (λ ws. before ++ ws) (sym is)

-- ---- the names in a word

pub word_path : (word : Word) (names : List (List ℕ)) → Some names ≡ module_path (word ∷ []) → names ≡ names_of_word word
word_path word names is = ap (λ (o : Option (List (List ℕ))). unwrap_or o (parts word)) is

pub word_parts : (word : Word) (names : List (List ℕ)) → None ≡ module_path (word ∷ []) → names ≡ parts word → names ≡ names_of_word word
word_parts word names none is = is ∙ ap (λ (o : Option (List (List ℕ))). unwrap_or o (parts word)) none

-- ---- the variables of a module

pub scoped : (scopes : Scopes) (j : Justfile) (s : Scope) (vs : List Evaluated) → Some s ≡ scope_of scopes (path_of j) → vs ≡ map as_evaluated (flat_map own_bindings s.levels) → vs ≡ variables_of scopes j
scoped scopes j s vs there is = is ∙ ap (λ (o : Option Scope). variables_in o) there

pub unscoped : (scopes : Scopes) (j : Justfile) (vs : List Evaluated) → None ≡ scope_of scopes (path_of j) → vs ≡ [] → vs ≡ variables_of scopes j
unscoped scopes j vs none is = is ∙ ap (λ (o : Option Scope). variables_in o) none

pub levels_more : (before : List Evaluated) (levels : List Level) (i : ℕ) (level : Level) → i < length levels → level ≡ get_or levels i level
    → (before ++ map as_evaluated (own_bindings level)) ++ map as_evaluated (flat_map own_bindings (drop (i + 1) levels)) ≡ before ++ map as_evaluated (flat_map own_bindings (drop i levels))
levels_more before levels i level lt is =
    append_assoc before (map as_evaluated (own_bindings level)) (map as_evaluated (flat_map own_bindings (drop (i + 1) levels)))
    ∙ (ap (λ (vs : List Evaluated). before ++ vs) (sym (map-append as_evaluated (own_bindings level) (flat_map own_bindings (drop (i + 1) levels))))
    ∙ ap (λ (ls : List Level). before ++ map as_evaluated (flat_map own_bindings ls)) (sym (drop_more levels i level lt ∙ ap (λ (x : Level). x ∷ drop (i + 1) levels) (sym is))))

-- ---- the module that names lead to

module _ (ms : List Justfile) where
  module_next : (names : List (List ℕ)) (i : ℕ) (name : List ℕ) (j : Justfile) → i < length names → name ≡ get_or names i name
      → evaluated_module ms (drop i names) j ≡ step_in ms (module_named ms j name) (λ m. evaluated_module ms (drop (i + 1) names) m) name
  module_next names i name j lt is = ap (λ (ns : List (List ℕ)). evaluated_module ms ns j) (drop_more names i name lt ∙ ap (λ (x : List ℕ). x ∷ drop (i + 1) names) (sym is))

  pub module_here : (names : List (List ℕ)) (i : ℕ) (name : List ℕ) (j m : Justfile) → i < length names → name ≡ get_or names i name → module_named ms j name ≡ Some m
      → evaluated_module ms (drop (i + 1) names) m ≡ evaluated_module ms (drop i names) j
  module_here names i name j m lt is h = sym (module_next names i name j lt is ∙ ap (λ (o : Option Justfile). step_in ms o (λ k. evaluated_module ms (drop (i + 1) names) k) name) h)

  pub module_lost : (names : List (List ℕ)) (i : ℕ) (name : List ℕ) (j : Justfile) → i < length names → name ≡ get_or names i name → module_named ms j name ≡ None
      → evaluated_module ms (drop i names) j ≡ Err (error.EvalUnknownSubmodule name)
  module_lost names i name j lt is h = module_next names i name j lt is ∙ ap (λ (o : Option Justfile). step_in ms o (λ k. evaluated_module ms (drop (i + 1) names) k) name) h

  -- so the names lead to no module
  pub module_refused : (names : List (List ℕ)) (i : ℕ) (name : List ℕ) (root j : Justfile) (e : Error) → i < length names → name ≡ get_or names i name → module_named ms j name ≡ None
      → evaluated_module ms (drop i names) j ≡ evaluated_module ms names root → OrMemory (λ x. x ≡ error.EvalUnknownSubmodule name) e → OrMemory (λ x. evaluated_module ms names root ≡ Err x) e
  module_refused names i name root j e lt is h all (inl wants) = inl wants
  module_refused names i name root j e lt is h all (inr told) =
      inr (sym all ∙ (module_lost names i name j lt is h ∙ ap (λ (x : Error). let into : Result Justfile Error = Err x in into) (sym told)))

-- ---- what is printed

module _ (f : EvaluateFormat) (ms : List Justfile) (scopes : Scopes) (j : Justfile) (name : List ℕ) where
  pub text_variable : (v : Evaluated) (text : List ℕ) → Some v ≡ variable_named (variables_of scopes j) name → text ≡ v.text → text_in f ms scopes j name ≡ Ok text
  text_variable v text there is =
      sym (ap (λ (t : List ℕ). let into : Result (List ℕ) Error = Ok t in into) is ∙ ap (λ (o : Option Evaluated). text_named f ms scopes name o (module_named ms j name)) there)

  by_both : (o : Option Justfile) → None ≡ variable_named (variables_of scopes j) name → o ≡ module_named ms j name → text_named f ms scopes name None o ≡ text_in f ms scopes j name
  by_both o none there =
      ap (λ (x : Option Justfile). text_named f ms scopes name None x) there ∙ ap (λ (x : Option Evaluated). text_named f ms scopes name x (module_named ms j name)) none

  pub text_module : (m : Justfile) (text : List ℕ) → None ≡ variable_named (variables_of scopes j) name → Some m ≡ module_named ms j name → text ≡ all_text f scopes m → text_in f ms scopes j name ≡ Ok text
  text_module m text none there is = sym (ap (λ (t : List ℕ). let into : Result (List ℕ) Error = Ok t in into) is ∙ by_both (Some m) none there)

  pub text_nowhere : (e : Error) → None ≡ variable_named (variables_of scopes j) name → None ≡ module_named ms j name → OrMemory (λ x. x ≡ error.EvalUnknownSubmoduleOrVariable name) e
      → OrMemory (λ x. text_in f ms scopes j name ≡ Err x) e
  text_nowhere e none nowhere (inl wants) = inl wants
  text_nowhere e none nowhere (inr is) = inr (sym (ap (λ (x : Error). let into : Result (List ℕ) Error = Err x in into) is ∙ by_both None none nowhere))

module _ (f : EvaluateFormat) (ms : List Justfile) (scopes : Scopes) (root : Justfile) (names : List (List ℕ)) where
  nothing_there : (ns : List (List ℕ)) → length ns ≡ 0 → ns ≡ []
  nothing_there [] none = refl
  nothing_there (n ∷ ns) none = absurd (omega (arith, none))

  pub names_whole : (text : List ℕ) → length names ≡ 0 → text ≡ all_text f scopes root → EvaluatesNames f ms scopes root names (Ok text)
  names_whole text none is = EvaluatesNames.whole (nothing_there names none) (ap (λ (t : List ℕ). Ok t) is)

  module _ (front : List (List ℕ)) (last : List ℕ) (split : names ≡ front ++ last ∷ []) where
    pub names_lost : (e : Error) → OrMemory (λ x. evaluated_module ms front root ≡ Err x) e → OrMemory (λ x. EvaluatesNames f ms scopes root names (Err x)) e
    names_lost e (inl wants) = inl wants
    names_lost e (inr lost) = inr (EvaluatesNames.lost front last e split lost refl)

    pub names_named : (j : Justfile) (text : List ℕ) → evaluated_module ms front root ≡ Ok j → text_in f ms scopes j last ≡ Ok text → EvaluatesNames f ms scopes root names (Ok text)
    names_named j text leads is = EvaluatesNames.named front last j split leads (sym is)

    pub names_unnamed : (j : Justfile) (e : Error) → evaluated_module ms front root ≡ Ok j → OrMemory (λ x. text_in f ms scopes j last ≡ Err x) e → OrMemory (λ x. EvaluatesNames f ms scopes root names (Err x)) e
    names_unnamed j e leads (inl wants) = inl wants
    names_unnamed j e leads (inr is) = inr (EvaluatesNames.named front last j split leads (sym is))

-- the modules of a justfile are one list, so what is printed by those that were found is printed by all
module _ (f g : EvaluateFormat) (format : f ≡ g) (ms : List Justfile) (scopes : Scopes) (root : Justfile) (are : AreModules (root ∷ []) ms) (names others : List (List ℕ)) (same : names ≡ others) where
  in_all : (r : Result (List ℕ) Error) → EvaluatesNames f ms scopes root names r → (modules : List Justfile) → AreModules (root ∷ []) modules → EvaluatesNames g modules scopes root others r
  in_all r h modules order =
      subst (λ (ns : List (List ℕ)). EvaluatesNames g modules scopes root ns r) same
      (subst (λ (js : List Justfile). EvaluatesNames g js scopes root names r) (same_modules (root ∷ []) ms modules are order) (subst (λ (x : EvaluateFormat). EvaluatesNames x ms scopes root names r) format h))

  pub text_in_all : (t : List ℕ) → EvaluatesNames f ms scopes root names (Ok t) → (modules : List Justfile) → AreModules (root ∷ []) modules → EvaluatesNames g modules scopes root others (Ok t)
  text_in_all t h = in_all (Ok t) h

  pub refusal_in_all : (e : Error) → OrMemory (λ x. EvaluatesNames f ms scopes root names (Err x)) e
      → OrMemory (λ x. (modules : List Justfile) → AreModules (root ∷ []) modules → EvaluatesNames g modules scopes root others (Err x)) e
  refusal_in_all e (inl wants) = inl wants
  refusal_in_all e (inr h) = inr (in_all (Err e) h)
