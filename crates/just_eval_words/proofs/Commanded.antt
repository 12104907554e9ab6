-- What the path of a command leads to.
use Rattle.std.proofs.Common.{◌≡◌, ℕ, ◌+◌, ◌<◌, true, false, List, [], ◌∷◌, ◌++◌, length, drop, get_or, Option, Some, None, Ok, Err, refl, sym, ap, ◌∙◌, arith}
use Rattle.std.proofs.lemmas.List.{drop_more}
use Rattle.just_lang_types.specs.declared.project.Justfile.{Justfile}
use Rattle.just_lang_types.specs.declared.project.LangError.{LangError}
use Rattle.just_lang_types.specs.declared.project.LangError.TheVariants as error
use Rattle.just_lang_types.specs.Modules.{path_of}
use Rattle.just_eval_closure.specs.Answers.{Answer, and_then}
use Rattle.just_eval_words.specs.Paths.{joined_path}
use Rattle.just_eval_words.specs.Names.{Target, is_absent, within, module_named, last_target}
use Rattle.just_eval_words.specs.Commands.{no_inner, inner_at, named_at}

pub inner_absent : (j : Justfile) (name : List ℕ) → is_absent j name ≡ true → error.ModuleAbsent name ≡ no_inner j name
inner_absent j name h = rw h refl

pub inner_unknown : (j : Justfile) (name : List ℕ) → is_absent j name ≡ false → error.UnknownSubmodule (joined_path ((path_of j).components ++ name ∷ [])) ≡ no_inner j name
inner_unknown j name h = rw h refl

module _ (ms : List Justfile) where
  inner_next : (names : List (List ℕ)) (i : ℕ) (name : List ℕ) (j : Justfile) → i < length names → name ≡ get_or names i name
      → inner_at ms (drop i names) j ≡ within (module_named ms j name) (λ m. inner_at ms (drop (i + 1) names) m) (no_inner j name)
  inner_next names i name j lt is = ap (λ (ns : List (List ℕ)). inner_at ms ns j) (drop_more names i name lt ∙ ap (λ (x : List ℕ). x ∷ drop (i + 1) names) (sym is))

  -- a name is that of a module
  pub inner_here : (names : List (List ℕ)) (i : ℕ) (name : List ℕ) (j m : Justfile) → i < length names → name ≡ get_or names i name → module_named ms j name ≡ Some m
      → inner_at ms (drop (i + 1) names) m ≡ inner_at ms (drop i names) j
  inner_here names i name j m lt is h = sym (inner_next names i name j lt is ∙ ap (λ (o : Option Justfile). within o (λ k. inner_at ms (drop (i + 1) names) k) (no_inner j name)) h)

  -- and isn't
  pub inner_refused : (names : List (List ℕ)) (i : ℕ) (name : List ℕ) (j : Justfile) → i < length names → name ≡ get_or names i name → module_named ms j name ≡ None → inner_at ms (drop i names) j ≡ Err (no_inner j name)
  inner_refused names i name j lt is h = inner_next names i name j lt is ∙ ap (λ (o : Option Justfile). within o (λ k. inner_at ms (drop (i + 1) names) k) (no_inner j name)) h

  -- what follows from what a module has within it, where that follows in each module
  within_then : {A B : Type 0} (o : Option Justfile) (inner : Justfile → Answer A) (whole : Justfile → Answer B) (next : A → Answer B) (e : LangError)
      → ((m : Justfile) → whole m ≡ and_then (inner m) next) → within o whole e ≡ and_then (within o inner e) next
  within_then None inner whole next e h = refl
  within_then (Some m) inner whole next e h = h m

  -- names, and one more behind them
  named_split : (front : List (List ℕ)) (last : List ℕ) (j : Justfile) → named_at ms (front ++ last ∷ []) j ≡ and_then (inner_at ms front j) (λ m. last_target ms m last last)
  named_split [] last j = refl
  named_split (name ∷ []) last j = within_then (module_named ms j name) (inner_at ms []) (named_at ms (last ∷ [])) (λ m. last_target ms m last last) (no_inner j name) (λ m. refl)
  named_split (name ∷ other ∷ front) last j =
      within_then (module_named ms j name) (inner_at ms (other ∷ front)) (named_at ms (other ∷ (front ++ last ∷ []))) (λ m. last_target ms m last last) (no_inner j name) (λ m. named_split (other ∷ front) last m)

  pub named_last : (names front : List (List ℕ)) (last : List ℕ) (j m : Justfile) (t : Target) → names ≡ front ++ last ∷ [] → inner_at ms front j ≡ Ok m → last_target ms m last last ≡ Ok t → named_at ms names j ≡ Ok t
  named_last names front last j m t is inner h =
      ap (λ (ns : List (List ℕ)). named_at ms ns j) is ∙ named_split front last j ∙ ap (λ (a : Answer Justfile). and_then a (λ k. last_target ms k last last)) inner ∙ h

  pub named_refused : (names front : List (List ℕ)) (last : List ℕ) (j : Justfile) (e : LangError) → names ≡ front ++ last ∷ [] → inner_at ms front j ≡ Err e → named_at ms names j ≡ Err e
  named_refused names front last j e is inner =
      ap (λ (ns : List (List ℕ)). named_at ms ns j) is ∙ named_split front last j ∙ ap (λ (a : Answer Justfile). and_then a (λ k. last_target ms k last last)) inner

  pub named_unknown : (names front : List (List ℕ)) (last : List ℕ) (j m : Justfile) (e : LangError) → names ≡ front ++ last ∷ [] → inner_at ms front j ≡ Ok m → last_target ms m last last ≡ Err e → named_at ms names j ≡ Err e
  named_unknown names front last j m e is inner h =
      ap (λ (ns : List (List ℕ)). named_at ms ns j) is ∙ named_split front last j ∙ ap (λ (a : Answer Justfile). and_then a (λ k. last_target ms k last last)) inner ∙ h

  pub named_none : (names : List (List ℕ)) (j : Justfile) → length names ≡ 0 → named_at ms names j ≡ Ok (Target.to_module j)
  named_none [] j h = refl
  named_none (n ∷ ns) j h = absurd (omega (arith, h))
