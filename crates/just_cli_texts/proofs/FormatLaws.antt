-- The text of a source that has a tree, and why another has none.
use Rattle.std.proofs.Common.{◌≡◌, ◌≢◌, ◌⊎◌, inl, inr, ℕ, List, Ok, Err, refl}
use Rattle.just_lang_syntax.specs.declared.ast.AstItem.{AstItem}
use Rattle.just_lang_types.specs.declared.project.LangError.{LangError}
use Rattle.just_lang_types.specs.declared.project.LangError.TheVariants as lang
use Rattle.just_lang_types.specs.declared.source.Source.{Source}
use Rattle.just_lang_types.specs.Trees.{IsTree, RefusesSource}
use Rattle.just_lang_layout.specs.Paths.{Pairs}
use Rattle.just_config.specs.declared.config.Config.{Config}
use Rattle.just_exec.specs.Refusals.{error_of_lang}
use Rattle.just_exec.specs.declared.error.Error.{Error}
use Rattle.just_cli_plan.specs.Own.{OrMemory}
use Rattle.just_cli_texts.specs.Formatted.{format_text, Formats}

wants_or_not : (l : LangError) → (l ≡ lang.NoMemory) ⊎ (l ≢ lang.NoMemory)
wants_or_not lang.NoMemory = inl refl
wants_or_not _ = inr (λ is. let no : ⊥ = cc in no)

module _ (c : Config) (environ : Pairs) (source : Source) where
  pub formatted_so : (items : List AstItem) (text : List ℕ) → IsTree source.text items → text ≡ format_text c environ items → Formats c environ source (Ok text)
  formatted_so items text tree is = (items, tree, is)

  unformatted_by : (l : LangError) → RefusesSource source l → (l ≡ lang.NoMemory) ⊎ (l ≢ lang.NoMemory) → OrMemory (λ e. Formats c environ source (Err e)) (error_of_lang l)
  unformatted_by l why (inl wants) = inl (rw wants refl)
  unformatted_by l why (inr known) = inr (l, why, known, refl)

  pub unformatted : (l : LangError) (e : Error) → RefusesSource source l → e ≡ error_of_lang l → OrMemory (λ f. Formats c environ source (Err f)) e
  unformatted l e why is = rw is (unformatted_by l why (wants_or_not l))
