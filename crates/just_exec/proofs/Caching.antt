-- The cache of a recipe, step by step.
use Rattle.std.proofs.Common.{◌≡◌, ℕ, true, false, List, Some, None, Ok, Err, refl, ap, ◌∙◌}
use Rattle.std.specs.Prelude.{if◌then◌else◌}
use Rattle.just_host_record.specs.declared.entry.Script.{Script}
use Rattle.just_host_record.specs.declared.entry.Spec.{Spec}
use Rattle.just_lang_syntax.specs.declared.ast.Attribute.{Attribute}
use Rattle.just_lang_types.specs.declared.node.BodyLine.{BodyLine}
use Rattle.just_lang_types.specs.declared.project.LangError.{LangError}
use Rattle.just_lang_types.specs.declared.scope.Scopes.{Scopes}
use Rattle.just_eval_closure.specs.Answers.{Answer, and_then}
use Rattle.just_lang_types.specs.Modules.{Located}
use Rattle.just_exec_work.specs.declared.work.Work.{Work}
use Rattle.just_exec_work.specs.Works.{Run}
use Rattle.just_exec.specs.Caches.{cache_attribute, keyed_texts, cache_of, script_child, cache_by, recipe_cache}

-- what comes of an answer that is known
pub known_text : {A B : Type 0} (a : Answer A) (next : A → Answer B) (x : A) → a ≡ Ok x → and_then a next ≡ next x
known_text a next x is = ap (λ b. and_then b next) is

pub known_refusal : {A B : Type 0} (a : Answer A) (next : A → Answer B) (e : LangError) → a ≡ Err e → and_then a next ≡ Err e
known_refusal a next e is = ap (λ b. and_then b next) is

module _ (scopes : Scopes) (from : Located) (run : Run) (folder : List ℕ) (lines : List BodyLine) (w : Work) where
  -- the words leave caches alone
  pub left_alone : run.flags.no_cache ≡ true → recipe_cache scopes from run folder lines w ≡ Ok None
  left_alone is = ap (λ b. if b then Ok None else cache_by scopes from run folder lines (cache_attribute run.recipe) (script_child w)) is

  not_left : run.flags.no_cache ≡ false → recipe_cache scopes from run folder lines w ≡ cache_by scopes from run folder lines (cache_attribute run.recipe) (script_child w)
  not_left is = ap (λ b. if b then Ok None else cache_by scopes from run folder lines (cache_attribute run.recipe) (script_child w)) is

  -- the recipe has no `cache`
  pub no_attribute : run.flags.no_cache ≡ false → cache_attribute run.recipe ≡ None → recipe_cache scopes from run folder lines w ≡ Ok None
  no_attribute is lacks = not_left is ∙ ap (λ o. cache_by scopes from run folder lines o (script_child w)) lacks

  module _ (is : run.flags.no_cache ≡ false) (a : Attribute) (has : cache_attribute run.recipe ≡ Some a) where
    with_attribute : recipe_cache scopes from run folder lines w ≡ cache_by scopes from run folder lines (Some a) (script_child w)
    with_attribute = not_left is ∙ ap (λ o. cache_by scopes from run folder lines o (script_child w)) has

    -- the body starts no child
    pub no_child : script_child w ≡ None → recipe_cache scopes from run folder lines w ≡ Ok None
    no_child starts = with_attribute ∙ ap (λ o. cache_by scopes from run folder lines (Some a) o) starts

    module _ (spec : Spec) (script : Script) (starts : script_child w ≡ Some (spec, script)) where
      with_child : recipe_cache scopes from run folder lines w ≡ and_then (keyed_texts scopes from run.values a.arguments) (λ texts. Ok (Some (cache_of run folder lines spec script texts)))
      with_child = with_attribute ∙ ap (λ o. cache_by scopes from run folder lines (Some a) o) starts

      -- its values give the cache
      pub cache_given : (texts : List (List ℕ × List ℕ)) → keyed_texts scopes from run.values a.arguments ≡ Ok texts → recipe_cache scopes from run folder lines w ≡ Ok (Some (cache_of run folder lines spec script texts))
      cache_given texts are = with_child ∙ known_text (keyed_texts scopes from run.values a.arguments) (λ ts. Ok (Some (cache_of run folder lines spec script ts))) texts are

      -- or one is refused
      pub cache_refused : (e : LangError) → keyed_texts scopes from run.values a.arguments ≡ Err e → recipe_cache scopes from run folder lines w ≡ Err e
      cache_refused e are = with_child ∙ known_refusal (keyed_texts scopes from run.values a.arguments) (λ ts. Ok (Some (cache_of run folder lines spec script ts))) e are
