-- The cache that is planned for a node has as many paths as inputs.
use Rattle.std.proofs.Common.{◌≡◌, ℕ, Bool, true, false, List, Option, Some, None, Result, Ok, Err, subst}
use Rattle.std.specs.Prelude.{if◌then◌else◌, codes}
use Rattle.std.proofs.lemmas.List.{length-map}
use Rattle.just_host_record.specs.declared.entry.Script.{Script}
use Rattle.just_host_record.specs.declared.entry.Spec.{Spec}
use Rattle.just_lang_syntax.specs.declared.ast.Attribute.{Attribute}
use Rattle.just_lang_types.specs.declared.node.BodyLine.{BodyLine}
use Rattle.just_lang_types.specs.declared.scope.Scopes.{Scopes}
use Rattle.just_eval_closure.specs.Answers.{Answer, and_then}
use Rattle.just_lang_types.specs.Modules.{Located}
use Rattle.just_exec_work.specs.declared.work.Work.{Work}
use Rattle.just_exec_work.specs.Works.{Run}
use Rattle.just_exec.specs.declared.node_cache.NodeCache.{NodeCache}
use Rattle.just_exec.specs.Caches.{IsPaired, cache_attribute, keyed_texts, texts_under, path_in, cache_of, script_child, cache_by, recipe_cache}

found_one : {A E : Type 0} (x y : A) → ◌≡◌ {A = Result A E} (Ok x) (Ok y) → x ≡ y
found_one x y is = cc

refused_none : {A E : Type 0} (e : E) (y : A) → ◌≡◌ {A = Result A E} (Err e) (Ok y) → ⊥
refused_none e y is = let no : ⊥ = cc in no

-- ---- the cache of a recipe

paired_none : (c : Option NodeCache) → ◌≡◌ {A = Answer (Option NodeCache)} (Ok None) (Ok c) → IsPaired c
paired_none c is = subst (λ (o : Option NodeCache). IsPaired o) (found_one None c is) tt

module _ (scopes : Scopes) (from : Located) (run : Run) (folder : List ℕ) (lines : List BodyLine) where
  paired_texts : (spec : Spec) (script : Script) (r : Answer (List (List ℕ × List ℕ))) (c : Option NodeCache) → and_then r (λ texts. Ok (Some (cache_of run folder lines spec script texts))) ≡ Ok c → IsPaired c
  paired_texts spec script (Ok texts) c is =
      subst (λ (o : Option NodeCache). IsPaired o) (found_one (Some (cache_of run folder lines spec script texts)) c is) (length-map (texts_under (codes "inputs") texts) (path_in spec.folder))
  paired_texts spec script (Err e) c is = absurd (refused_none e c is)

  paired_by : (o : Option Attribute) (child : Option (Spec × Script)) (c : Option NodeCache) → cache_by scopes from run folder lines o child ≡ Ok c → IsPaired c
  paired_by None child c is = paired_none c is
  paired_by (Some a) None c is = paired_none c is
  paired_by (Some a) (Some child) c is = paired_texts child.0 child.1 (keyed_texts scopes from run.values a.arguments) c is

  paired_alone : (w : Work) (b : Bool) (c : Option NodeCache) → (if b then Ok None else cache_by scopes from run folder lines (cache_attribute run.recipe) (script_child w)) ≡ Ok c → IsPaired c
  paired_alone w true c is = paired_none c is
  paired_alone w false c is = paired_by (cache_attribute run.recipe) (script_child w) c is

  pub paired_cache : (w : Work) (c : Option NodeCache) → recipe_cache scopes from run folder lines w ≡ Ok c → IsPaired c
  paired_cache w c is = paired_alone w run.flags.no_cache c is
