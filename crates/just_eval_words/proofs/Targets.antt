-- What words lead to.
use Rattle.std.proofs.Common.{◌≡◌, ◌≢◌, ℕ, suc, ◌+◌, ◌<◌, ◌≤◌, ◌==◌, true, false, List, [], ◌∷◌, length, get_or, drop, drop-cons, Option, Some, None, Ok, Err, eq-eqb, ne_eqb, sym, ap, ◌∙◌, arith}
use Rattle.std.specs.Prelude.{if◌then◌else◌}
use Rattle.std.proofs.lemmas.List.{drop_all}
use Rattle.just_lang_types.specs.declared.recipe.Recipe.{Recipe}
use Rattle.just_lang_types.specs.declared.scope.Disabled.{Disabled}
use Rattle.just_lang_types.specs.declared.project.Justfile.{Justfile, out-Justfile}
use Rattle.just_lang_types.specs.declared.project.LangError.{LangError}
use Rattle.just_lang_types.specs.declared.project.LangError.TheVariants as error
use Rattle.just_eval_closure.specs.Answers.{Answer, and_then}
use Rattle.just_lang_types.specs.Modules.{Located}
use Rattle.just_eval_words.specs.Parameters.{least_words}
use Rattle.just_eval_words.specs.Paths.{Word, parts}
use Rattle.just_eval_words.specs.Names.{Target, disabled_at, alias_at, recipe_in, in_module, is_absent, module_named, aliased_recipe, target_among, last_target, no_module, within, target_of}
use Rattle.just_eval_words.specs.Targets.{default_in, default_enabled, default_by, default_of, behind_target, chosen}
use Rattle.just_eval_words.proofs.Parts.{some_part}

-- ---- the last name of a word

module _ (ms : List Justfile) (j : Justfile) (name : List ℕ) (word : Word) where
  abbrev no_recipe : Option Disabled
  no_recipe = disabled_at (out-Justfile j).disabled_recipes name

  abbrev recipe_there : Option Located
  recipe_there = in_module j (recipe_in j name)

  abbrev no_alias : Option Disabled
  no_alias = disabled_at (out-Justfile j).disabled_aliases name

  abbrev alias_there : Option Located
  alias_there = aliased_recipe ms (alias_at (out-Justfile j).recipe_aliases name)

  pub module_is : (m : Justfile) → module_named ms j name ≡ Some m → last_target ms j name word ≡ Ok (Target.to_module m)
  module_is m h = ap (λ x. target_among name word x (is_absent j name) no_recipe recipe_there no_alias alias_there) h

  behind_modules : module_named ms j name ≡ None → last_target ms j name word ≡ target_among name word None (is_absent j name) no_recipe recipe_there no_alias alias_there
  behind_modules h = ap (λ x. target_among name word x (is_absent j name) no_recipe recipe_there no_alias alias_there) h

  pub absent_is : module_named ms j name ≡ None → is_absent j name ≡ true → last_target ms j name word ≡ Err (error.ModuleAbsent name)
  absent_is h k = behind_modules h ∙ ap (λ x. target_among name word None x no_recipe recipe_there no_alias alias_there) k

  behind_absent : module_named ms j name ≡ None → is_absent j name ≡ false → last_target ms j name word ≡ target_among name word None false no_recipe recipe_there no_alias alias_there
  behind_absent h k = behind_modules h ∙ ap (λ x. target_among name word None x no_recipe recipe_there no_alias alias_there) k

  pub no_recipe_is : (d : Disabled) → module_named ms j name ≡ None → is_absent j name ≡ false → disabled_at (out-Justfile j).disabled_recipes name ≡ Some d → last_target ms j name word ≡ Err (error.RecipeDisabled name d.modules)
  no_recipe_is d h k l = behind_absent h k ∙ ap (λ x. target_among name word None false x recipe_there no_alias alias_there) l

  behind_disabled : module_named ms j name ≡ None → is_absent j name ≡ false → disabled_at (out-Justfile j).disabled_recipes name ≡ None → last_target ms j name word ≡ target_among name word None false None recipe_there no_alias alias_there
  behind_disabled h k l = behind_absent h k ∙ ap (λ x. target_among name word None false x recipe_there no_alias alias_there) l

  pub recipe_is : (r : Recipe) → module_named ms j name ≡ None → is_absent j name ≡ false → disabled_at (out-Justfile j).disabled_recipes name ≡ None → recipe_in j name ≡ Some r → last_target ms j name word ≡ Ok (Target.to_recipe (record { parent = j; recipe = r }))
  recipe_is r h k l m = behind_disabled h k l ∙ ap (λ x. target_among name word None false None (in_module j x) no_alias alias_there) m

  behind_recipes : module_named ms j name ≡ None → is_absent j name ≡ false → disabled_at (out-Justfile j).disabled_recipes name ≡ None → recipe_in j name ≡ None → last_target ms j name word ≡ target_among name word None false None None no_alias alias_there
  behind_recipes h k l m = behind_disabled h k l ∙ ap (λ x. target_among name word None false None (in_module j x) no_alias alias_there) m

  pub no_alias_is : (d : Disabled) → module_named ms j name ≡ None → is_absent j name ≡ false → disabled_at (out-Justfile j).disabled_recipes name ≡ None → recipe_in j name ≡ None → disabled_at (out-Justfile j).disabled_aliases name ≡ Some d → last_target ms j name word ≡ Err (error.AliasDisabled name d.modules)
  no_alias_is d h k l m n = behind_recipes h k l m ∙ ap (λ x. target_among name word None false None None x alias_there) n

  behind_aliases : module_named ms j name ≡ None → is_absent j name ≡ false → disabled_at (out-Justfile j).disabled_recipes name ≡ None → recipe_in j name ≡ None → disabled_at (out-Justfile j).disabled_aliases name ≡ None → last_target ms j name word ≡ target_among name word None false None None None alias_there
  behind_aliases h k l m n = behind_recipes h k l m ∙ ap (λ x. target_among name word None false None None x alias_there) n

  pub alias_is : (f : Located) → module_named ms j name ≡ None → is_absent j name ≡ false → disabled_at (out-Justfile j).disabled_recipes name ≡ None → recipe_in j name ≡ None → disabled_at (out-Justfile j).disabled_aliases name ≡ None → aliased_recipe ms (alias_at (out-Justfile j).recipe_aliases name) ≡ Some f → last_target ms j name word ≡ Ok (Target.to_recipe f)
  alias_is f h k l m n o = behind_aliases h k l m n ∙ ap (λ x. target_among name word None false None None None x) o

  pub unknown_is : module_named ms j name ≡ None → is_absent j name ≡ false → disabled_at (out-Justfile j).disabled_recipes name ≡ None → recipe_in j name ≡ None → disabled_at (out-Justfile j).disabled_aliases name ≡ None → aliased_recipe ms (alias_at (out-Justfile j).recipe_aliases name) ≡ None → last_target ms j name word ≡ Err (error.UnknownRecipe word)
  unknown_is h k l m n o = behind_aliases h k l m n ∙ ap (λ x. target_among name word None false None None None x) o

-- ---- the parts of a word

module _ (ms : List Justfile) (j : Justfile) (word rest : Word) where
  pub last_part : parts rest ≡ rest ∷ [] → target_of ms (parts rest) word j ≡ last_target ms j rest word
  last_part h = ap (λ ps. target_of ms ps word j) h

  module _ (name behind : Word) (h : parts rest ≡ name ∷ parts behind) where
    split : target_of ms (parts rest) word j ≡ within (module_named ms j name) (λ m. target_of ms (parts behind) word m) (no_module j name)
    split =
        let some = some_part behind in
        ap (λ ps. target_of ms ps word j) (h ∙ ap (λ ps. name ∷ ps) some.2) ∙ ap (λ ps. within (module_named ms j name) (λ m. target_of ms ps word m) (no_module j name)) (sym some.2)

    pub part_inside : (m : Justfile) → module_named ms j name ≡ Some m → target_of ms (parts behind) word m ≡ target_of ms (parts rest) word j
    part_inside m k = sym (split ∙ ap (λ o. within o (λ i. target_of ms (parts behind) word i) (no_module j name)) k)

    pub part_refused : module_named ms j name ≡ None → target_of ms (parts rest) word j ≡ Err (no_module j name)
    part_refused k = split ∙ ap (λ o. within o (λ i. target_of ms (parts behind) word i) (no_module j name)) k

-- ---- default recipes

module _ (j : Justfile) where
  pub none_default : default_in j ≡ None → default_of j ≡ Err error.NoRecipes
  none_default h = ap (default_by j) h

  module _ (r : Recipe) (h : default_in j ≡ Some r) where
    pub default_disabled : (d : Disabled) → disabled_at (out-Justfile j).disabled_recipes r.name ≡ Some d → default_of j ≡ Err (error.RecipeDisabled r.name d.modules)
    default_disabled d k = ap (default_by j) h ∙ ap (default_enabled j r) k

    enabled : disabled_at (out-Justfile j).disabled_recipes r.name ≡ None → default_of j ≡ (if least_words r.parameters == 0 then Ok (record { parent = j; recipe = r }) else Err (error.DefaultRecipeRequiresArguments r.name (least_words r.parameters)))
    enabled k = ap (default_by j) h ∙ ap (default_enabled j r) k

    apart : (n : ℕ) → n ≢ 0 → (n == 0) ≡ false
    apart n k = ne_eqb n 0 k

    same : (n : ℕ) → n ≡ 0 → (n == 0) ≡ true
    same n k = eq-eqb n 0 k

    pub default_needs : disabled_at (out-Justfile j).disabled_recipes r.name ≡ None → least_words r.parameters ≢ 0 → default_of j ≡ Err (error.DefaultRecipeRequiresArguments r.name (least_words r.parameters))
    default_needs k l = enabled k ∙ ap (λ b. if b then Ok (record { parent = j; recipe = r }) else Err (error.DefaultRecipeRequiresArguments r.name (least_words r.parameters))) (apart (least_words r.parameters) l)

    pub default_is : disabled_at (out-Justfile j).disabled_recipes r.name ≡ None → least_words r.parameters ≡ 0 → default_of j ≡ Ok (record { parent = j; recipe = r })
    default_is k l = enabled k ∙ ap (λ b. if b then Ok (record { parent = j; recipe = r }) else Err (error.DefaultRecipeRequiresArguments r.name (least_words r.parameters))) (same (least_words r.parameters) l)

-- ---- words

module _ (ms : List Justfile) (ws : List Word) (n : ℕ) (j : Justfile) where
  abbrev by : Word → Answer Target → Answer (Located × List Word)
  by w a = and_then a (λ t. behind_target t (λ m. chosen ms (drop (suc n) ws) m) (λ l. Ok (l, drop (suc n) ws)))

  here : (w : Word) → n < length ws → w ≡ get_or ws n w → chosen ms (drop n ws) j ≡ by w (target_of ms (parts w) w j)
  here w lt is = ap (λ vs. chosen ms vs j) (drop-cons ws n w lt ∙ ap (λ z. z ∷ drop (suc n) ws) (sym is))

  one : n + 1 ≡ suc n
  one = omega arith

  pub word_refused : (w : Word) (e : LangError) → n < length ws → w ≡ get_or ws n w → target_of ms (parts w) w j ≡ Err e → chosen ms (drop n ws) j ≡ Err e
  word_refused w e lt is h = here w lt is ∙ ap (by w) h

  pub word_inside : (w : Word) (m : Justfile) → n < length ws → w ≡ get_or ws n w → target_of ms (parts w) w j ≡ Ok (Target.to_module m) → chosen ms (drop (n + 1) ws) m ≡ chosen ms (drop n ws) j
  word_inside w m lt is h = ap (λ k. chosen ms (drop k ws) m) one ∙ sym (here w lt is ∙ ap (by w) h)

  pub word_found : (w : Word) (l : Located) → n < length ws → w ≡ get_or ws n w → target_of ms (parts w) w j ≡ Ok (Target.to_recipe l) → chosen ms (drop n ws) j ≡ Ok (l, drop (n + 1) ws)
  word_found w l lt is h = here w lt is ∙ ap (by w) h ∙ ap (λ k. Ok (l, drop k ws)) (sym one)

  abbrev with_default : Answer Located → Answer (Located × List Word)
  with_default a = and_then a (λ l. Ok (l, []))

  pub words_end : (l : Located) → length ws ≤ n → default_of j ≡ Ok l → chosen ms (drop n ws) j ≡ Ok (l, drop n ws)
  words_end l le h =
      let none : drop n ws ≡ [] = drop_all n ws le in
      ap (λ vs. chosen ms vs j) none ∙ ap with_default h ∙ ap (λ vs. Ok (l, vs)) (sym none)

  pub words_refused : (e : LangError) → length ws ≤ n → default_of j ≡ Err e → chosen ms (drop n ws) j ≡ Err e
  words_refused e le h = ap (λ vs. chosen ms vs j) (drop_all n ws le) ∙ ap with_default h
