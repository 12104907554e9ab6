-- The arities of recipes, and the options among their parameters.
use Rattle.std.proofs.Common.{◌≡◌, ℕ, ◌+◌, ◌<◌, Bool, true, false, not, ◌&&◌, List, [], ◌∷◌, ◌++◌, map, length, take, drop, get_or, Option, Some, None, refl, sym, ap, ◌∙◌}
use Rattle.std.specs.Prelude.{◌||◌, if◌then◌else◌, filter, slice_get, codes}
use Rattle.std.specs.List.{list_any}
use Rattle.std.specs.Option.{option_and_then, option_map}
use Rattle.std.proofs.lemmas.Option.{slice_get-map}
use denote.Ref.{Bor}
use Rattle.just_lang_syntax.specs.declared.ast.Argument.{Argument}
use Rattle.just_lang_syntax.specs.declared.ast.AstItem.{AstItem}
use Rattle.just_lang_syntax.specs.declared.ast.AstItem.TheVariants as item
use Rattle.just_lang_syntax.specs.declared.ast.AstParameter.{AstParameter}
use Rattle.just_lang_syntax.specs.declared.ast.AstRecipe.{AstRecipe}
use Rattle.just_lang_syntax.specs.declared.ast.Attribute.{Attribute}
use Rattle.just_lang_syntax.specs.declared.ast.StringLiteral.{StringLiteral}
use Rattle.just_lang_spots.specs.Entries.{entries}
use Rattle.just_lang_types.specs.Attributes.{is_called}
use Rattle.just_lang_types.specs.ConstantTexts.{const_text}
use Rattle.just_lang_types.specs.Options.{is_text, names_option, makes_option, is_option_by, is_option}
use Rattle.just_lang_names.specs.declared.arity.Arity.{Arity}
use Rattle.just_lang_names.specs.declared.arity.Arities.{Arities}
use Rattle.just_lang_names.specs.declared.names.ModuleNames.{ModuleNames}
use Rattle.just_lang_names.specs.declared.names.Names.{Names}
use Rattle.just_lang_names.specs.declared.options.Options.{Options}
use Rattle.just_lang_names.specs.Arities.{option_of_arguments, option_of, has_option_name, AreOptions, arity_of_item, arities_of, AreArities, arity_in, arity_of}
use Rattle.just_lang_names.specs.TargetSpots.{positional, has_option}
use Rattle.just_lang_names.specs.Targets.{recipe_at}

-- ---- options

module _ (text_of : StringLiteral → Option (List ℕ)) where
  arguments_are : (q : List ℕ) (xs : List Argument) → is_text q (option_of_arguments text_of xs) ≡ makes_option text_of q xs
  arguments_are q [] = refl
  arguments_are q (x ∷ keys) =
      elim (names_option text_of keys) as (λ b. is_text q (if b then const_text text_of x.value else None) ≡ (b && is_text q (const_text text_of x.value))) [
        | true ↦ refl
        | false ↦ refl
      ]

  -- an attribute makes a parameter an option where the name that it makes one is the parameter's
  pub option_is : (q : List ℕ) (a : Attribute) → is_text q (option_of text_of a) ≡ is_option_by text_of q a
  option_is q a =
      elim (is_called (codes "arg") a) as (λ b. is_text q (if b then option_of_arguments text_of a.arguments else None) ≡ (b && makes_option text_of q a.arguments)) [
        | true ↦ arguments_are q a.arguments
        | false ↦ refl
      ]

  -- ---- the parameters that are options

  any_same : {X : Type 0} (f g : X → Bool) (xs : List X) → ((x : X) → f x ≡ g x) → list_any f xs ≡ list_any g xs
  any_same f g [] h = refl
  any_same f g (x ∷ xs) h = ap (λ b. b || list_any f xs) (h x) ∙ ap (λ b. g x || b) (any_same f g xs h)

  pub positional_is : (options : Options) (r : AstRecipe) → AreOptions text_of r.attributes options
      → filter (λ (p : AstParameter). not (has_option_name options p.name.text)) r.parameters ≡ positional text_of r
  positional_is options r h = λ i. filter (λ (p : AstParameter). not (h p.name.text i)) r.parameters

  pub has_option_is : (options : Options) (r : AstRecipe) → AreOptions text_of r.attributes options
      → list_any (λ (p : AstParameter). has_option_name options p.name.text) r.parameters ≡ has_option text_of r
  has_option_is options r h = λ i. list_any (λ (p : AstParameter). h p.name.text i) r.parameters

  -- ---- the arity of a recipe in the tables

  both_places : (ns : List ModuleNames) (number place : ℕ)
      → option_and_then (λ (xs : List Arity). slice_get xs place) (slice_get (arities_of text_of ns) number)
      ≡ option_map (arity_of_item text_of) (option_and_then (λ (n : ModuleNames). slice_get (entries n.recipes.items) place) (slice_get ns number))
  both_places ns number place =
      ap (option_and_then (λ (xs : List Arity). slice_get xs place)) (slice_get-map (λ (n : ModuleNames). map (arity_of_item text_of) (entries n.recipes.items)) ns number)
      ∙ elim (slice_get ns number) as (λ o. option_and_then (λ (xs : List Arity). slice_get xs place) (option_map (λ (n : ModuleNames). map (arity_of_item text_of) (entries n.recipes.items)) o)
      ≡ option_map (arity_of_item text_of) (option_and_then (λ (n : ModuleNames). slice_get (entries n.recipes.items) place) o)) [
        | None ↦ refl
        | Some n ↦ slice_get-map (arity_of_item text_of) (entries n.recipes.items) place
      ]

  -- the arity at a recipe's place is the recipe's
  pub arity_is : (names : Names) (arities : Arities) (number place file : ℕ) (r : AstRecipe) → AreArities text_of names arities → recipe_at names number place ≡ Some (file, item.Recipe r)
      → arity_in arities number place ≡ Some (arity_of text_of r)
  arity_is names arities number place file r h k =
      ap (λ xss. option_and_then (λ (xs : List Arity). slice_get xs place) (slice_get xss number)) h
      ∙ both_places names.modules.items number place
      ∙ ap (option_map (arity_of_item text_of)) k

-- ---- loops

-- one more parameter behind some, in front of others
pub kept_more : (xs : List (Bor AstParameter)) (x : Bor AstParameter) (ys : List AstParameter) → map (λ (p : Bor AstParameter). p.now) (xs ++ x ∷ []) ++ ys ≡ map (λ (p : Bor AstParameter). p.now) xs ++ (x.now ∷ ys)
kept_more [] x ys = refl
kept_more (y ∷ xs) x ys = ap (λ k. y.now ∷ k) (kept_more xs x ys)
