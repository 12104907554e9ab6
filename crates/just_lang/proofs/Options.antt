-- A recipe whose parameters no attribute makes options has no option, and takes what its tree does.
use Rattle.std.proofs.Common.{◌≡◌, ◌⊎◌, inl, inr, ℕ, suc, ◌≤◌, Bool, true, false, not, ◌&&◌, ◌||◌, cond, List, [], ◌∷◌, length, Option, Some, None, codes, refl, sym, ap, ◌∙◌, subst, arith, nat_le}
use Rattle.std.specs.Prelude.{is_some, filter, option_map, if◌then◌else◌}
use Rattle.std.specs.List.{list_any, cons_option}
use Rattle.std.specs.Option.{option_or, option_and_then, unwrap_or}
use Rattle.just_lang_syntax.specs.declared.ast.Argument.{Argument}
use Rattle.just_lang_syntax.specs.declared.ast.AstParameter.{AstParameter}
use Rattle.just_lang_syntax.specs.declared.ast.AstRecipe.{AstRecipe}
use Rattle.just_lang_syntax.specs.declared.ast.Attribute.{Attribute}
use Rattle.just_lang_syntax.specs.declared.ast.Expr.{Expr}
use Rattle.just_lang_syntax.specs.declared.ast.StringLiteral.{StringLiteral}
use Rattle.just_lang_syntax.specs.Attributes.{has_key}
use Rattle.just_lang_types.specs.declared.recipe.Parameter.{Parameter}
use Rattle.just_lang_types.specs.declared.recipe.Recipe.{Recipe}
use Rattle.just_lang_types.specs.Attributes.{is_called}
use Rattle.just_lang_types.specs.ConstantTexts.{const_text}
use Rattle.just_lang_types.specs.Options as tree
use Rattle.just_lang_rules.specs.ParameterSpots as rule
use Rattle.just_lang_names.specs.TargetSpots.{is_variadic, has_option, positional, takes_count}
use Rattle.just_lang_shapes.specs.Attributes.{first_of}
use Rattle.just_lang_shapes.specs.Expansions.{expanded_expr}
use Rattle.just_lang_shapes.specs.Parameters.{values_of, value_of, keys_behind, keys_for, last_keys, keys_of, or_earlier, long_of, short_of, first_character, parameter_with, parameter_of, parameters_of}
use Rattle.just_lang.specs.Sound.{is_option, wants_value, Takes}
use Rattle.just_lang.proofs.Lists.{left_false, right_false}

-- ---- parameters that aren't options

module _ (text_of : StringLiteral → Option (List ℕ)) where
  -- the keys give no name: `long` isn't among them, and no `short` that isn't empty
  abbrev AreUnnamed : List Argument → Type 0
  AreUnnamed keys = tree.names_option text_of keys ≡ false

  abbrev AreUnnamedIn : Option (List Argument) → Type 0
  AreUnnamedIn None = Unit {0}
  AreUnnamedIn (Some keys) = AreUnnamed keys

  pub long_is : (name : List ℕ) (keys : List Argument) → is_some (long_of text_of name keys) ≡ has_key keys (codes "long")
  long_is name keys = by (has_key keys (codes "long"))
    where
      by : (b : Bool) → is_some (if b then Some (unwrap_or (value_of text_of (codes "long") keys) name) else None) ≡ b
      by true = refl
      by false = refl

  text_step : (s first : Option (List ℕ)) (texts : List (List ℕ)) → first ≡ first_of texts → option_or s first ≡ first_of (cons_option s texts)
  text_step None first texts h = h
  text_step (Some t) first texts h = refl

  -- the first text of a key, and its texts
  first_value : (key : List ℕ) (xs : List Argument) → tree.first_text text_of key xs ≡ value_of text_of key xs
  first_value key [] = refl
  first_value key (x ∷ xs) = text_step (tree.text_at text_of key x) (tree.first_text text_of key xs) (values_of text_of key xs) (first_value key xs)

  pub short_is : (keys : List Argument) → is_some (short_of text_of keys) ≡ tree.has_character (tree.first_text text_of (codes "short") keys)
  short_is keys = by (value_of text_of (codes "short") keys) ∙ sym (ap tree.has_character (first_value (codes "short") keys))
    where
      by : (o : Option (List ℕ)) → is_some (option_and_then first_character o) ≡ tree.has_character o
      by None = refl
      by (Some t) = refl

  -- a parameter's names as an option are there exactly where its keys give it one
  pub named_is : (name : List ℕ) (keys : List Argument) → (is_some (long_of text_of name keys) || is_some (short_of text_of keys)) ≡ tree.names_option text_of keys
  named_is name keys = ap (λ (b : Bool). b || is_some (short_of text_of keys)) (long_is name keys) ∙ ap (λ (b : Bool). has_key keys (codes "long") || b) (short_is keys)

  unnamed_behind : (name : List ℕ) (xs : List Argument) → tree.makes_option text_of name xs ≡ false → AreUnnamedIn (keys_behind text_of name xs)
  unnamed_behind name [] h = tt
  unnamed_behind name (x ∷ keys) h = by (tree.is_text name (const_text text_of x.value)) h
    where
      by : (b : Bool) → (tree.names_option text_of keys && b) ≡ false → AreUnnamedIn (if b then Some keys else None)
      by true k = always (tree.names_option text_of keys) k
        where
          always : (c : Bool) → (c && true) ≡ false → c ≡ false
          always true l = l
          always false l = refl
      by false k = tt

  unnamed_for : (name : List ℕ) (a : Attribute) → tree.is_option_by text_of name a ≡ false → AreUnnamedIn (keys_for text_of name a)
  unnamed_for name a h = by (is_called (codes "arg") a) h
    where
      by : (b : Bool) → (b && tree.makes_option text_of name a.arguments) ≡ false → AreUnnamedIn (if b then keys_behind text_of name a.arguments else None)
      by true k = unnamed_behind name a.arguments k
      by false k = tt

  unnamed_or : (earlier later : Option (List Argument)) → AreUnnamedIn earlier → AreUnnamedIn later → AreUnnamedIn (or_earlier earlier later)
  unnamed_or earlier None h k = h
  unnamed_or earlier (Some keys) h k = k

  unnamed_last : (name : List ℕ) (attributes : List Attribute) → list_any (tree.is_option_by text_of name) attributes ≡ false → AreUnnamedIn (last_keys text_of attributes name)
  unnamed_last name [] h = tt
  unnamed_last name (a ∷ attributes) h =
      unnamed_or (keys_for text_of name a) (last_keys text_of attributes name)
      (unnamed_for name a (left_false (tree.is_option_by text_of name a) (list_any (tree.is_option_by text_of name) attributes) h))
      (unnamed_last name attributes (right_false (tree.is_option_by text_of name a) (list_any (tree.is_option_by text_of name) attributes) h))

  unnamed_keys : (o : Option (List Argument)) → AreUnnamedIn o → AreUnnamed (unwrap_or o [])
  unnamed_keys None h = refl
  unnamed_keys (Some keys) h = h

  pub option_is : (attributes : List Attribute) (p : AstParameter) → is_option (parameter_of text_of attributes p) ≡ tree.names_option text_of (keys_of text_of attributes p.name.text)
  unfolding parameter_with
  option_is attributes p = named_is p.name.text (keys_of text_of attributes p.name.text)

  not_option : (attributes : List Attribute) (p : AstParameter) → tree.is_option text_of attributes p ≡ false → is_option (parameter_of text_of attributes p) ≡ false
  not_option attributes p h = option_is attributes p ∙ unnamed_keys (last_keys text_of attributes p.name.text) (unnamed_last p.name.text attributes h)

  no_options : (attributes : List Attribute) (ps : List AstParameter) → list_any (tree.is_option text_of attributes) ps ≡ false → list_any is_option (parameters_of text_of attributes ps) ≡ false
  no_options attributes [] h = refl
  no_options attributes (p ∷ ps) h =
      ap (λ (b : Bool). b || list_any is_option (parameters_of text_of attributes ps)) (not_option attributes p (left_false (tree.is_option text_of attributes p) (list_any (tree.is_option text_of attributes) ps) h))
      ∙ no_options attributes ps (right_false (tree.is_option text_of attributes p) (list_any (tree.is_option text_of attributes) ps) h)

  -- ---- how many arguments are taken

  all_positional : (attributes : List Attribute) (ps : List AstParameter) → list_any (tree.is_option text_of attributes) ps ≡ false → filter (λ (p : AstParameter). not (tree.is_option text_of attributes p)) ps ≡ ps
  all_positional attributes [] h = refl
  all_positional attributes (p ∷ ps) h =
      ap (λ (b : Bool). cond (not b) (p ∷ filter (λ (q : AstParameter). not (tree.is_option text_of attributes q)) ps) (filter (λ (q : AstParameter). not (tree.is_option text_of attributes q)) ps))
      (left_false (tree.is_option text_of attributes p) (list_any (tree.is_option text_of attributes) ps) h)
      ∙ ap (λ (qs : List AstParameter). p ∷ qs) (all_positional attributes ps (right_false (tree.is_option text_of attributes p) (list_any (tree.is_option text_of attributes) ps) h))

  pub same_default : (o : Option Expr) → is_some (option_map (expanded_expr text_of) o) ≡ is_some o
  same_default None = refl
  same_default (Some x) = refl

  pub wants_same : (attributes : List Attribute) (p : AstParameter) → wants_value (parameter_of text_of attributes p) ≡ rule.wants_value p
  unfolding parameter_with
  wants_same attributes p = ap (λ (b : Bool). not (b || rule.is_star p.kind)) (same_default p.default)

  kind_same : (attributes : List Attribute) (p : AstParameter) → is_variadic (parameter_of text_of attributes p).kind ≡ is_variadic p.kind
  unfolding parameter_with
  kind_same attributes p = refl

  as_many : (attributes : List Attribute) (ps : List AstParameter) → length (parameters_of text_of attributes ps) ≡ length ps
  as_many attributes [] = refl
  as_many attributes (p ∷ ps) = ap (λ (n : ℕ). suc n) (as_many attributes ps)

  wanted : (attributes : List Attribute) (ps : List AstParameter) → length (filter wants_value (parameters_of text_of attributes ps)) ≡ length (filter rule.wants_value ps)
  wanted attributes [] = refl
  wanted attributes (p ∷ ps) =
      ap (λ (b : Bool). length (cond b (parameter_of text_of attributes p ∷ filter wants_value (parameters_of text_of attributes ps)) (filter wants_value (parameters_of text_of attributes ps)))) (wants_same attributes p)
      ∙ by (rule.wants_value p) (wanted attributes ps)
    where
      by : (b : Bool) → length (filter wants_value (parameters_of text_of attributes ps)) ≡ length (filter rule.wants_value ps) → length (cond b (parameter_of text_of attributes p ∷ filter wants_value (parameters_of text_of attributes ps)) (filter wants_value (parameters_of text_of attributes ps)))
          ≡ length (cond b (p ∷ filter rule.wants_value ps) (filter rule.wants_value ps))
      by true k = ap (λ (n : ℕ). suc n) k
      by false k = k

  variadic : (attributes : List Attribute) (ps : List AstParameter) → list_any (λ (p : Parameter). is_variadic p.kind) (parameters_of text_of attributes ps) ≡ list_any (λ (p : AstParameter). is_variadic p.kind) ps
  variadic attributes [] = refl
  variadic attributes (p ∷ ps) =
      ap (λ (b : Bool). b || list_any (λ (q : Parameter). is_variadic q.kind) (parameters_of text_of attributes ps)) (kind_same attributes p) ∙ ap (λ (b : Bool). is_variadic p.kind || b) (variadic attributes ps)

  at_most : (a b : ℕ) → nat_le a b ≡ true → a ≤ b
  at_most a b h = grind arith

  both_true : (a b : Bool) → (a && b) ≡ true → (a ≡ true) × (b ≡ true)
  both_true true b h = (refl, h)
  both_true false b h = absurd (let no : ⊥ = cc in no)

  either_true : (a b : Bool) → (a || b) ≡ true → (a ≡ true) ⊎ (b ≡ true)
  either_true true b h = inl refl
  either_true false b h = inr h

  -- the recipe whose parameters are those of a tree takes so many arguments, where the tree does
  pub takes : (l : Recipe) (r : AstRecipe) (count : ℕ) → l.parameters ≡ parameters_of text_of r.attributes r.parameters → has_option text_of r ≡ false → takes_count text_of r count ≡ true → Takes l count
  takes l r count are none h =
      let all : positional text_of r ≡ r.parameters = all_positional r.attributes r.parameters none in
      let counted : (nat_le (length (filter rule.wants_value r.parameters)) count && (nat_le count (length r.parameters) || list_any (λ (p : AstParameter). is_variadic p.kind) r.parameters)) ≡ true =
      subst (λ (ps : List AstParameter). (nat_le (length (filter rule.wants_value ps)) count && (nat_le count (length ps) || list_any (λ (p : AstParameter). is_variadic p.kind) ps)) ≡ true) all h in
      let both = both_true (nat_le (length (filter rule.wants_value r.parameters)) count) (nat_le count (length r.parameters) || list_any (λ (p : AstParameter). is_variadic p.kind) r.parameters) counted in
      record {
        positional = ap (list_any is_option) are ∙ no_options r.attributes r.parameters none;
        enough = subst (λ (n : ℕ). n ≤ count) (sym (ap (λ (ps : List Parameter). length (filter wants_value ps)) are ∙ wanted r.attributes r.parameters)) (at_most (length (filter rule.wants_value r.parameters)) count both.0);
        not_more = more (either_true (nat_le count (length r.parameters)) (list_any (λ (p : AstParameter). is_variadic p.kind) r.parameters) both.1);
      }
    where
      more : (nat_le count (length r.parameters) ≡ true) ⊎ (list_any (λ (p : AstParameter). is_variadic p.kind) r.parameters ≡ true)
          → (list_any (λ (p : Parameter). is_variadic p.kind) l.parameters ≡ true) ⊎ (count ≤ length l.parameters)
      more (inl few) = inr (subst (λ (n : ℕ). count ≤ n) (sym (ap length are ∙ as_many r.attributes r.parameters)) (at_most count (length r.parameters) few))
      more (inr any) = inl (ap (list_any (λ (p : Parameter). is_variadic p.kind)) are ∙ variadic r.attributes r.parameters ∙ any)
