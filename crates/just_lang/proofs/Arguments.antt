-- Where no parameter has two `arg`s, those are options that attributes make options.
use Rattle.std.proofs.Common.{◌≡◌, ◌⊎◌, inl, inr, ℕ, Bool, true, false, ◌&&◌, ◌||◌, List, [], ◌∷◌, ◌++◌, Option, Some, None, codes, refl, sym, ap, ◌∙◌, subst}
use Rattle.std.specs.Prelude.{if◌then◌else◌, filter_map, option_map, slice_get, bytes_eq}
use Rattle.std.specs.List.{list_any, cons_option}
use Rattle.std.specs.Option.{unwrap_or}
use Rattle.std.proofs.lemmas.Slice.Eq.{bytes_eq-Decides}
use Rattle.just_lang_syntax.specs.declared.ast.Argument.{Argument}
use Rattle.just_lang_syntax.specs.declared.ast.AstParameter.{AstParameter}
use Rattle.just_lang_syntax.specs.declared.ast.Attribute.{Attribute}
use Rattle.just_lang_syntax.specs.declared.ast.StringLiteral.{StringLiteral}
use Rattle.just_lang_spots.specs.declared.spot.Spot.{Spot}
use Rattle.just_lang_spots.specs.Places.{name_spot}
use Rattle.just_lang_spots.specs.Repeated.{is_among, repeated, repeated_behind}
use Rattle.just_lang_spots.specs.Spots.{spot_where}
use Rattle.just_lang_rules.specs.AttributeSpots.{parameter_named, arg_name}
use Rattle.just_lang_types.specs.Attributes.{is_called}
use Rattle.just_lang_types.specs.ConstantTexts.{const_text}
use Rattle.just_lang_types.specs.Options as tree
use Rattle.just_lang_shapes.specs.Parameters.{keys_behind, keys_for, last_keys, or_earlier}
use Rattle.just_lang.proofs.Known.{any_append}
use Rattle.just_lang.proofs.Lists.{none_left, none_right}
use Rattle.just_lang.proofs.Options.{option_is}
use Rattle.just_lang.proofs.Order.{AreAgreed}
use Rattle.just_lang.proofs.Parameters.{no_spot}

or_false : (b : Bool) → (b || false) ≡ b
or_false true = refl
or_false false = refl

or_true : (a b : Bool) → a ≡ true → (a || b) ≡ true
or_true a b h = ap (λ (c : Bool). c || b) h

and_true : (b : Bool) → (b && true) ≡ b
and_true true = refl
and_true false = refl

and_false : (b : Bool) → (b && false) ≡ false
and_false true = refl
and_false false = refl

-- a name with its place
abbrev at_spot : Spot → List ℕ → List ℕ × Spot
at_spot s t = (t, s)

none_or : (o : Option (List Argument)) → or_earlier None o ≡ o
none_or None = refl
none_or (Some keys) = refl

-- a name among some is among more
among_more : (q t : List ℕ) (names : List (List ℕ)) → is_among q names ≡ true → is_among q (names ++ t ∷ []) ≡ true
among_more q t names h = any_append (λ (other : List ℕ). bytes_eq other q) names (t ∷ []) ∙ or_true (is_among q names) (is_among q (t ∷ [])) h

among_last : (q : List ℕ) (names : List (List ℕ)) → is_among q (names ++ q ∷ []) ≡ true
among_last q names =
    any_append (λ (other : List ℕ). bytes_eq other q) names (q ∷ [])
    ∙ ap (λ (b : Bool). is_among q names || (b || false)) ((bytes_eq-Decides q q).1 refl) ∙ last (is_among q names)
  where
    last : (b : Bool) → (b || (true || false)) ≡ true
    last true = refl
    last false = refl

-- what is still to come behind one name, or none, of which none may come again
record After (q : List ℕ) (names : List (List ℕ)) (rest : List (List ℕ × Spot)) : Type 0 where
  seen : List (List ℕ)
  once : repeated_behind seen rest ≡ []
  kept : is_among q names ≡ true → is_among q seen ≡ true

after : (q : List ℕ) (names : List (List ℕ)) (o : Option (List ℕ × Spot)) (rest : List (List ℕ × Spot)) → repeated_behind names (cons_option o rest) ≡ [] → After q names rest
after q names None rest h = record { seen = names; once = h; kept = λ k. k }
after q names (Some x) rest h = record {
  seen = names ++ x.0 ∷ [];
  once = none_right (spot_where (is_among x.0 names) x.1) (repeated_behind (names ++ x.0 ∷ []) rest) h;
  kept = among_more q x.0 names;
}

module _ (text_of : StringLiteral → Option (List ℕ)) where
  -- whether these keys, where there are any, give a name
  abbrev named_in : Option (List Argument) → Bool
  named_in None = false
  named_in (Some keys) = tree.names_option text_of keys

  named_or_none : (o : Option (List Argument)) → tree.names_option text_of (unwrap_or o []) ≡ named_in o
  named_or_none None = refl
  named_or_none (Some keys) = refl

  option_behind : (name : List ℕ) (xs : List Argument) → tree.makes_option text_of name xs ≡ named_in (keys_behind text_of name xs)
  option_behind name [] = refl
  option_behind name (x ∷ keys) = by (tree.is_text name (const_text text_of x.value))
    where
      by : (c : Bool) → (tree.names_option text_of keys && c) ≡ named_in (if c then Some keys else None)
      by true = and_true (tree.names_option text_of keys)
      by false = and_false (tree.names_option text_of keys)

  option_for : (name : List ℕ) (a : Attribute) → tree.is_option_by text_of name a ≡ named_in (keys_for text_of name a)
  option_for name a = by (is_called (codes "arg") a)
    where
      by : (b : Bool) → (b && tree.makes_option text_of name a.arguments) ≡ named_in (if b then keys_behind text_of name a.arguments else None)
      by true = option_behind name a.arguments
      by false = refl

  module _ (file : ℕ) (name : List ℕ) where
    -- an attribute has no keys for the name, or names it
    abbrev IsSeen : Attribute → Type 0
    IsSeen a = (keys_for text_of name a ≡ None) ⊎ (arg_name text_of file a ≡ Some (name, name_spot file a.name))

    seen_text : (s : Spot) (o : Option (List ℕ)) (keys : List Argument)
        → ((if tree.is_text name o then Some keys else None) ≡ None) ⊎ (option_map (at_spot s) o ≡ Some (name, s))
    seen_text s None keys = inl refl
    seen_text s (Some t) keys = by (bytes_eq t name) refl
      where
        by : (b : Bool) → bytes_eq t name ≡ b → ((if bytes_eq t name then Some keys else None) ≡ None) ⊎ (option_map (at_spot s) (Some t) ≡ Some (name, s))
        by true h = inr (ap (λ (u : List ℕ). Some (u, s)) ((bytes_eq-Decides t name).0 h))
        by false h = inl (ap (λ (c : Bool). if c then Some keys else None) h)

    seen_behind : (s : Spot) (xs : List Argument) → (keys_behind text_of name xs ≡ None) ⊎ (option_map (at_spot s) (parameter_named text_of (slice_get xs 0)) ≡ Some (name, s))
    seen_behind s [] = inl refl
    seen_behind s (x ∷ keys) = seen_text s (const_text text_of x.value) keys

    seen : (a : Attribute) → IsSeen a
    seen a = by (is_called (codes "arg") a)
      where
        by : (b : Bool) → ((if b then keys_behind text_of name a.arguments else None) ≡ None)
            ⊎ ((if b then option_map (at_spot (name_spot file a.name)) (parameter_named text_of (slice_get a.arguments 0)) else None) ≡ Some (name, name_spot file a.name))
        by true = seen_behind (name_spot file a.name) a.arguments
        by false = inl refl

    abbrev args : List Attribute → List (List ℕ × Spot)
    args attributes = filter_map (arg_name text_of file) attributes

    -- behind an `arg` for the name there is no other
    none_later : (names : List (List ℕ)) (attributes : List Attribute) → is_among name names ≡ true → repeated_behind names (args attributes) ≡ [] → last_keys text_of attributes name ≡ None
    none_later names [] h once = refl
    none_later names (a ∷ attributes) h once =
        let rest = after name names (arg_name text_of file a) (args attributes) once in
        step (seen a) (none_later rest.seen attributes (rest.kept h) rest.once)
      where
        step : IsSeen a → last_keys text_of attributes name ≡ None → or_earlier (keys_for text_of name a) (last_keys text_of attributes name) ≡ None
        step (inl none) k = ap (or_earlier (keys_for text_of name a)) k ∙ none
        step (inr is) k =
            let again : repeated_behind names ((name, name_spot file a.name) ∷ args attributes) ≡ [] = subst (λ (o : Option (List ℕ × Spot)). repeated_behind names (cons_option o (args attributes)) ≡ []) is once in
            let not_among : is_among name names ≡ false = no_spot (is_among name names) (name_spot file a.name) (none_left (spot_where (is_among name names) (name_spot file a.name)) (repeated_behind (names ++ name ∷ []) (args attributes)) again) in
            absurd (let e : true ≡ false = sym h ∙ not_among in let no : ⊥ = cc in no)

    same_option : (names : List (List ℕ)) (attributes : List Attribute) → repeated_behind names (args attributes) ≡ [] → list_any (tree.is_option_by text_of name) attributes ≡ named_in (last_keys text_of attributes name)
    same_option names [] once = refl
    same_option names (a ∷ attributes) once =
        let rest = after name names (arg_name text_of file a) (args attributes) once in
        ap (λ (b : Bool). b || list_any (tree.is_option_by text_of name) attributes) (option_for name a)
        ∙ ap (λ (b : Bool). named_in (keys_for text_of name a) || b) (same_option rest.seen attributes rest.once)
        ∙ step (seen a)
      where
        step : IsSeen a → (named_in (keys_for text_of name a) || named_in (last_keys text_of attributes name)) ≡ named_in (or_earlier (keys_for text_of name a) (last_keys text_of attributes name))
        step (inl none) =
            ap (λ (o : Option (List Argument)). named_in o || named_in (last_keys text_of attributes name)) none
            ∙ sym (ap (λ (o : Option (List Argument)). named_in (or_earlier o (last_keys text_of attributes name))) none ∙ ap named_in (none_or (last_keys text_of attributes name)))
        step (inr is) =
            let again : repeated_behind names ((name, name_spot file a.name) ∷ args attributes) ≡ [] = subst (λ (o : Option (List ℕ × Spot)). repeated_behind names (cons_option o (args attributes)) ≡ []) is once in
            let behind : repeated_behind (names ++ name ∷ []) (args attributes) ≡ [] = none_right (spot_where (is_among name names) (name_spot file a.name)) (repeated_behind (names ++ name ∷ []) (args attributes)) again in
            let last : last_keys text_of attributes name ≡ None = none_later (names ++ name ∷ []) attributes (among_last name names) behind in
            ap (λ (o : Option (List Argument)). named_in (keys_for text_of name a) || named_in o) last ∙ or_false (named_in (keys_for text_of name a))
            ∙ sym (ap (λ (o : Option (List Argument)). named_in (or_earlier (keys_for text_of name a) o)) last)

  pub agreed : (file : ℕ) (attributes : List Attribute) → repeated (filter_map (arg_name text_of file) attributes) ≡ [] → (ps : List AstParameter) → AreAgreed text_of attributes ps
  agreed file attributes once [] = tt
  agreed file attributes once (p ∷ ps) = (
    option_is text_of attributes p ∙ named_or_none (last_keys text_of attributes p.name.text) ∙ sym (same_option file p.name.text [] attributes once),
    agreed file attributes once ps,
  )
