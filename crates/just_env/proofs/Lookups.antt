-- What changes that are put one behind the other say of a name.
use Rattle.std.proofs.Common.{◌≡◌, ℕ, Bool, true, false, cond, List, [], ◌∷◌, ◌++◌, map, Option, Some, None, option_map, bytes_eq, refl, sym, ap, ◌∙◌}
use Rattle.std.specs.Prelude.{◌||◌, if◌then◌else◌}
use Rattle.std.specs.BTreeMap.{insert_entry}
use Rattle.std.specs.List.{flat_map}
use Rattle.std.specs.List.Sorted.{IsStrictlySortedBy}
use Rattle.std.specs.Map.{lookup}
use Rattle.just_path_text.specs.Environ.{or_else, value_of}
use Rattle.just_host_record.proofs.Pairs.{entered, or_moved, or_none, or_chosen}
use Rattle.just_lang_types.specs.declared.scope.Level.{Level}
use Rattle.just_env.specs.Changes.{Change, text_cmp, exports, put_all, gets, goes, level_changes, outer, changes, is_among, taken_out, level_says, levels_say, change, AreChanges}

-- ---- all changes

-- what the last change of a name says of it
abbrev pub last : List Change → List ℕ → Option (Option (List ℕ))
last [] name = None
last (c ∷ cs) name = or_else (last cs name) (cond (bytes_eq c.0 name) (Some c.1) None)

-- the changes that are put are said, each name's last one
put_said : (done cs : List Change) (name : List ℕ) → lookup (bytes_eq name) (put_all done cs) ≡ or_else (last cs name) (lookup (bytes_eq name) done)
put_said done [] name = refl
put_said done (c ∷ cs) name =
    put_said (insert_entry text_cmp done c.0 c.1) cs name
    ∙ ap (λ g. or_else (last cs name) g) (entered c.0 name c.1 done ∙ or_chosen (bytes_eq c.0 name) c.1 (lookup (bytes_eq name) done))
    ∙ or_moved (last cs name) (cond (bytes_eq c.0 name) (Some c.1) None) (lookup (bytes_eq name) done)

last_behind : (cs ds : List Change) (name : List ℕ) → last (cs ++ ds) name ≡ or_else (last ds name) (last cs name)
last_behind [] ds name = sym (or_none (last ds name))
last_behind (c ∷ cs) ds name =
    ap (λ o. or_else o (cond (bytes_eq c.0 name) (Some c.1) None)) (last_behind cs ds name) ∙ sym (or_moved (last ds name) (last cs name) (cond (bytes_eq c.0 name) (Some c.1) None))

-- ---- pairs, names that are taken out, levels

some_moved : (v w : Option (List ℕ)) → option_map Some (or_else v w) ≡ or_else (option_map Some v) (option_map Some w)
some_moved None w = refl
some_moved (Some x) w = refl

some_chosen : (b : Bool) (t : List ℕ) → cond b (Some (Some t)) None ≡ option_map Some (if b then Some t else None)
some_chosen true t = refl
some_chosen false t = refl

pairs_last : (ps : List (List ℕ × List ℕ)) (name : List ℕ) → last (map gets ps) name ≡ option_map Some (value_of name ps)
pairs_last [] name = refl
pairs_last (p ∷ ps) name =
    ap (λ o. or_else o (cond (bytes_eq p.0 name) (Some (Some p.1)) None)) (pairs_last ps name)
    ∙ ap (λ o. or_else (option_map Some (value_of name ps)) o) (some_chosen (bytes_eq p.0 name) p.1)
    ∙ sym (some_moved (value_of name ps) (if bytes_eq p.0 name then Some p.1 else None))

either : (a b : Bool) → or_else (taken_out a) (cond b (Some None) None) ≡ taken_out (b || a)
either true true = refl
either true false = refl
either false true = refl
either false false = refl

names_last : (names : List (List ℕ)) (name : List ℕ) → last (map goes names) name ≡ taken_out (is_among names name)
names_last [] name = refl
names_last (n ∷ ns) name = ap (λ o. or_else o (cond (bytes_eq n name) (Some None) None)) (names_last ns name) ∙ either (is_among ns name) (bytes_eq n name)

module _ (all : Bool) (unexports : List (List ℕ)) where
  level_last : (level : Level) (name : List ℕ) → last (level_changes all unexports level) name ≡ level_says all unexports level name
  level_last level name =
      last_behind (map goes unexports) (map gets (exports all level)) name
      ∙ ap (λ o. or_else o (last (map goes unexports) name)) (pairs_last (exports all level) name)
      ∙ ap (λ o. or_else (option_map Some (value_of name (exports all level))) o) (names_last unexports name)

  levels_last : (levels : List Level) (name : List ℕ) → last (flat_map (level_changes all unexports) levels) name ≡ levels_say all unexports levels name
  levels_last [] name = refl
  levels_last (l ∷ ls) name =
      last_behind (level_changes all unexports l) (flat_map (level_changes all unexports) ls) name
      ∙ ap (λ o. or_else o (last (level_changes all unexports l) name)) (levels_last ls name)
      ∙ ap (λ o. or_else (levels_say all unexports ls name) o) (level_last l name)

  changes_said : (dotenv : List (List ℕ × List ℕ)) (levels : List Level) (name : List ℕ) → lookup (bytes_eq name) (changes dotenv all unexports levels) ≡ change dotenv all unexports levels name
  changes_said dotenv levels name =
      put_said [] (map gets dotenv ++ flat_map (level_changes all unexports) (outer levels)) name
      ∙ or_none (last (map gets dotenv ++ flat_map (level_changes all unexports) (outer levels)) name)
      ∙ last_behind (map gets dotenv) (flat_map (level_changes all unexports) (outer levels)) name
      ∙ ap (λ o. or_else o (last (map gets dotenv) name)) (levels_last (outer levels) name)
      ∙ ap (λ o. or_else (levels_say all unexports (outer levels) name) o) (pairs_last dotenv name)

  -- so at each name the innermost level that says something decides
  pub innermost : (dotenv : List (List ℕ × List ℕ)) (levels : List Level) (list : List Change) → list ≡ changes dotenv all unexports levels → IsStrictlySortedBy text_cmp (map (λ c. c.0) list) → AreChanges (change dotenv all unexports levels) list
  innermost dotenv levels list is rising = record { all = λ name. ap (λ es. lookup (bytes_eq name) es) is ∙ changes_said dotenv levels name; ordered = rising }
