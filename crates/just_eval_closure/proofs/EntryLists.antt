-- Recipes by their paths.
use Rattle.std.proofs.Common.{◌≡◌, ℕ, suc, ◌+◌, ◌<◌, ◌≤◌, Bool, true, false, cond, find, Bor, List, [], ◌∷◌, ◌++◌, append_assoc, map, length, get_or, drop, drop-cons, nat_eq, eqb-true, eq-eqb, Option, Some, None, is_some, refl, sym, ap, ◌∙◌, subst, arith}
use Rattle.std.specs.BTreeMap.{get, Updates, is_at}
use Rattle.std.specs.HashMap.{get as get_hashed, Updates as HashUpdates}
use Rattle.std.specs.List.{All}
use Rattle.std.specs.Map.{lookup}
use Rattle.std.specs.Prelude.{if◌then◌else◌}
use Rattle.std.proofs.lemmas.List.{drop_all}
use Rattle.std.specs.Option.{option_map}
use Rattle.just_path_text.specs.Environ.{or_else}
use Rattle.just_lang_types.specs.declared.recipe.Modulepath.{Modulepath}
use Rattle.just_lang_types.specs.declared.scope.Scopes.{Scopes}
use Rattle.just_lang_types.specs.declared.project.Justfile.{Justfile}
use Rattle.just_lang_types.specs.Keys.{same_path}
use Rattle.just_eval_closure.specs.Hashes.{path_hash}
use Rattle.just_eval_closure.specs.Numbers.{path_cmp}
use Rattle.just_eval_closure.proofs.Equal.{same_path_is}
use Rattle.just_eval_closure.proofs.Items.{found, all_in}
use Rattle.just_eval_closure.proofs.Numbered.{path_tie}
use Rattle.just_eval_closure.specs.declared.entry.Entry.{Entry}
use Rattle.just_eval_closure.specs.declared.entry.Index.{Index}
use Rattle.just_eval_closure.specs.Entries.{located_of, Sees, IsFound, first_or, indexed, AreEntries, Enters, AreFirst}
use Rattle.just_lang_types.specs.Modules.{recipes_of, Located, located, located_at}

-- whether an entry's recipe has that path
abbrev has_path : Modulepath → Entry → Bool
has_path path e = same_path e.recipe.now.path path

-- the first entry of each path is in the map, or among those from the place n on
abbrev pub Indexes : List Entry → ℕ → Index → Type 0
Indexes all n index = (path : Modulepath) → or_else (indexed index path) (find (λ e. same_path e.recipe.now.path path) (drop n all)) ≡ find (λ e. same_path e.recipe.now.path path) all

or_else_moved : (a b c : Option Entry) → or_else (or_else a b) c ≡ or_else a (or_else b c)
or_else_moved None b c = refl
or_else_moved (Some x) b c = refl

or_else_none : (a : Option Entry) → or_else a None ≡ a
or_else_none None = refl
or_else_none (Some x) = refl

module _ (all : List Entry) (n : ℕ) (e : Entry) (lt : n < length all) (is : e ≡ get_or all n e) where
  here : drop n all ≡ e ∷ drop (suc n) all
  here = drop-cons all n e lt ∙ ap (λ z. z ∷ drop (suc n) all) (sym is)

  one : n + 1 ≡ suc n
  one = omega arith

  -- the entry at the place n has the path, or not
  has : (path : Modulepath) → has_path path e ≡ true → find (has_path path) (drop n all) ≡ Some e
  has path h = ap (λ es. find (has_path path) es) here ∙ ap (λ b. cond b (Some e) (find (has_path path) (drop (suc n) all))) h

  lacks : (path : Modulepath) → has_path path e ≡ false → find (has_path path) (drop n all) ≡ find (has_path path) (drop (n + 1) all)
  lacks path h = ap (λ es. find (has_path path) es) here ∙ ap (λ b. cond b (Some e) (find (has_path path) (drop (suc n) all))) h ∙ sym (ap (λ k. find (has_path path) (drop k all)) one)

  -- an entry more
  pub one_entered : (m i : Index) → Enters m e i → Indexes all n m → Indexes all (n + 1) i
  one_entered m i enters before path = pick (has_path path e) refl
    where
      pick : (b : Bool) → has_path path e ≡ b → or_else (indexed i path) (find (has_path path) (drop (n + 1) all)) ≡ find (has_path path) all
      pick true h =
          ap (λ o. or_else o (find (has_path path) (drop (n + 1) all))) (enters path ∙ ap (λ b. or_else (indexed m path) (if b then Some e else None)) h) ∙ or_else_moved (indexed m path) (Some e) (find (has_path path) (drop (n + 1) all)) ∙ ap (λ o. or_else (indexed m path) o) (sym (has path h)) ∙ before path
      pick false h =
          ap (λ o. or_else o (find (has_path path) (drop (n + 1) all))) (enters path ∙ ap (λ b. or_else (indexed m path) (if b then Some e else None)) h) ∙ or_else_moved (indexed m path) None (find (has_path path) (drop (n + 1) all)) ∙ ap (λ o. or_else (indexed m path) o) (sym (lacks path h)) ∙ before path

-- ---- one entry

-- what an entry adds under a path
abbrev added : Entry → Modulepath → Option Entry
added e path = if has_path path e then Some e else None

added_under : (e : Entry) (path : Modulepath) (b : Bool) → has_path path e ≡ b → added e path ≡ (if b then Some e else None)
added_under e path b h = ap (λ c. if c then Some e else None) h

no_test : true ≡ false → ⊥
no_test h = let no : ⊥ = cc in no

nothing : {A : Type 0} (o : Option A) → is_some o ≡ false → o ≡ None
nothing None h = refl
nothing (Some x) h = absurd (no_test h)

something : (o p : Option Entry) → is_some o ≡ true → o ≡ or_else o p
something None p h = absurd (no_test (sym h))
something (Some x) p h = refl

-- an entry whose path is there
pub entered_before : (m : Index) (e : Entry) → is_some (indexed m e.recipe.now.path) ≡ true → Enters m e m
entered_before m e there path = pick (has_path path e) refl
  where
    pick : (b : Bool) → has_path path e ≡ b → indexed m path ≡ or_else (indexed m path) (added e path)
    pick true h = something (indexed m path) (added e path) (subst (λ q. is_some (indexed m q) ≡ true) (same_path_is e.recipe.now.path path h) there)
    pick false h = sym (ap (λ o. or_else (indexed m path) o) (added_under e path false h) ∙ or_else_none (indexed m path))

-- where the hash gives nothing, the other entry counts
other_counts : (path : Modulepath) (o : Option Entry) (e : Entry) → first_or path o None ≡ None → first_or path o (Some e) ≡ Some e
other_counts path None e h = refl
other_counts path (Some f) e h = pick (same_path f.recipe.now.path path) h
  where
    pick : (b : Bool) → (if b then Some f else None) ≡ None → (if b then Some f else Some e) ≡ Some e
    pick true g = absurd (let no : ⊥ = cc in no)
    pick false g = refl

-- where neither gives an entry, the other one is none
none_other : (path : Modulepath) (o other : Option Entry) → first_or path o other ≡ None → other ≡ None
none_other path None other h = h
none_other path (Some f) other h = pick (same_path f.recipe.now.path path) h
  where
    pick : (b : Bool) → (if b then Some f else other) ≡ None → other ≡ None
    pick true g = absurd (let no : ⊥ = cc in no)
    pick false g = g

-- one whose path is new, and is kept by itself
pub entered_other : (m i : Index) (e : Entry) (copy : Modulepath) → copy ≡ e.recipe.now.path → is_some (indexed m e.recipe.now.path) ≡ false → i.firsts ≡ m.firsts → Updates path_cmp m.others i.others copy (Some e) → Enters m e i
entered_other m i e copy same new firsts updates path =
    ap (λ f. first_or path (get_hashed nat_eq f (path_hash path)) (get path_cmp i.others path)) firsts ∙ ap (λ o. first_or path (get_hashed nat_eq m.firsts (path_hash path)) o) (updates.0 path ∙ ap (λ b. cond b (Some e) (get path_cmp m.others path)) (path_tie copy path ∙ ap (λ c. same_path c path) same)) ∙ pick (has_path path e) refl
  where
    pick : (b : Bool) → has_path path e ≡ b → first_or path (get_hashed nat_eq m.firsts (path_hash path)) (cond (has_path path e) (Some e) (get path_cmp m.others path)) ≡ or_else (indexed m path) (added e path)
    pick true h =
        let none : indexed m path ≡ None = nothing (indexed m path) (subst (λ q. is_some (indexed m q) ≡ false) (same_path_is e.recipe.now.path path h) new) in
        let other = none_other path (get_hashed nat_eq m.firsts (path_hash path)) (get path_cmp m.others path) none in
        ap (λ b. first_or path (get_hashed nat_eq m.firsts (path_hash path)) (cond b (Some e) (get path_cmp m.others path))) h ∙ other_counts path (get_hashed nat_eq m.firsts (path_hash path)) e (ap (λ o. first_or path (get_hashed nat_eq m.firsts (path_hash path)) o) (sym other) ∙ none) ∙ sym (ap (λ o. or_else o (added e path)) none ∙ added_under e path true h)
    pick false h =
        ap (λ b. first_or path (get_hashed nat_eq m.firsts (path_hash path)) (cond b (Some e) (get path_cmp m.others path))) h ∙ sym (ap (λ o. or_else (indexed m path) o) (added_under e path false h) ∙ or_else_none (indexed m path))

-- one whose hash is new
pub entered_first : (m i : Index) (e : Entry) (hash : ℕ) → hash ≡ path_hash e.recipe.now.path → is_some (indexed m e.recipe.now.path) ≡ false → is_some (get_hashed nat_eq m.firsts hash) ≡ false → i.others ≡ m.others → HashUpdates nat_eq m.firsts i.firsts hash (Some e) → Enters m e i
entered_first m i e hash same new free others updates path =
    ap (λ f. first_or path (get_hashed nat_eq i.firsts (path_hash path)) (get path_cmp f path)) others ∙ ap (λ o. first_or path o (get path_cmp m.others path)) (updates.0 (path_hash path)) ∙ pick (has_path path e) refl (nat_eq hash (path_hash path)) refl
  where
    pick : (b : Bool) → has_path path e ≡ b → (c : Bool) → nat_eq hash (path_hash path) ≡ c → first_or path (cond (nat_eq hash (path_hash path)) (Some e) (get_hashed nat_eq m.firsts (path_hash path))) (get path_cmp m.others path) ≡ or_else (indexed m path) (added e path)
    pick true h true g =
        let none : indexed m path ≡ None = nothing (indexed m path) (subst (λ q. is_some (indexed m q) ≡ false) (same_path_is e.recipe.now.path path h) new) in
        ap (λ c. first_or path (cond c (Some e) (get_hashed nat_eq m.firsts (path_hash path))) (get path_cmp m.others path)) g ∙ ap (λ b. if b then Some e else get path_cmp m.others path) h ∙ sym (ap (λ o. or_else o (added e path)) none ∙ added_under e path true h)
    pick true h false g = absurd (no_test (sym (eq-eqb hash (path_hash path) (same ∙ ap (λ q. path_hash q) (same_path_is e.recipe.now.path path h))) ∙ g))
    pick false h true g =
        let hashes : hash ≡ path_hash path = eqb-true hash (path_hash path) g in
        let none : get_hashed nat_eq m.firsts (path_hash path) ≡ None = ap (λ k. get_hashed nat_eq m.firsts k) (sym hashes) ∙ nothing (get_hashed nat_eq m.firsts hash) free in
        ap (λ c. first_or path (cond c (Some e) (get_hashed nat_eq m.firsts (path_hash path))) (get path_cmp m.others path)) g ∙ ap (λ b. if b then Some e else get path_cmp m.others path) h ∙ sym (ap (λ o. first_or path o (get path_cmp m.others path)) none) ∙ sym (ap (λ o. or_else (indexed m path) o) (added_under e path false h) ∙ or_else_none (indexed m path))
    pick false h false g = ap (λ c. first_or path (cond c (Some e) (get_hashed nat_eq m.firsts (path_hash path))) (get path_cmp m.others path)) g ∙ sym (ap (λ o. or_else (indexed m path) o) (added_under e path false h) ∙ or_else_none (indexed m path))

-- nothing is entered yet
pub none_entered : (all : List Entry) (index : Index) → index.firsts.entries ≡ [] → index.others.entries ≡ [] → Indexes all 0 index
none_entered all index none nothing path =
    ap (λ es. or_else (first_or path (lookup (nat_eq (path_hash path)) es) (get path_cmp index.others path)) (find (has_path path) all)) none ∙ ap (λ es. or_else (lookup (is_at (path_cmp path)) es) (find (has_path path) all)) nothing

-- all are
pub all_entered : (all : List Entry) (n : ℕ) (index : Index) → length all ≤ n → Indexes all n index → AreFirst all index
all_entered all n index le indexes path =
    sym (or_else_none (indexed index path)) ∙ ap (λ es. or_else (indexed index path) (find (has_path path) es)) (sym (drop_all n all le)) ∙ indexes path

-- ---- with the scopes

find_mapped : (path : Modulepath) (all : List Entry) → located_at (map located_of all) path ≡ option_map located_of (find (has_path path) all)
find_mapped path [] = refl
find_mapped path (e ∷ es) = elim (has_path path e) as (λ b. cond b (Some (located_of e)) (located_at (map located_of es) path) ≡ option_map located_of (cond b (Some e) (find (has_path path) es))) [ true ↦ refl | false ↦ find_mapped path es ]

sees_one : (scopes : Scopes) (all : List Entry) (path : Modulepath) (o : Option Entry) → All (Sees scopes) all → find (has_path path) all ≡ o → IsFound scopes o (option_map located_of o)
sees_one scopes all path None see h = tt
sees_one scopes all path (Some e) see h = (refl, all_in (Sees scopes) all e see (found (has_path path) all e h).1)

pub entries_found : (scopes : Scopes) (ms : List Justfile) (all : List Entry) (index : Index) → AreFirst all index → map located_of all ≡ located ms → All (Sees scopes) all → AreEntries scopes (located ms) index
entries_found scopes ms all index first are see path =
    subst (λ o. IsFound scopes o (located_at (located ms) path)) (sym (first path)) (subst (λ o. IsFound scopes (find (has_path path) all) o) (sym (find_mapped path all) ∙ ap (λ ls. located_at ls path) are) (sees_one scopes all path (find (has_path path) all) see refl))

-- ---- the recipes of all modules

abbrev seen : List (Bor Justfile) → List Justfile
seen ms = map (λ m. m.now) ms

-- those of a module more
pub entries_more : (ms : List (Bor Justfile)) (n : ℕ) (m : Bor Justfile) (old new : List Located) → n < length ms → m ≡ get_or ms n m → new ≡ old ++ map (λ r. record { parent = m.now; recipe = r }) (recipes_of m.now) → new ++ located (seen (drop (n + 1) ms)) ≡ old ++ located (seen (drop n ms))
entries_more ms n m old new lt is are =
    let one : n + 1 ≡ suc n = omega arith in
    let here : drop n ms ≡ m ∷ drop (suc n) ms = drop-cons ms n m lt ∙ ap (λ z. z ∷ drop (suc n) ms) (sym is) in
    ap (λ k. new ++ located (seen (drop k ms))) one ∙ ap (λ l. l ++ located (seen (drop (suc n) ms))) are ∙ append_assoc old (map (λ r. record { parent = m.now; recipe = r }) (recipes_of m.now)) (located (seen (drop (suc n) ms))) ∙ ap (λ k. old ++ located (seen k)) (sym here)
