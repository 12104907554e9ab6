-- Groups and places, one more at a time.
use Rattle.std.proofs.Common.{◌≡◌, ◌↔◌, ◌+◌, ◌<◌, Bool, true, false, not, cond, List, ℕ, [], ◌∷◌, ◌++◌, map, length, drop, get_or, append-nil, append_assoc, refl, sym, ap, ◌∙◌}
use Rattle.std.specs.Prelude.{IsTrue, filter, if◌then◌else◌, Option}
use Rattle.std.specs.List.{flat_map}
use Rattle.just_lang_syntax.specs.declared.ast.StringLiteral.{StringLiteral}
use Rattle.just_lang_spots.specs.declared.entries.Entry.{Entry}
use Rattle.just_lang_spots.specs.declared.spot.Spot.{Spot}
use Rattle.just_lang_spots.specs.Entries.{entry, entries}
use Rattle.just_lang_spots.specs.Places.{name_spot}
use Rattle.just_lang_spots.proofs.ListLaws.{drop_here}
use Rattle.just_print_lists.specs.Groups.{has_name}
use Rattle.just_print_tree.specs.Told.{ToldRecipe}
use Rattle.just_print_tree.specs.Groups.{recipe_spots, groups_where, each_once}

-- ---- places

abbrev public : List ToldRecipe → List ToldRecipe
public xs = filter (λ (y : ToldRecipe). not y.recipe.private) xs

abbrev spots : List ToldRecipe → List Spot
spots xs = map (λ (y : ToldRecipe). name_spot y.file y.written.name) xs

front : (b : Bool) (x : ToldRecipe) (ys : List ToldRecipe) → spots (cond b (x ∷ []) []) ++ spots ys ≡ spots (cond b (x ∷ ys) ys)
front true x ys = refl
front false x ys = refl

pub spots_more : (done : List Spot) (x : ToldRecipe) (rest : List ToldRecipe) → (done ++ recipe_spots (x ∷ [])) ++ recipe_spots rest ≡ done ++ recipe_spots (x ∷ rest)
spots_more done x rest = append_assoc done (recipe_spots (x ∷ [])) (recipe_spots rest) ∙ ap (λ (l : List Spot). done ++ l) (front (not x.recipe.private) x (public rest))

-- ---- groups

-- where there are none it doesn't matter where they stand
pub where_none : (e b : Bool) (xs ys : List (List ℕ)) → (IsTrue e ↔ (xs ≡ [])) → e ≡ true → xs ≡ ys → xs ≡ (if b then ys else [])
where_none e true xs ys h t is = is
where_none e false xs ys h t is = h.0 t

-- one more text, in front of others
pub once_more : (found : List (List ℕ)) (x : List ℕ) (xs : List (List ℕ))
    → (found ++ each_once found (x ∷ [])) ++ each_once (found ++ each_once found (x ∷ [])) xs ≡ found ++ each_once found (x ∷ xs)
once_more found x xs =
    elim (has_name x found) as (λ b. (found ++ cond b [] (x ∷ [])) ++ each_once (found ++ cond b [] (x ∷ [])) xs ≡ found ++ cond b (each_once found xs) (x ∷ each_once (found ++ x ∷ []) xs)) [
      | true ↦ ap (λ (l : List (List ℕ)). l ++ each_once l xs) (append-nil found)
      | false ↦ append_assoc found (x ∷ []) (each_once (found ++ x ∷ []) xs)
    ]

-- some texts, in front of others
once_behind : (found gs rest : List (List ℕ))
    → (found ++ each_once found gs) ++ each_once (found ++ each_once found gs) rest ≡ found ++ each_once found (gs ++ rest)
once_behind found [] rest = ap (λ (l : List (List ℕ)). l ++ each_once l rest) (append-nil found)
once_behind found (x ∷ gs) rest =
    let more : List (List ℕ) = found ++ x ∷ [] in
    let new : List (List ℕ) = each_once more gs in
    elim (has_name x found) as
    (λ b. (found ++ cond b (each_once found gs) (x ∷ new)) ++ each_once (found ++ cond b (each_once found gs) (x ∷ new)) rest
    ≡ found ++ cond b (each_once found (gs ++ rest)) (x ∷ each_once more (gs ++ rest))) [
      | true ↦ once_behind found gs rest
      | false ↦
          ap (λ (l : List (List ℕ)). l ++ each_once l rest) (sym (append_assoc found (x ∷ []) new)) ∙ once_behind more gs rest ∙ append_assoc found (x ∷ []) (each_once more (gs ++ rest))
    ]

-- the groups of one more item, in front of those of the items behind it
pub groups_more : (text_of : StringLiteral → Option (List ℕ)) (places : List Spot) (items : List Entry) (i : ℕ) (x : Entry) (old new groups texts whole : List (List ℕ)) → i < length items → x ≡ get_or items i x
    → groups ≡ groups_where text_of places (entry x) → texts ≡ groups → new ≡ old ++ each_once old texts
    → old ++ each_once old (flat_map (groups_where text_of places) (entries (drop i items))) ≡ whole → new ++ each_once new (flat_map (groups_where text_of places) (entries (drop (i + 1) items))) ≡ whole
groups_more text_of places items i x old new groups texts whole lt is of_it same more h =
    let own : List (List ℕ) = groups_where text_of places (entry x) in
    let rest : List (List ℕ) = flat_map (groups_where text_of places) (entries (drop (i + 1) items)) in
    let here : flat_map (groups_where text_of places) (entries (drop i items)) ≡ own ++ rest = ap (λ (xs : List Entry). flat_map (groups_where text_of places) (entries xs)) (drop_here items i x lt is) in
    let found : new ≡ old ++ each_once old own = more ∙ ap (λ (l : List (List ℕ)). old ++ each_once old l) (same ∙ of_it) in
    ap (λ (l : List (List ℕ)). l ++ each_once l rest) found ∙ once_behind old own rest ∙ ap (λ (l : List (List ℕ)). old ++ each_once old l) (sym here) ∙ h
