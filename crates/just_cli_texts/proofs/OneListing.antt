-- The listing of a module, and the paths of its recipes, are one thing.
use Rattle.std.proofs.Common.{◌≡◌, ℕ, Bool, true, false, not, List, [], ◌∷◌, ◌++◌, refl, sym, ap, ◌∙◌, subst}
use Rattle.std.specs.Prelude.{if◌then◌else◌}
use Rattle.std.specs.List.{flat_map}
use Rattle.just_print_entries.specs.declared.options.AliasStyle.{AliasStyle}
use Rattle.just_print_entries.specs.declared.options.ListOptions.{ListOptions}
use Rattle.just_print_entries.specs.Listings.{Piece, lines, inner, inner_line, inner_pieces, module_pieces, group_line, group_pieces, named_pieces, ungrouped_pieces, listed_groups, has_ungrouped, group_list, pieces_with, pieces, recipe_groups, AreWritten, IsListing}
use Rattle.just_print_entries.specs.Recipes.{other_aliases, widest, widths, recipe_lines, alias_lines, module_lines}
use Rattle.just_print_lists.specs.declared.listed.ListedRecipe.{ListedRecipe}
use Rattle.just_print_lists.specs.declared.listed.ListedAlias.{ListedAlias}
use Rattle.just_print_lists.specs.declared.listed.ListedModule.{ListedModule}
use Rattle.just_print_lists.specs.Groups.{is_nil, ungrouped, grouped}
use Rattle.just_print_lists.specs.Listed.{groups_of, named_groups_of}
use Rattle.just_print_lists.specs.Summaries.{public_recipes, public_modules, paths_of, AreInTurn, ArePaths}
use Rattle.just_print_lists.proofs.InTurn.{same_modules}

-- ---- paths

pub turns_one : (u : Bool) (root : ListedModule) (xs ys : List ListedModule) → AreInTurn u (root ∷ []) xs → AreInTurn u (root ∷ []) ys → xs ≡ ys
turns_one u root xs ys a b = same_modules u (root ∷ []) xs ys a b

pub paths_one : (u : Bool) (root : ListedModule) (xs ys : List (List ℕ)) → ArePaths u root xs → ArePaths u root ys → xs ≡ ys
paths_one u root xs ys (all, a, is) (others, b, at) = is ∙ (ap (λ (l : List ListedModule). flat_map (paths_of u) l) (turns_one u root all others a b) ∙ sym at)

-- ---- parts are written in one way

line_piece : (s t : List ℕ) (ps qs : List Piece) → lines s ∷ ps ≡ lines t ∷ qs → (s ≡ t) × (ps ≡ qs)
line_piece s t ps qs is = let one : lines s ≡ lines t = cc in (cc, cc)

inner_piece : (s t : List ℕ) (m k : ListedModule) (ps qs : List Piece) → inner s m ∷ ps ≡ inner t k ∷ qs → (s ≡ t) × (m ≡ k) × (ps ≡ qs)
inner_piece s t m k ps qs is = let one : inner s m ≡ inner t k = cc in (cc, cc, cc)

nothing_written : (o : ListOptions) (ps : List Piece) (text : List ℕ) → AreWritten o ps text → ps ≡ [] → text ≡ []
nothing_written o ps text AreWritten.nothing h = refl
nothing_written o ps text (AreWritten.written s qs rest a) h = absurd (let no : ⊥ = cc in no)
nothing_written o ps text (AreWritten.within indent m qs s a) h = absurd (let no : ⊥ = cc in no)

written_by : (o : ListOptions) (ps : List Piece) (text : List ℕ) → AreWritten o ps text → (qs : List Piece) (other : List ℕ) → AreWritten o qs other → ps ≡ qs → text ≡ other
written_by o ps text AreWritten.nothing qs other b h = sym (nothing_written o qs other b (sym h))
written_by o ps text (AreWritten.written s xs rest a) qs other AreWritten.nothing h = absurd (let no : ⊥ = cc in no)
written_by o ps text (AreWritten.written s xs rest a) qs other (AreWritten.written t ys left b) h =
    let k = line_piece s t xs ys h in
    ap (λ l. l ++ rest) k.0 ∙ ap (λ l. t ++ l) (written_by o xs rest a ys left b k.1)
written_by o ps text (AreWritten.written s xs rest a) qs other (AreWritten.within indent m ys t b) h = absurd (let no : ⊥ = cc in no)
written_by o ps text (AreWritten.within indent m xs s a) qs other AreWritten.nothing h = absurd (let no : ⊥ = cc in no)
written_by o ps text (AreWritten.within indent m xs s a) qs other (AreWritten.written t ys left b) h = absurd (let no : ⊥ = cc in no)
written_by o ps text (AreWritten.within indent m xs s a) qs other (AreWritten.within next k ys t b) h =
    let same = inner_piece indent next m k xs ys h in
    written_by o (pieces o [] indent m ++ xs) s a (pieces o [] next k ++ ys) t b
    (ap (λ i. pieces o [] i m ++ xs) same.0 ∙ (ap (λ (x : ListedModule). pieces o [] next x ++ xs) same.1 ∙ ap (λ (l : List Piece). pieces o [] next k ++ l) same.2))

-- ---- options that say the same

module _ (o u : ListOptions) (prefix : o.prefix.now ≡ u.prefix.now) (style : o.alias_style ≡ u.alias_style) (inside : o.list_submodules ≡ u.list_submodules) (unsorted : o.unsorted ≡ u.unsorted) where
  module _ (indent : List ℕ) (columns : ℕ) (has_named : Bool) where
    inner_same : (later : Bool) (ms : List ListedModule) → inner_pieces o indent columns has_named later ms ≡ inner_pieces u indent columns has_named later ms
    inner_same later [] = refl
    inner_same later (m ∷ ms) =
        ap (λ (p : List ℕ). lines (inner_line u indent columns has_named later m) ∷ inner (indent ++ p) m ∷ inner_pieces o indent columns has_named true ms) prefix
        ∙ ap (λ (l : List Piece). lines (inner_line u indent columns has_named later m) ∷ inner (indent ++ u.prefix.now) m ∷ l) (inner_same true ms)

    module_same : (ms : List ListedModule) → module_pieces o indent columns has_named ms ≡ module_pieces u indent columns has_named ms
    module_same ms =
        ap (λ (b : Bool). if b then inner_pieces o indent columns has_named false ms else (lines (flat_map (module_lines indent columns o.alias_style) ms) ∷ [])) inside
        ∙ (ap (λ (l : List Piece). if u.list_submodules then l else (lines (flat_map (module_lines indent columns o.alias_style) ms) ∷ [])) (inner_same false ms)
        ∙ ap (λ (s : AliasStyle). if u.list_submodules then inner_pieces u indent columns has_named false ms else (lines (flat_map (module_lines indent columns s) ms) ∷ [])) style)

    group_same : (front : List ℕ) (rs : List ListedRecipe) (others : List ListedAlias) (ms : List ListedModule) → group_pieces o indent columns has_named front rs others ms ≡ group_pieces u indent columns has_named front rs others ms
    group_same front rs others ms =
        ap (λ (s : AliasStyle). lines (front ++ (flat_map (recipe_lines indent columns s) rs ++ flat_map (alias_lines indent columns s) others)) ∷ module_pieces o indent columns has_named ms) style
        ∙ ap (λ (l : List Piece). lines (front ++ (flat_map (recipe_lines indent columns u.alias_style) rs ++ flat_map (alias_lines indent columns u.alias_style) others)) ∷ l) (module_same ms)

    named_same : (rs : List ListedRecipe) (ms : List ListedModule) (later : Bool) (gs : List (List ℕ)) → named_pieces o indent columns has_named rs ms later gs ≡ named_pieces u indent columns has_named rs ms later gs
    named_same rs ms later [] = refl
    named_same rs ms later (g ∷ gs) =
        ap (λ (l : List Piece). l ++ named_pieces o indent columns has_named rs ms true gs) (group_same (group_line indent later g) (grouped recipe_groups g rs) [] (grouped groups_of g ms))
        ∙ ap (λ (l : List Piece). group_pieces u indent columns has_named (group_line indent later g) (grouped recipe_groups g rs) [] (grouped groups_of g ms) ++ l) (named_same rs ms true gs)

    ungrouped_same : (is_there : Bool) (rs : List ListedRecipe) (others : List ListedAlias) (ms : List ListedModule) → ungrouped_pieces o indent columns has_named is_there rs others ms ≡ ungrouped_pieces u indent columns has_named is_there rs others ms
    ungrouped_same is_there rs others ms = ap (λ (l : List Piece). if is_there then l else []) (group_same [] (ungrouped recipe_groups rs) others (ungrouped groups_of ms))

    list_same : (is_there : Bool) (gs : List (List ℕ)) (rs : List ListedRecipe) (others : List ListedAlias) (ms : List ListedModule) → group_list o indent columns has_named is_there gs rs others ms ≡ group_list u indent columns has_named is_there gs rs others ms
    list_same is_there gs rs others ms =
        ap (λ (l : List Piece). l ++ named_pieces o indent columns has_named rs ms is_there gs) (ungrouped_same is_there rs others ms)
        ∙ ap (λ (l : List Piece). ungrouped_pieces u indent columns has_named is_there rs others ms ++ l) (named_same rs ms is_there gs)

  with_same : (given : List (List ℕ)) (indent : List ℕ) (m : ListedModule) (rs : List ListedRecipe) (others : List ListedAlias) (ms : List ListedModule) → pieces_with o given indent m rs others ms ≡ pieces_with u given indent m rs others ms
  with_same given indent m rs others ms =
      let named : Bool = not (is_nil (named_groups_of m)) in
      let there : Bool = has_ungrouped given rs others ms in
      list_same indent (widest (widths o.alias_style o.list_submodules rs others ms)) named there (listed_groups o.unsorted given m) rs others ms
      ∙ (ap (λ (s : AliasStyle). group_list u indent (widest (widths s o.list_submodules rs others ms)) named there (listed_groups o.unsorted given m) rs others ms) style
      ∙ (ap (λ (b : Bool). group_list u indent (widest (widths u.alias_style b rs others ms)) named there (listed_groups o.unsorted given m) rs others ms) inside
      ∙ ap (λ (b : Bool). group_list u indent (widest (widths u.alias_style u.list_submodules rs others ms)) named there (listed_groups b given m) rs others ms) unsorted))

  pieces_same : (given : List (List ℕ)) (indent : List ℕ) (m : ListedModule) → pieces o given indent m ≡ pieces u given indent m
  unfolding pieces
  pieces_same given indent m =
      with_same given indent m (public_recipes o.unsorted m) (other_aliases o.alias_style m) (public_modules o.unsorted m)
      ∙ (ap (λ (b : Bool). pieces_with u given indent m (public_recipes b m) (other_aliases o.alias_style m) (public_modules b m)) unsorted
      ∙ ap (λ (s : AliasStyle). pieces_with u given indent m (public_recipes u.unsorted m) (other_aliases s m) (public_modules u.unsorted m)) style)

  written_same : (ps : List Piece) (text : List ℕ) → AreWritten o ps text → AreWritten u ps text
  written_same ps text AreWritten.nothing = AreWritten.nothing
  written_same ps text (AreWritten.written s qs rest a) = AreWritten.written s qs rest (written_same qs rest a)
  written_same ps text (AreWritten.within indent m qs s a) =
      AreWritten.within indent m qs s (subst (λ (l : List Piece). AreWritten u (l ++ qs) s) (pieces_same [] indent m) (written_same (pieces o [] indent m ++ qs) s a))

  pub listing_one : o.heading.now ≡ u.heading.now → o.groups.now ≡ u.groups.now → (m : ListedModule) (s t : List ℕ) → IsListing o m s → IsListing u m t → s ≡ t
  listing_one heading groups m s t (body, a, is) (other, b, at) =
      let parts : pieces o o.groups.now o.prefix.now m ≡ pieces u u.groups.now u.prefix.now m =
      ap (λ (gs : List (List ℕ)). pieces o gs o.prefix.now m) groups ∙ (ap (λ (p : List ℕ). pieces o u.groups.now p m) prefix ∙ pieces_same u.groups.now u.prefix.now m) in
      let same : body ≡ other = written_by u (pieces o o.groups.now o.prefix.now m) body (written_same (pieces o o.groups.now o.prefix.now m) body a) (pieces u u.groups.now u.prefix.now m) other b parts in
      is ∙ (ap (λ (h : List ℕ). h ++ body) heading ∙ (ap (λ (l : List ℕ). u.heading.now ++ l) same ∙ sym at))
