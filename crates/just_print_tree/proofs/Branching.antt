-- Branches are taken from the end, one after the other.
use Rattle.std.proofs.Common.{◌≡◌, ℕ, ◌+◌, ◌-◌, ◌<◌, ◌≤◌, Bool, true, false, cond, List, [], ◌∷◌, ◌++◌, length, reverse, append_assoc, refl, sym, ap, ◌∙◌, subst, arith}
use Rattle.std.specs.Prelude.{filter, filter_map, not, Option, None, Some}
use Rattle.std.specs.List.{cons_option}
use Rattle.std.specs.Option.{option_and_then}
use Rattle.std.proofs.lemmas.List.{map-append, reverse-append, length_push, length-append, length-reverse, length-map}
use Rattle.just_lang_justfile.specs.Declarations.{declaration_of}
use Rattle.just_print_lists.specs.Listed.{is_private as is_left_out}
use Rattle.just_print_tree.specs.Groups.{spot_in}
use Rattle.just_lang_layout.specs.declared.layout.File.{File}
use Rattle.just_lang_spots.specs.declared.spot.Spot.{Spot}
use Rattle.just_print_lists.specs.declared.listed.ListedModule.{ListedModule}
use Rattle.just_print_tree.specs.declared.branch.Built.{Built}
use Rattle.just_print_tree.specs.Branches.{Branch, module_spots}
use Rattle.just_print_tree.specs.Kept.{branch, branches, AreTaken}

pub branches_turned : (bs cs : List Built) (b : Built) → bs ≡ cs ++ b ∷ [] → reverse (branches bs) ≡ branch b ∷ reverse (branches cs)
branches_turned bs cs b e = ap (λ (l : List Built). reverse (branches l)) e ∙ ap reverse (map-append branch cs (b ∷ [])) ∙ reverse-append (branches cs) (branch b ∷ [])

-- the places of some modules, and of others behind them
in_front : {A : Type 0} (o : Option A) (xs ys zs : List A) → zs ≡ xs ++ ys → cons_option o zs ≡ cons_option o xs ++ ys
in_front None xs ys zs h = h
in_front (Some x) xs ys zs h = ap (λ l. x ∷ l) h

spots_append : (files : List File) (bs cs : List Branch) → module_spots files (bs ++ cs) ≡ module_spots files bs ++ module_spots files cs
spots_append files [] cs = refl
spots_append files (b ∷ bs) cs =
    let f : Branch → Option Spot = λ i. option_and_then spot_in (declaration_of files i.laid) in
    let p : Branch → Bool = λ i. not (is_left_out i.listed) in
    let rest : module_spots files (bs ++ cs) ≡ module_spots files bs ++ module_spots files cs = spots_append files bs cs in
    elim (not (is_left_out b.listed)) as (λ t. filter_map f (cond t (b ∷ filter p (bs ++ cs)) (filter p (bs ++ cs))) ≡ filter_map f (cond t (b ∷ filter p bs) (filter p bs)) ++ filter_map f (filter p cs)) [
      | true ↦ in_front (f b) (filter_map f (filter p bs)) (filter_map f (filter p cs)) (filter_map f (filter p (bs ++ cs))) rest
      | false ↦ rest
    ]

-- ---- what was taken so far

pub taken_none : (files : List File) (bs : List Branch) → AreTaken files 0 bs bs [] []
taken_none files bs = record { taken = []; parts = refl; count_is = refl; trees_are = refl; spots_are = refl }

pub taken_start : (files : List File) (bs : List Branch) (n : ℕ) (trees : List ListedModule) (spots : List Spot) → trees ≡ [] → spots ≡ [] → AreTaken files (n - n) bs bs trees spots
taken_start files bs n trees spots t s = record { taken = []; parts = refl; count_is = omega arith; trees_are = t; spots_are = s }

pub taken_more : (files : List File) (n : ℕ) (before after rest : List Branch) (trees grown : List ListedModule) (spots more : List Spot) (b : Branch) → AreTaken files n before after trees spots
    → after ≡ b ∷ rest → grown ≡ trees ++ b.listed ∷ [] → more ≡ spots ++ module_spots files (b ∷ []) → AreTaken files (n + 1) before rest grown more
taken_more files n before after rest trees grown spots more b old is g m = record {
  taken = old.taken ++ b ∷ [];
  parts = old.parts ∙ ap (λ (l : List Branch). old.taken ++ l) is ∙ sym (append_assoc old.taken (b ∷ []) rest);
  count_is = length_push old.taken b ∙ ap (λ k. k + 1) old.count_is;
  trees_are = g ∙ ap (λ (l : List ListedModule). l ++ b.listed ∷ []) old.trees_are ∙ sym (map-append (λ (i : Branch). i.listed) old.taken (b ∷ []));
  spots_are = m ∙ ap (λ (l : List Spot). l ++ module_spots files (b ∷ [])) old.spots_are ∙ sym (spots_append files old.taken (b ∷ []));
}

pub long : (bs : List Built) → length (reverse (branches bs)) ≡ length bs
long bs = length-reverse (branches bs) ∙ length-map bs branch

-- there is one more where not as many were taken as there were
pub some_left : (files : List File) (n count : ℕ) (bs cs : List Built) (trees : List ListedModule) (spots : List Spot) → AreTaken files n (reverse (branches bs)) (reverse (branches cs)) trees spots
    → n < count → count ≤ length bs → cs ≡ [] → ⊥
some_left files n count bs cs trees spots old lt le none =
    let whole : length bs ≡ length old.taken + length (reverse (branches cs)) = sym (long bs) ∙ ap length old.parts ∙ length-append old.taken (reverse (branches cs)) in
    let nothing : length (reverse (branches cs)) ≡ 0 = long cs ∙ ap length none in
    let so_many : length old.taken ≡ n = old.count_is in
    omega (arith, whole, nothing, so_many, lt, le)

pub taken_next : (files : List File) (count left : ℕ) (before : List Branch) (outer rest : List Built) (one : Built) (trees grown : List ListedModule) (spots more : List Spot)
    → AreTaken files (count - left) before (reverse (branches outer)) trees spots → 0 < left → left ≤ count → outer ≡ rest ++ one ∷ [] → grown ≡ trees ++ one.listed ∷ []
    → more ≡ spots ++ module_spots files (branch one ∷ []) → AreTaken files (count - (left - 1)) before (reverse (branches rest)) grown more
taken_next files count left before outer rest one trees grown spots more old some le is g m =
    let so_many : (count - left) + 1 ≡ count - (left - 1) = omega (arith, some, le) in
    subst (λ (n : ℕ). AreTaken files n before (reverse (branches rest)) grown more) so_many
    (taken_more files (count - left) before (reverse (branches outer)) (reverse (branches rest)) trees grown spots more (branch one) old (branches_turned outer rest one is) g m)

pub taken_end : (files : List File) (count left : ℕ) (before after : List Branch) (trees : List ListedModule) (spots : List Spot) → left ≡ 0 → AreTaken files (count - left) before after trees spots → AreTaken files count before after trees spots
taken_end files count left before after trees spots none old = let all : count - left ≡ count = omega (arith, none) in subst (λ (n : ℕ). AreTaken files n before after trees spots) all old
