-- A tree of modules, made from the last one to the first.
use Rattle.std.proofs.Common.{◌≡◌, ℕ, ◌+◌, ◌<◌, Bool, true, false, List, [], ◌∷◌, ◌++◌, length, drop, get_or, reverse, refl, sym, ap, ◌∙◌, subst, append_assoc, arith}
use Rattle.std.specs.Prelude.{Option, All}
use Rattle.std.specs.List.{enumerate_from}
use Rattle.std.proofs.lemmas.List.{reverse-append, drop_all}
use Rattle.std.proofs.lemmas.List.Elements.{All-push}
use Rattle.just_lang_syntax.specs.declared.ast.StringLiteral.{StringLiteral}
use Rattle.just_lang_types.specs.declared.project.Justfile.{Justfile}
use Rattle.just_lang_types.specs.declared.recipe.Modulepath.{Modulepath}
use Rattle.just_lang_layout.specs.declared.layout.Layout.{Layout}
use Rattle.just_lang_layout.specs.declared.layout.Module.{Module}
use Rattle.just_lang_spots.specs.Standing.{Wins}
use Rattle.just_lang_spots.proofs.ListLaws.{drop_here}
use Rattle.just_lang_types.specs.Modules.{path_of, modules_of, AreModules}
use Rattle.just_lang_justfile.specs.Links.{Links}
use Rattle.just_lang_justfile.specs.Modules.{IsModuleOf}
use Rattle.just_lang_justfile.specs.Trees.{is_within, is_first_within, behind_those_within, outermost, paths_of, IsAround, AreModulesOf, IsJustfileOf}

-- the last of some modules is the first of them turned round
pub turned : (js ks : List Justfile) (j : Justfile) → js ≡ ks ++ j ∷ [] → reverse js ≡ j ∷ reverse ks
turned js ks j e = ap reverse e ∙ reverse-append ks (j ∷ [])

-- whether the last of some modules is within a path
pub first_none : (path : List (List ℕ)) (js : List Justfile) → length js ≡ 0 → is_first_within path (paths_of (reverse js)) ≡ false
first_none path [] h = refl
first_none path (j ∷ js) h = absurd (omega (arith, h))

pub first_some : (path : List (List ℕ)) (js rest : List Justfile) (j : Justfile) → js ≡ rest ++ j ∷ [] → is_first_within path (paths_of (reverse js)) ≡ is_within path (path_of j).components
first_some path js rest j e = ap (λ (ks : List Justfile). is_first_within path (paths_of ks)) (turned js rest j e)

pub behind_taken : (path : List (List ℕ)) (j : Justfile) (js : List Justfile) → is_within path (path_of j).components ≡ true
    → behind_those_within path (paths_of (j ∷ js)) ≡ behind_those_within path (paths_of js)
behind_taken path j js h = rw h refl

pub behind_none : (path : List (List ℕ)) (ps : List (List (List ℕ))) → is_first_within path ps ≡ false → behind_those_within path ps ≡ ps
behind_none path [] h = refl
behind_none path (p ∷ ps) h = rw h refl

-- one more is taken from the end
pub taken_parts : (js ks rest inner more : List Justfile) (j : Justfile) → reverse js ≡ inner ++ reverse ks → ks ≡ rest ++ j ∷ [] → more ≡ inner ++ j ∷ [] → reverse js ≡ more ++ reverse rest
taken_parts js ks rest inner more j h e k =
    h ∙ ap (λ (is : List Justfile). inner ++ is) (turned ks rest j e) ∙ sym (append_assoc inner (j ∷ []) (reverse rest)) ∙ ap (λ (is : List Justfile). is ++ reverse rest) (sym k)

-- the first of those that are left is within the path, where the test says so
pub taken_here : (path : List (List ℕ)) (ks rest : List Justfile) (j : Justfile) (b : Bool) → b ≡ is_first_within path (paths_of (reverse ks)) → b ≡ true → ks ≡ rest ++ j ∷ []
    → is_within path (path_of j).components ≡ true
taken_here path ks rest j b h t e = sym (first_some path ks rest j e) ∙ sym h ∙ t

pub taken_within : (path : List (List ℕ)) (inner more : List Justfile) (j : Justfile) → All (λ (i : Justfile). is_within path (path_of i).components ≡ true) inner → is_within path (path_of j).components ≡ true
    → more ≡ inner ++ j ∷ [] → All (λ (i : Justfile). is_within path (path_of i).components ≡ true) more
taken_within path inner more j h k e =
    subst (λ (is : List Justfile). All (λ (i : Justfile). is_within path (path_of i).components ≡ true) is) (sym e) (All-push (λ (i : Justfile). is_within path (path_of i).components ≡ true) inner j h k)

pub taken_others : (path : List (List ℕ)) (js ks rest : List Justfile) (j : Justfile) → behind_those_within path (paths_of (reverse ks)) ≡ behind_those_within path (paths_of (reverse js))
    → is_within path (path_of j).components ≡ true → ks ≡ rest ++ j ∷ [] → behind_those_within path (paths_of (reverse rest)) ≡ behind_those_within path (paths_of (reverse js))
taken_others path js ks rest j h k e =
    sym (behind_taken path j (reverse rest) k) ∙ ap (λ (is : List Justfile). behind_those_within path (paths_of is)) (sym (turned ks rest j e)) ∙ h

-- the modules from a number on are made: those that stand in none of the others, in front the last one
pub record Made (text_of : StringLiteral → Option (List ℕ)) (links : Links) (wins : Wins) (layout : Layout) (number : ℕ) (outer : List Justfile) : Type 0 where
  pub all : List Justfile
  pub in_order : AreModules (reverse outer) all
  pub each : AreModulesOf text_of links wins layout (enumerate_from number (drop number layout.modules)) all
  pub paths : paths_of (reverse outer) ≡ outermost (drop number layout.modules)

-- one more module in front
pub made_step : (text_of : StringLiteral → Option (List ℕ)) (links : Links) (wins : Wins) (layout : Layout) (n : ℕ) (m : Module) (outer rest inner new : List Justfile) (j : Justfile)
    → Made text_of links wins layout (n + 1) outer → n < length layout.modules → m ≡ get_or layout.modules n m
    → reverse outer ≡ inner ++ reverse rest → All (λ (i : Justfile). is_within m.path.components (path_of i).components ≡ true) inner
    → paths_of (reverse rest) ≡ behind_those_within m.path.components (paths_of (reverse outer))
    → IsModuleOf text_of links wins layout.files n m j → modules_of j ≡ inner → new ≡ rest ++ j ∷ []
    → Made text_of links wins layout n new
made_step text_of links wins layout n m outer rest inner new j old lt is parts within others said inner_is new_is =
    let front_is : reverse new ≡ j ∷ reverse rest = turned new rest j new_is in
    let here : drop n layout.modules ≡ m ∷ drop (n + 1) layout.modules = drop_here layout.modules n m lt is in
    let path_is : path_of j ≡ m.path = said.module_path in
    let parts_are : reverse outer ≡ modules_of j ++ reverse rest = parts ∙ ap (λ (ks : List Justfile). ks ++ reverse rest) (sym inner_is) in
    let around : IsAround j =
    subst (λ (ks : List Justfile). All (λ (i : Justfile). is_within (path_of j).components (path_of i).components ≡ true) ks) (sym inner_is)
    (subst (λ (p : Modulepath). All (λ (i : Justfile). is_within p.components (path_of i).components ≡ true) inner) (sym path_is) within) in
    let each_of : AreModulesOf text_of links wins layout ((n, m) ∷ enumerate_from (n + 1) (drop (n + 1) layout.modules)) (j ∷ old.all) = ((said, around), old.each) in
    let paths_are : paths_of (j ∷ reverse rest) ≡ outermost (m ∷ drop (n + 1) layout.modules) =
    ap (λ (p : Modulepath). p.components ∷ paths_of (reverse rest)) path_is
    ∙ ap (λ (ps : List (List (List ℕ))). m.path.components ∷ ps) (others ∙ ap (behind_those_within m.path.components) old.paths) in
    record {
      all = j ∷ old.all;
      in_order = subst (λ (ks : List Justfile). AreModules ks (j ∷ old.all)) (sym front_is) (AreModules.first j (reverse rest) old.all (subst (λ (ks : List Justfile). AreModules ks old.all) parts_are old.in_order));
      each = subst (λ (ms : List Module). AreModulesOf text_of links wins layout (enumerate_from n ms) (j ∷ old.all)) (sym here) each_of;
      paths = ap paths_of front_is ∙ paths_are ∙ ap outermost (sym here);
    }

-- before the first of them nothing is made
made_none : (text_of : StringLiteral → Option (List ℕ)) (links : Links) (wins : Wins) (layout : Layout) (number : ℕ) → drop number layout.modules ≡ []
    → Made text_of links wins layout number []
made_none text_of links wins layout number none = record {
  all = [];
  in_order = AreModules.none;
  each = subst (λ (ms : List Module). AreModulesOf text_of links wins layout (enumerate_from number ms) []) (sym none) tt;
  paths = ap outermost (sym none);
}

pub made_last : (text_of : StringLiteral → Option (List ℕ)) (links : Links) (wins : Wins) (layout : Layout) (number : ℕ) → number ≡ length layout.modules → Made text_of links wins layout number []
made_last text_of links wins layout number e = made_none text_of links wins layout number (drop_all number layout.modules (omega (arith, e)))

no_paths : (js : List Justfile) → paths_of js ≡ [] → js ≡ []
no_paths [] h = refl
no_paths (j ∷ js) h = absurd (cc)

alone : (js : List Justfile) (j : Justfile) → paths_of (j ∷ js) ≡ [] ∷ [] → js ≡ []
alone js j h = no_paths js (cc)

-- where the root alone stands in no other, it is the justfile
pub whole : (text_of : StringLiteral → Option (List ℕ)) (links : Links) (wins : Wins) (layout : Layout) (outer rest : List Justfile) (j : Justfile)
    → outermost layout.modules ≡ [] ∷ [] → Made text_of links wins layout 0 outer → outer ≡ rest ++ j ∷ [] → IsJustfileOf text_of links wins layout j
whole text_of links wins layout outer rest j root made is =
    let front_is : reverse outer ≡ j ∷ reverse rest = turned outer rest j is in
    let paths_are : paths_of (j ∷ reverse rest) ≡ [] ∷ [] = ap paths_of (sym front_is) ∙ made.paths ∙ root in
    let none : reverse rest ≡ [] = alone (reverse rest) j paths_are in
    record {
      all = made.all;
      in_order = subst (λ (ks : List Justfile). AreModules ks made.all) (front_is ∙ ap (λ (ks : List Justfile). j ∷ ks) none) made.in_order;
      each = made.each;
    }

-- and there is such a one
pub not_none : (text_of : StringLiteral → Option (List ℕ)) (links : Links) (wins : Wins) (layout : Layout) (outer : List Justfile)
    → outermost layout.modules ≡ [] ∷ [] → Made text_of links wins layout 0 outer → outer ≡ [] → ⊥
not_none text_of links wins layout outer root made none = let paths_are : paths_of (reverse []) ≡ [] ∷ [] = ap (λ (ks : List Justfile). paths_of (reverse ks)) (sym none) ∙ made.paths ∙ root in cc
