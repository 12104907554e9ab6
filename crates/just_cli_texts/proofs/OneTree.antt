-- What listings show of a project is one thing.
use Rattle.std.proofs.Common.{◌≡◌, ℕ, List, [], ◌∷◌, ◌++◌, map, Option, refl, sym, ap, ◌∙◌, subst}
use Rattle.just_lang_syntax.specs.declared.ast.StringLiteral.{StringLiteral}
use Rattle.just_lang_types.specs.declared.project.Justfile.{Justfile}
use Rattle.just_lang_types.specs.Modules.{modules_of}
use Rattle.just_lang_types.proofs.Nesting.{same_modules}
use Rattle.just_lang_layout.specs.declared.layout.File.{File}
use Rattle.just_lang_layout.specs.declared.layout.Layout.{Layout}
use Rattle.just_lang_layout.specs.declared.layout.Module.{Module}
use Rattle.just_lang_spots.specs.Standing.{Wins}
use Rattle.just_print_lists.specs.declared.listed.ListedModule.{ListedModule, out-ListedModule}
use Rattle.just_print_lists.specs.declared.listed.ListedModule.TheOpen.{ListedModule-F}
use Rattle.just_print_lists.specs.declared.listed.ListedModule.TheViews.{roll-ListedModule, roll-out-ListedModule}
use Rattle.just_print_lists.specs.Listed.{modules_of as inner_of}
use Rattle.just_print_tree.specs.Branches.{Branch, IsListed, IsBranch, AreListed, IsTreeOf, module_spots}
use Rattle.just_print_tree.specs.Told.{ToldRecipe, told_of, told_each}

same_layers : (f g : ListedModule-F ListedModule) → f.name ≡ g.name → f.path ≡ g.path → f.doc ≡ g.doc → f.groups ≡ g.groups → f.private ≡ g.private → f.recipes ≡ g.recipes → f.aliases ≡ g.aliases → f.modules ≡ g.modules → f.named_groups ≡ g.named_groups → f ≡ g
same_layers f g name path doc groups private recipes aliases modules named = rw (name, path, doc, groups, private, recipes, aliases, modules, named)

rolled : (l k : ListedModule) → out-ListedModule l ≡ out-ListedModule k → l ≡ k
rolled l k e = sym (roll-out-ListedModule l) ∙ (ap (λ (f : ListedModule-F ListedModule). roll-ListedModule f) e ∙ roll-out-ListedModule k)

same_branch : (b c : Branch) → b.laid ≡ c.laid → b.justfile ≡ c.justfile → b.listed ≡ c.listed → b ≡ c
same_branch b c laid justfile listed = rw (laid, justfile, listed)

-- of lists whose fronts belong to justfiles that are the same the fronts are the same
fronts_one : (xs us ys vs : List Branch) → map (λ (b : Branch). b.justfile) xs ≡ map (λ (b : Branch). b.justfile) us → xs ++ ys ≡ us ++ vs → (xs ≡ us) × (ys ≡ vs)
fronts_one [] [] ys vs js is = (refl, is)
fronts_one [] (u ∷ us) ys vs js is = absurd (let no : ⊥ = cc in no)
fronts_one (x ∷ xs) [] ys vs js is = absurd (let no : ⊥ = cc in no)
fronts_one (x ∷ xs) (u ∷ us) ys vs js is =
    let whole : x ∷ (xs ++ ys) ≡ u ∷ (us ++ vs) = is in
    let head : x ≡ u = cc in
    let tails : xs ++ ys ≡ us ++ vs = cc in
    let firsts : x.justfile ∷ map (λ (b : Branch). b.justfile) xs ≡ u.justfile ∷ map (λ (b : Branch). b.justfile) us = js in
    let more : map (λ (b : Branch). b.justfile) xs ≡ map (λ (b : Branch). b.justfile) us = cc in
    let k = fronts_one xs us ys vs more tails in
    (ap (λ (z : Branch). z ∷ xs) head ∙ ap (λ (l : List Branch). u ∷ l) k.0, k.1)

mapped_both : (xs ys : List Branch) → map (λ (b : Branch). b.justfile) (xs ++ ys) ≡ map (λ (b : Branch). b.justfile) xs ++ map (λ (b : Branch). b.justfile) ys
mapped_both [] ys = refl
mapped_both (x ∷ xs) ys = ap (λ (l : List Justfile). x.justfile ∷ l) (mapped_both xs ys)

module _ (text_of : StringLiteral → Option (List ℕ)) (wins : Wins) (files : List File) (all : List (List ToldRecipe)) where
  -- a branch is what its module, its justfile and those within it say
  branch_one : (b c : Branch) (within others : List Branch) → IsBranch text_of wins files all b within → IsBranch text_of wins files all c others → b.laid ≡ c.laid → b.justfile ≡ c.justfile → within ≡ others → b ≡ c
  branch_one b c within others h g laid justfile inside =
      let k = subst (λ (m : Module). IsListed text_of files all (told_of wins files m b.justfile) (module_spots files within) m b.justfile b.listed) laid h.listed in
      let l = subst (λ (j : Justfile). IsListed text_of files all (told_of wins files c.laid j) (module_spots files within) c.laid j b.listed) justfile k in
      let n = subst (λ (bs : List Branch). IsListed text_of files all (told_of wins files c.laid c.justfile) (module_spots files bs) c.laid c.justfile b.listed) inside l in
      let o = g.listed in
      let modules : inner_of b.listed ≡ inner_of c.listed = h.modules ∙ (ap (λ (bs : List Branch). map (λ (i : Branch). i.listed) bs) inside ∙ sym g.modules) in
      same_branch b c laid justfile
      (rolled b.listed c.listed
      (same_layers (out-ListedModule b.listed) (out-ListedModule c.listed) (n.name ∙ sym o.name) (n.path ∙ sym o.path) (n.doc ∙ sym o.doc) (n.groups ∙ sym o.groups) (n.private ∙ sym o.private) (n.recipes ∙ sym o.recipes) (n.aliases ∙ sym o.aliases) modules
      (n.named_groups ∙ sym o.named_groups)))

  none_listed : (ms : List Module) (bs : List Branch) → AreListed text_of wins files all ms bs → ms ≡ [] → bs ≡ []
  none_listed ms bs AreListed.none h = refl
  none_listed ms bs (AreListed.first b within more rest is a) h = absurd (let no : ⊥ = cc in no)

  listed_by : (ms : List Module) (bs : List Branch) → AreListed text_of wins files all ms bs → (ns : List Module) (cs : List Branch) → AreListed text_of wins files all ns cs → ms ≡ ns → map (λ (b : Branch). b.justfile) bs ≡ map (λ (b : Branch). b.justfile) cs → bs ≡ cs
  listed_by ms bs AreListed.none ns cs g h js = sym (none_listed ns cs g (sym h))
  listed_by ms bs (AreListed.first b within more rest is a) ns cs AreListed.none h js = absurd (let no : ⊥ = cc in no)
  listed_by ms bs (AreListed.first b within more rest is a) ns cs (AreListed.first c others left last at d) h js =
      let laid : b.laid ≡ c.laid = cc in
      let tails : rest ≡ last = cc in
      let firsts : b.justfile ∷ map (λ (x : Branch). x.justfile) more ≡ c.justfile ∷ map (λ (x : Branch). x.justfile) left = js in
      let justfile : b.justfile ≡ c.justfile = cc in
      let behind : map (λ (x : Branch). x.justfile) more ≡ map (λ (x : Branch). x.justfile) left = cc in
      let inside : map (λ (x : Branch). x.justfile) within ≡ map (λ (x : Branch). x.justfile) others = sym is.justfiles ∙ (ap (λ (j : Justfile). modules_of j) justfile ∙ at.justfiles) in
      let both = listed_by rest (within ++ more) a last (others ++ left) d tails
      (mapped_both within more ∙ (ap (λ (l : List Justfile). l ++ map (λ (x : Branch). x.justfile) more) inside ∙ (ap (λ (l : List Justfile). map (λ (x : Branch). x.justfile) others ++ l) behind ∙ sym (mapped_both others left)))) in
      let parts = fronts_one within others more left inside both in
      ap (λ (x : Branch). x ∷ more) (branch_one b c within others is at laid justfile parts.0) ∙ ap (λ (l : List Branch). c ∷ l) parts.1

one_root : (b c : Branch) → b ∷ [] ≡ c ∷ [] → b ≡ c
one_root b c is = cc

pub tree_one : (text_of : StringLiteral → Option (List ℕ)) (wins : Wins) (layout : Layout) (j : Justfile) (x y : ListedModule) → IsTreeOf text_of wins layout j x → IsTreeOf text_of wins layout j y → x ≡ y
tree_one text_of wins layout j x y h g =
    let modules : h.modules ≡ g.modules = same_modules (j ∷ []) h.modules g.modules h.in_order g.in_order in
    let told : List (List ToldRecipe) = told_each wins layout.files layout.modules g.modules in
    let within = subst (λ (ms : List Justfile). AreListed text_of wins layout.files (told_each wins layout.files layout.modules ms) layout.modules (h.root ∷ [])) modules h.within in
    let justfiles : h.root.justfile ≡ g.root.justfile = h.justfile ∙ sym g.justfile in
    let roots = listed_by text_of wins layout.files told layout.modules (h.root ∷ []) within layout.modules (g.root ∷ []) g.within refl (ap (λ (k : Justfile). k ∷ []) justfiles) in
    sym h.listed ∙ (ap (λ (b : Branch). b.listed) (one_root h.root g.root roots) ∙ g.listed)
