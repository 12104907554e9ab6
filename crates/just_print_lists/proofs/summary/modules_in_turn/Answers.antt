-- A module is done, and the public ones within it are pending.
use Rattle.std.proofs.Common.{rules, ◌≡◌, ◌++◌, [], ◌∷◌, List, map, Bor, sym, ap, ◌∙◌, subst}
use Rattle.std.proofs.lemmas.List.{map-append}
use Rattle.just_print_lists.specs.declared.listed.ListedModule.{ListedModule}
use Rattle.just_print_lists.proofs.InTurn.{Leaves, fewer, one_more}
use Rattle.just_print_lists.proofs.summary.modules_in_turn.Goals as goal

-- the modules behind borrows
abbrev seen : List (Bor ListedModule) → List ListedModule
seen ms = map (λ m. m.now) ms

pub modules-smaller : goal.modules-smaller
modules-smaller c =
    let popped : c.modules.pending.items ≡ c.pop.new.self.items ++ c.in-Some.outer ∷ [] = search rules in
    let is : seen c.modules.pending.items ≡ seen c.pop.new.self.items ++ c.in-Some.outer.now ∷ [] = ap (λ ms. seen ms) popped ∙ map-append (λ m. m.now) c.pop.new.self.items (c.in-Some.outer ∷ []) in
    fewer c.args.unsorted (seen c.modules.pending.items) (seen c.pop.new.self.items) (seen c.push_inner.new.pending.items) c.in-Some.outer.now is c.in_ok-push_inner.ensures

pub modules-preserved : goal.modules-preserved
modules-preserved c =
    let popped : c.modules.pending.items ≡ c.pop.new.self.items ++ c.in-Some.outer ∷ [] = search rules in
    let is : seen c.modules.pending.items ≡ seen c.pop.new.self.items ++ c.in-Some.outer.now ∷ [] = ap (λ ms. seen ms) popped ∙ map-append (λ m. m.now) c.pop.new.self.items (c.in-Some.outer ∷ []) in
    let pushed : c.push-in-Some.new.self.items ≡ c.modules.all.items ++ c.in-Some.outer ∷ [] = search rules in
    let grown : seen c.push-in-Some.new.self.items ≡ seen c.modules.all.items ++ c.in-Some.outer.now ∷ [] = ap (λ ms. seen ms) pushed ∙ map-append (λ m. m.now) c.modules.all.items (c.in-Some.outer ∷ []) in
    subst (λ done. Leaves c.args.unsorted (c.args.root.now ∷ []) (seen c.push_inner.new.pending.items) done) (sym grown)
    (one_more c.args.unsorted (c.args.root.now ∷ []) (seen c.modules.pending.items) (seen c.pop.new.self.items) (seen c.push_inner.new.pending.items) (seen c.modules.all.items) c.in-Some.outer.now is c.in_ok-push_inner.ensures c.modules.invariant)
