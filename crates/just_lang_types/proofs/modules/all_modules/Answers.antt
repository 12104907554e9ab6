-- A module is done, and those within it are pending.
use Rattle.std.proofs.Common.{rules, ◌≡◌, ◌++◌, [], ◌∷◌, List, map, reverse, Bor, sym, ap, ◌∙◌, subst}
use Rattle.std.proofs.lemmas.List.{map-append}
use Rattle.just_lang_types.specs.declared.project.Justfile.{Justfile}
use Rattle.just_lang_types.proofs.Nesting.{Leaves, fewer, one_more}
use Rattle.just_lang_types.proofs.modules.all_modules.Goals as goal

-- the modules behind borrows
abbrev seen : List (Bor Justfile) → List Justfile
seen ms = map (λ m. m.now) ms

pub modules-smaller : goal.modules-smaller
modules-smaller c =
    let popped : c.modules.pending.items ≡ c.pop.new.self.items ++ c.in-Some.module ∷ [] = search rules in
    let is : seen c.modules.pending.items ≡ seen c.pop.new.self.items ++ c.in-Some.module.now ∷ [] = ap (λ ms. seen ms) popped ∙ map-append (λ m. m.now) c.pop.new.self.items (c.in-Some.module ∷ []) in
    fewer (seen c.modules.pending.items) (seen c.pop.new.self.items) (seen c.push_modules.new.pending.items) c.in-Some.module.now is (c.in_ok-push_modules.ensures ∙ ap (λ js. seen c.pop.new.self.items ++ reverse js) c.as_slice.ensures)

pub modules-preserved : goal.modules-preserved
modules-preserved c =
    let popped : c.modules.pending.items ≡ c.pop.new.self.items ++ c.in-Some.module ∷ [] = search rules in
    let is : seen c.modules.pending.items ≡ seen c.pop.new.self.items ++ c.in-Some.module.now ∷ [] = ap (λ ms. seen ms) popped ∙ map-append (λ m. m.now) c.pop.new.self.items (c.in-Some.module ∷ []) in
    let pushed : c.push-in-Some.new.self.items ≡ c.modules.all.items ++ c.in-Some.module ∷ [] = search rules in
    let grown : seen c.push-in-Some.new.self.items ≡ seen c.modules.all.items ++ c.in-Some.module.now ∷ [] = ap (λ ms. seen ms) pushed ∙ map-append (λ m. m.now) c.modules.all.items (c.in-Some.module ∷ []) in
    subst (λ done. Leaves (c.args.justfile.now ∷ []) (seen c.push_modules.new.pending.items) done) (sym grown) (one_more (c.args.justfile.now ∷ []) (seen c.modules.pending.items) (seen c.pop.new.self.items) (seen c.push_modules.new.pending.items) (seen c.modules.all.items) c.in-Some.module.now is (c.in_ok-push_modules.ensures ∙ ap (λ js. seen c.pop.new.self.items ++ reverse js) c.as_slice.ensures) c.modules.invariant)
