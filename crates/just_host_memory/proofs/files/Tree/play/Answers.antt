-- The first ending of a word is played, or none.
use Rattle.std.proofs.Common.{◌≡◌, Some, None, sym, ap, subst, ◌∙◌}
use Rattle.std.specs.List.{position}
use Rattle.std.specs.Str.{bytes_eq}
use Rattle.just_host_memory.specs.Files.{files_in}
use Rattle.just_host_memory.specs.Trees.{files_of}
use Rattle.just_host_memory.specs.Playing.{ArePlacesOf, status_of, tree_after, after_changes}
use Rattle.just_host_memory.proofs.Endings.{found, same_ending, not_found}
use Rattle.just_host_memory.proofs.Lookups.{clean_things}
use Rattle.just_host_memory.proofs.Things.{after_changes-places}
use Rattle.just_host_memory.proofs.files.Tree.play.Goals as goal

pub returns-in_default-clause-status : goal.returns-in_default-clause-status
returns-in_default-clause-status c =
    let none : position (λ x. bytes_eq x.word c.args.word.now) c.args.endings.now.items ≡ None = ap (position (λ x. bytes_eq x.word c.args.word.now)) (sym c.as_slice.ensures.value) ∙ sym c.ending_at.ensures ∙ c.in_default.is in
    ap status_of (sym (not_found c.args.word.now c.args.endings.now.items none))

pub returns-in_default-clause-effects : goal.returns-in_default-clause-effects
returns-in_default-clause-effects c =
    let none : position (λ x. bytes_eq x.word c.args.word.now) c.args.endings.now.items ≡ None = ap (position (λ x. bytes_eq x.word c.args.word.now)) (sym c.as_slice.ensures.value) ∙ sym c.ending_at.ensures ∙ c.in_default.is in
    ap (tree_after c.args.folder.now.path (files_of c.args.self.now)) (sym (not_found c.args.word.now c.args.endings.now.items none))

pub returns-clause-status : goal.returns-clause-status
returns-clause-status c =
    let some : position (λ x. bytes_eq x.word c.args.word.now) c.args.endings.now.items ≡ Some c.in-Some.at = ap (position (λ x. bytes_eq x.word c.args.word.now)) (sym c.as_slice.ensures.value) ∙ sym c.ending_at.ensures ∙ c.in-Some.is in
    ap status_of (sym (found c.args.word.now c.args.endings.now.items c.in-Some.at c.remove-status.result some c.remove-status.ensures.value))

pub returns-clause-effects : goal.returns-clause-effects
returns-clause-effects c =
    let some : position (λ x. bytes_eq x.word c.args.word.now) c.args.endings.now.items ≡ Some c.in-Some.at = ap (position (λ x. bytes_eq x.word c.args.word.now)) (sym c.as_slice.ensures.value) ∙ sym c.ending_at.ensures ∙ c.in-Some.is in
    let before : files_in c.reserve.new.self.items ≡ files_of c.args.self.now = ap files_in c.reserve.ensures.items in
    let effects : ArePlacesOf c.args.folder.now.path c.in_ok-places.places.items c.remove-status.result.effects.items =
    subst (λ es. ArePlacesOf c.args.folder.now.path c.in_ok-places.places.items es) (c.as_slice-2.ensures.value ∙ ap (λ e. e.effects.items) (same_ending c.args.word.now c.args.endings.now.items c.in-Some.at c.index.result.now c.remove-status.result some c.index.ensures c.remove-status.ensures.value)) c.in_ok-places.ensures in
    c.apply.ensures
    ∙ ap (λ m. after_changes m c.in_ok-places.places.items c.remove-status.result.effects.items) before
    ∙ after_changes-places c.args.folder.now.path c.in_ok-places.places.items c.remove-status.result.effects.items (files_of c.args.self.now) effects
    ∙ ap (tree_after c.args.folder.now.path (files_of c.args.self.now)) (sym (found c.args.word.now c.args.endings.now.items c.in-Some.at c.remove-status.result some c.remove-status.ensures.value))

pub invariant_of-self : goal.invariant_of-self
invariant_of-self c = record { clean = clean_things c.reserve.new.self.items }
