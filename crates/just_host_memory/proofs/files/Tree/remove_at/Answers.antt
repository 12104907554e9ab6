-- What is removed stood where the path leads.
use Rattle.std.proofs.Common.{◌≡◌, inr, true, false, refl, ap, subst, ◌∙◌}
use Rattle.std.specs.FinMap.{remove}
use Rattle.just_host_memory.specs.Trees.{files_of}
use Rattle.just_host_memory.specs.Removals.{IsFilled}
use Rattle.just_host_memory.proofs.files.Tree.remove_at.Goals as goal

pub returns-then-filled : goal.returns-then-filled
returns-then-filled c =
    let holds : c.in_ok-filled.filled ≡ true = cc in
    (inr (refl, (c.in_ok-place.place.path, c.in_ok-place.ensures, subst (λ b. IsFilled b (files_of c.args.self.now) c.in_ok-place.place.path) holds c.in_ok-filled.ensures)), refl)

pub returns : goal.returns
returns c =
    let fails : c.in_ok-filled.filled ≡ false = cc in
    (c.in_ok-place.place.path, c.in_ok-place.ensures, subst (λ b. IsFilled b (files_of c.args.self.now) c.in_ok-place.place.path) fails c.in_ok-filled.ensures, c.remove.ensures ∙ ap (remove (files_of c.args.self.now)) c.as_str.ensures)
