-- A file before some slash, or before none.
use Rattle.std.proofs.Common.{◌≡◌, ◌==◌, ◌&&◌, Bool, true, length, take, slice_index, sym, ap, ◌∙◌, arith, eq-eqb}
use Rattle.std.proofs.lemmas.Grind.{common_steps}
use Rattle.just_path.specs.View.{meta_seen, sees_file}
use Rattle.just_host_record.specs.Sights.{seen}
use Rattle.just_host_memory.specs.Trees.{files_of}
use Rattle.just_host_memory.proofs.Things.{any_below, none_below}
use Rattle.just_host_memory.proofs.files.Tree.goes_through_file.Goals as goal

-- two tests that hold hold together
both : (a b : Bool) → a ≡ true → b ≡ true → (a && b) ≡ true
both a b p q = ap (λ x. x && b) p ∙ q

pub returns-then-is_file : goal.returns-then-is_file
returns-then-is_file c =
    let file : sees_file (meta_seen (take c.loop-k.k c.args.place.now) (seen (files_of c.args.self.now))) ≡ true = grind (arith, common_steps) in
    sym (any_below (λ j. (slice_index c.args.place.now j == 47) && sees_file (meta_seen (take j c.args.place.now) (seen (files_of c.args.self.now)))) (length c.args.place.now) c.loop-k.k c.loop-k-test.true
    (both _ _ (eq-eqb _ _ c.if-place-k-eq47.true) file))

pub returns : goal.returns
returns c =
    sym (none_below (λ j. (slice_index c.args.place.now j == 47) && sees_file (meta_seen (take j c.args.place.now) (seen (files_of c.args.self.now)))) (length c.args.place.now)
    (λ j h. c.loop-k.invariant j (omega arith)))
