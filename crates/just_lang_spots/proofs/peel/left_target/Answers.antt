-- One more target is marked; where all are, none is left.
use Rattle.std.proofs.Common.{rules, arith, ◌≡◌, ◌∙◌, subst, true, take, get_or}
use Rattle.std.specs.List.{All}
use Rattle.std.proofs.lemmas.List.{take_all}
use Rattle.std.proofs.lemmas.List.Elements.{All-more}
use Rattle.just_lang_spots.specs.Met.{is_marked}
use Rattle.just_lang_spots.proofs.peel.left_target.Goals as goal

pub loop-target-preserved : goal.loop-target-preserved
loop-target-preserved c =
    let targets = c.as_slice-targets.result.now in
    let marked : is_marked c.args.marks.now (get_or targets c.loop-target.target-index 0) ≡ true = search rules in
    record {
      is = c.loop-target.invariant.is;
      within = c.loop-target.invariant.within;
      marked = All-more (λ w. is_marked c.args.marks.now w ≡ true) targets c.loop-target.target-index 0 (omega arith) c.loop-target.invariant.marked marked;
    }

pub returns : goal.returns
returns c =
    let targets = c.as_slice-targets.result.now in
    let whole : take c.loop-target.target-index targets ≡ targets = take_all c.loop-target.target-index targets (omega arith) in
    subst (λ ws. All (λ w. is_marked c.args.marks.now w ≡ true) ws) (whole ∙ c.loop-target.invariant.is) c.loop-target.invariant.marked
