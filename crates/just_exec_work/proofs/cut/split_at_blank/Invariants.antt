-- No blank so far.
use Rattle.std.proofs.Common.{◌≡◌, ◌++◌, take, drop}
use Rattle.just_exec_work.specs.Cuts.{is_blank, before_first, behind_first}
use Rattle.just_exec_work.proofs.cut.split_at_blank.Given as goal

abbrev pub invariant-bytes : goal.invariant-bytes
invariant-bytes l =
    record {
      before : take l.at l.text ++ before_first is_blank (drop l.at l.text) ≡ before_first is_blank l.text;
      behind : behind_first is_blank (drop l.at l.text) ≡ behind_first is_blank l.text;
    }
