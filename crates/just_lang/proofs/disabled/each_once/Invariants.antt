-- The texts that were seen, those that were new, and those that are still to come.
use Rattle.std.proofs.Common.{◌≡◌, ◌++◌, ℕ, List, [], take, drop}
use denote.Ref.{Bor}
use Rattle.std.specs.HashSet.{contains}
use Rattle.just_lang_spots.specs.Repeated.{is_among}
use Rattle.just_lang_spots.proofs.Seen.{text_eq}
use Rattle.just_lang.specs.Disabling.{each_once}
use Rattle.just_lang.specs.DisablingTables.{texts}
use Rattle.just_lang.proofs.disabled.each_once.Given as goal

abbrev pub invariant-all : goal.invariant-all
invariant-all l = record {
  same : (q : Bor (List ℕ)) → contains text_eq l.seen q ≡ is_among q.now (texts (take l.name-index l.all));
  rest : texts l.once.items ++ each_once (texts (take l.name-index l.all)) (texts (drop l.name-index l.all)) ≡ each_once [] (texts l.all);
}
