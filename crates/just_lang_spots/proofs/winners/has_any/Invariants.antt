-- No file so far gives the name.
use Rattle.std.proofs.Common.{◌≡◌, drop}
use Rattle.std.specs.List.{list_any}
use Rattle.just_lang_spots.specs.Winners.{has_pair}
use Rattle.just_lang_spots.proofs.winners.has_any.Given as goal

abbrev pub invariant-files : goal.invariant-files
invariant-files l = list_any (λ f. has_pair l.pairs f l.name) (drop l.file-index l.files) ≡ list_any (λ f. has_pair l.pairs f l.name) l.files
