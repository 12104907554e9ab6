-- The walk goes on from the place so far.
use Rattle.std.proofs.Common.{◌≡◌, drop}
use Rattle.std.specs.List.{fold}
use Rattle.just_cache_clean.specs.declared.place.Place.TheVariants.{Begin}
use Rattle.just_cache_clean.specs.PathTexts.{behind_byte}
use Rattle.just_cache_clean.proofs.path_text.is_path.Given as goal

abbrev pub invariant-bytes : goal.invariant-bytes
invariant-bytes l = fold behind_byte l.place (drop l.byte-index l.text) ≡ fold behind_byte Begin l.text
