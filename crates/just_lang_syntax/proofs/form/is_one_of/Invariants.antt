-- None of the names so far is the one.
use Rattle.std.proofs.Common.{◌≡◌, map, drop}
use Rattle.just_lang_syntax.specs.Forms.{is_one_of}
use Rattle.just_lang_syntax.proofs.form.is_one_of.Given as goal

abbrev pub invariant-names : goal.invariant-names
invariant-names l = is_one_of (map (λ n. n.now) (drop l.known-index l.names)) l.name ≡ is_one_of (map (λ n. n.now) l.names) l.name
