-- The clean form of a path under an absolute folder is clean and absolute.
use Rattle.std.proofs.Common.{◌≡◌, true, sym, ap, subst, ◌∙◌}
use Rattle.just_path.specs.Path.{text_of}
use Rattle.just_path.specs.Clean.{cleaned, is_clean_absolute}
use Rattle.just_path.proofs.Laws.{clean_absolute-pushed}
use Rattle.just_host_memory.proofs.place.Place.under.Goals as goal

pub invariant_of-result : goal.invariant_of-result
invariant_of-result c = record {
  clean = subst (λ p. is_clean_absolute p ≡ true)
      (sym (c.in_ok-path.ensures.clean ∙ ap cleaned (c.as_path.ensures ∙ c.in_ok-whole.ensures.path)))
      (clean_absolute-pushed (text_of c.args.folder) (text_of c.args.path) c.requires);
}
