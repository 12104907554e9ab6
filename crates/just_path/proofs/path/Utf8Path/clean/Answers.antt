-- The laws of clean texts, at the text that was made.
use Rattle.std.proofs.Common.{◌≡◌, ◌∙◌, sym, ap, subst, List, ℕ}
use Rattle.just_path.specs.Path.{text_of}
use Rattle.just_path.specs.Comps.{comps}
use Rattle.just_path.specs.Clean.{IsCleanOf, cleaned, parents_first}
use Rattle.just_path.proofs.CleanPaths.{clean_is_normal, clean_only, clean_again, clean_ups}
use Rattle.just_path.proofs.path.Utf8Path.clean.Goals as goal

pub returns : goal.returns
returns c =
    let t : List ℕ = text_of c.args.self.now in
    let e : c.in_ok-path.path ≡ cleaned t = c.in_ok-path.ensures ∙ ap cleaned c.as_str.ensures in
    record {
      clean = e;
      normal = subst (λ (p : List ℕ). IsCleanOf t p) (sym e) (clean_is_normal t);
      only = λ n h. ap comps e ∙ clean_only t n h;
      again = ap cleaned e ∙ clean_again t ∙ sym e;
      ups = ap (λ p. parents_first (comps p)) e ∙ clean_ups t;
    }
