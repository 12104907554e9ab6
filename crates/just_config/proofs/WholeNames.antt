-- Whole texts that are names.
use Rattle.std.proofs.Common.{◌≡◌, ◌&&◌, ℕ, Bool, true, false, List, [], ◌∷◌, refl, sym}
use Rattle.std.proofs.lemmas.Bool.{false≢true}
use Rattle.std.specs.Prelude.{IsTrue, ◌↔◌}
use Rattle.std.specs.List.{list_all}
use Rattle.just_lang_read.specs.Characters.{begins_name, in_name}
use Rattle.just_lang_types.specs.Names.{IsName}
use Rattle.just_config.specs.ModulePaths.{is_name}

both : (a b : Bool) → a ≡ true → b ≡ true → true ≡ (a && b)
both true true h k = refl
both true false h k = sym k
both false b h k = sym h

not_both : (a b : Bool) → ((a ≡ true) × (b ≡ true) → ⊥) → false ≡ (a && b)
not_both true true h = absurd (h (refl, refl))
not_both true false h = refl
not_both false b h = refl

pub from_names : (b : Bool) (t : List ℕ) → (IsTrue b ↔ IsName t) → b ≡ is_name t
from_names true [] h = absurd (h.0 refl)
from_names false [] h = refl
from_names true (c ∷ cs) h = let p = h.0 refl in both (begins_name c) (list_all in_name cs) p.0 p.1
from_names false (c ∷ cs) h = not_both (begins_name c) (list_all in_name cs) (λ p. false≢true (h.1 p))
