-- The letters of a word, at their end.
use Rattle.std.proofs.Common.{◌≡◌, ◌≢◌, ℕ, false, List, [], ◌∷◌, refl}
use Rattle.std.specs.Prelude.{None}
use Rattle.just_config_words.specs.declared.parsed.Attached.TheVariants.{Nothing}
use Rattle.just_config_words.specs.Letters.{begins_with_letter}
use Rattle.just_config_words.specs.Parsed.{letters, parsed_option}

-- what begins with no letter of ASCII is one option that isn't there
pub letters_stop : (t : List ℕ) (ws : List (List ℕ)) → begins_with_letter t ≡ false → t ≢ [] → letters t ws ≡ parsed_option None Nothing ws ∷ []
letters_stop [] ws e n = absurd (n refl)
letters_stop (c ∷ cs) ws e n = rw e refl
