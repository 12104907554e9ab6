-- The options of one more option follow those of the others.
use Rattle.std.proofs.Common.{◌≡◌, ◌∙◌, ℕ, ◌++◌, List, [], ◌∷◌, ap}
use Rattle.std.proofs.lemmas.List.{append-nil}
use Rattle.std.proofs.lemmas.Grind.{flat_map-append}
use Rattle.just_config_words.specs.declared.parsed.ParsedOption.{ParsedOption}
use Rattle.just_config_words.specs.Faults.{occurrence_in, occurrences}

pub occurrences_more : (w : List ℕ) (xs : List ParsedOption) (m : ParsedOption) → occurrences w (xs ++ m ∷ []) ≡ occurrences w xs ++ occurrence_in w m
occurrences_more w xs m = flat_map-append (occurrence_in w) xs (m ∷ []) ∙ ap (λ t. occurrences w xs ++ t) (append-nil (occurrence_in w m))
