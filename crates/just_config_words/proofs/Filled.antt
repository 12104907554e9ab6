-- What is added leaves the front as it is.
use Rattle.std.proofs.Common.{◌≡◌, ◌∙◌, ℕ, ◌≤◌, ◌++◌, List, ap, length, take}
use Rattle.std.proofs.lemmas.List.{take-append-le}
use Rattle.just_config_words.specs.declared.occurrence.Occurrence.{Occurrence}

pub take_front : (n : ℕ) (xs ys all : List Occurrence) → n ≤ length xs → all ≡ xs ++ ys → take n all ≡ take n xs
take_front n xs ys all h e = ap (λ (t : List Occurrence). take n t) e ∙ take-append-le n xs ys h
