-- What a function that reads a list into a vector, or a letter of a text, ensures.
use Rattle.std.specs.Prelude.{◌≡◌, ◌≢◌, ℕ, List, [], ◌∷◌, Option, Some, None, Result, Ok, Err, codes}
use Rattle.std.specs.declared.vec.Vec.{Vec}
use Rattle.std.specs.declared.alloc.Global.{Global}
use Rattle.just_lang_read.specs.Place.{Place}
use Rattle.just_lang_read.specs.Reader.{Outcome}
use Rattle.just_lang_read.specs.declared.error.ReadError.{ReadError}
use Rattle.just_lang_read.specs.declared.error.ReadError.TheVariants.{NoMemory}

-- the list
abbrev pub ReadsVec : {A : Type 0} → Outcome (List A) → Result (Vec A Global) ReadError → Place → Type 0
ReadsVec outcome (Ok v) new = outcome ≡ Ok (v.items, new)
ReadsVec outcome (Err e) new = e ≢ NoMemory → outcome ≡ Err e

-- the letter, or none where it is two braces
abbrev pub ReadsLetter : Outcome (List ℕ) → Result (Option ℕ) ReadError → Place → Type 0
ReadsLetter outcome (Ok None) new = outcome ≡ Ok (codes "{{", new)
ReadsLetter outcome (Ok (Some c)) new = outcome ≡ Ok (c ∷ [], new)
ReadsLetter outcome (Err e) new = e ≢ NoMemory → outcome ≡ Err e
