-- Keys have one closure.
use Rattle.std.specs.Prelude.{◌≡◌, List, [], None, Ok, Err}
use Rattle.just_lang_types.specs.declared.key.Key.{Key}
use Rattle.just_lang_types.specs.declared.node.Closure.{Closure}
use Rattle.just_eval_closure.specs.Answers.{Answer}
use Rattle.just_eval_closure.specs.Visits.{Around, Visits}
use Rattle.just_eval_closure.specs.Closures.{IsClosureOf}

-- the closure of some keys, or why a visit of theirs is refused
abbrev pub Closes : (Key → Around) → List Key → Answer Closure → Type 0
Closes around keys (Ok c) = IsClosureOf around keys c
Closes around keys (Err e) = Visits around (Ok []) None keys (Err e)

-- two such answers are one
abbrev pub ClosuresAgree : Type 0
ClosuresAgree = (around : Key → Around) (keys : List Key) (a b : Answer Closure) → Closes around keys a → Closes around keys b → a ≡ b
