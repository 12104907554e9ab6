-- Why a text isn't built, by the error alone.
use Rattle.std.proofs.Common.{◌≡◌, Option, Some, None, refl, ap}
use Rattle.std.specs.Prelude.{Result, Ok, Err}
use Rattle.std.specs.Result.{result_err}
use Rattle.regex.specs.declared.string.regex.Regex.{Regex}
use Rattle.regex.specs.declared.error.Error.{Error}
use Rattle.just_path_text.specs.declared.memory.NoMemory.{NoMemory}
use Rattle.just_lang_rulebook.specs.declared.refusals.Refusal.{Refusal}
use Rattle.just_lang_rulebook.specs.Patterns.{refusal_by}

abbrev refusal_of : Option Error → Result (Option Refusal) NoMemory
refusal_of None = Ok None
refusal_of (Some e) = refusal_by (Err e)

pub by_none : (built : Result Regex Error) → result_err built ≡ None → refusal_by built ≡ Ok None
by_none (Ok r) h = refl
by_none (Err e) h = ap (λ (o : Option Error). refusal_of o) h

pub by_error : (built : Result Regex Error) (e : Error) → result_err built ≡ Some e → refusal_by built ≡ refusal_by (Err e)
by_error (Ok r) e h = ap (λ (o : Option Error). refusal_of o) h
by_error (Err d) e h = ap (λ (o : Option Error). refusal_of o) h
