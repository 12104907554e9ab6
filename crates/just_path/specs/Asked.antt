-- What is made of a host's answer when a path is asked about.
use Rattle.std.specs.Prelude.{ℕ, ◌≡◌, Bool, true, false, List, Option, Result, Ok, Err}
use Rattle.just_path.specs.Host.{note_of}
use Rattle.just_path.specs.View.{View, Tells, meta_told}
use Rattle.just_path.specs.declared.host.Miss.TheVariants as miss
use Rattle.just_path.specs.declared.host.PathCall.TheVariants as path_call
use Rattle.just_path.specs.declared.host.PathFault.{PathFault}
use Rattle.just_path.specs.declared.host.PathFault.TheVariants as fault
use Rattle.just_path.specs.declared.host.PathNote.{PathNote}
use Rattle.just_path_text.specs.declared.memory.NoMemory.{NoMemory}
use Rattle.just_path.specs.declared.meta.Meta.{Meta}

-- one call of `meta` decides: the host answered so, and the result is made of that answer
pub record Decides {H A : Type 0} (went : H → H → PathNote → Type 0) (view : H → Option View) (path : List ℕ) (follow : Bool) (makes : Result Meta PathFault → A → Type 0) (old new : H) (result : A) : Type 0 where
  pub answer : Result Meta PathFault
  pub goes : went old new (note_of path_call.Meta path answer)
  pub told : Tells (view old) (meta_told path follow) answer
  pub made : makes answer result

-- whether a test holds of what was answered: not where the host refused; want of memory is passed on
abbrev pub Holds : (Meta → Bool) → Result Meta PathFault → Result Bool NoMemory → Type 0
Holds test (Ok m) (Ok b) = b ≡ test m
Holds test (Ok m) (Err e) = ⊥
Holds test (Err fault.NoMemory) (Ok b) = ⊥
Holds test (Err fault.NoMemory) (Err e) = Unit {0}
Holds test (Err f) (Ok b) = b ≡ false
Holds test (Err f) (Err e) = ⊥

-- whether anything is there: not exactly where it wasn't found; each other refusal is passed on
abbrev pub Tried : Result Meta PathFault → Result Bool PathFault → Type 0
Tried (Ok m) r = r ≡ Ok true
Tried (Err (fault.Missed miss.NotFound)) r = r ≡ Ok false
Tried (Err f) r = r ≡ Err f
