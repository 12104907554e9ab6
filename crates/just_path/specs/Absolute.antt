-- The absolute path of a text.
use Rattle.std.specs.Prelude.{ℕ, ◌≡◌, ◌==◌, ◌&&◌, Bool, false, not, if◌then◌else◌, List, [], ◌∷◌, map, fold, Option, Result, Ok, Err}
use Rattle.just_path.specs.Path.{is_absolute, ends_open, pushed}
use Rattle.just_path.specs.Comps.{names, comp_text}
use Rattle.just_path.specs.Host.{note_of}
use Rattle.just_path.specs.View.{View, Tells, current_told}
use Rattle.just_path.specs.declared.host.PathCall.TheVariants as path_call
use Rattle.just_path.specs.declared.host.PathFault.{PathFault}
use Rattle.just_path.specs.declared.host.PathFault.TheVariants as fault
use Rattle.just_path.specs.declared.host.PathNote.{PathNote}

-- whether a text begins with two slashes and no more
abbrev pub is_double : List ℕ → Bool
is_double (a ∷ b ∷ rest) = (a == 47) && (b == 47) && not (is_absolute rest)
is_double _ = false

-- the root in front of an absolute text: two slashes are kept as they are, any other number is one
abbrev pub root_of : List ℕ → List ℕ
root_of t = if is_double t then 47 ∷ 47 ∷ [] else 47 ∷ []

-- the names and `..` of a text, pushed one behind the other on a path
abbrev pub spread : List ℕ → List ℕ → List ℕ
spread base t = fold pushed base (map comp_text (names t))

-- the same, where a slash at the end of the text stays
unfoldable pub under : List ℕ → List ℕ → List ℕ
under base t = if ends_open t then spread base t else pushed (spread base t) []

-- the answer is this path, unless memory is wanting
abbrev pub Gives : List ℕ → Result (List ℕ) PathFault → Type 0
Gives p (Ok q) = q ≡ p
Gives p (Err e) = e ≡ fault.NoMemory

-- a text under the folder that was answered, or the refusal that was
abbrev pub Places : List ℕ → Result (List ℕ) PathFault → Result (List ℕ) PathFault → Type 0
Places t (Ok folder) result = Gives (under folder t) result
Places t (Err e) result = result ≡ Err e

-- the host was asked for its current folder, and the text is put under it
pub record PutsUnder {H : Type 0} (went : H → H → PathNote → Type 0) (view : H → Option View) (t : List ℕ) (old new : H) (result : Result (List ℕ) PathFault) : Type 0 where
  pub answer : Result (List ℕ) PathFault
  pub goes : went old new (note_of path_call.Current [] answer)
  pub told : Tells (view old) current_told answer
  pub placed : Places t answer result
