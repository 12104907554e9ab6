-- What a record gains by several calls.
use Rattle.std.proofs.Common.{◌≡◌, List, [], ◌∷◌, ◌++◌, refl, ap, sym, ◌∙◌}
use Rattle.std.specs.Prelude.{ℕ, Result, Ok, Err, IfErr, IsErrAnd}
use Rattle.std.proofs.lemmas.List.{append-nil}
use Rattle.just_path.specs.declared.host.Miss.{Miss}
use Rattle.just_host_record.specs.declared.entry.Entry.{Entry}
use Rattle.just_host_record.specs.declared.entry.Entry.TheVariants as entry
use Rattle.just_env.specs.Answers.{GainsMisses}
use Rattle.just_env.proofs.Laws.{gains_none, misses_then}
use Rattle.just_env.specs.declared.env_error.EnvError.{EnvError}
use Rattle.just_env.specs.declared.env_error.EnvError.TheVariants as error
use Rattle.just_env.specs.DotenvAnswers.{Gains, entries_of}

-- what a call gains behind misses
pub gains_then : {A : Type 0} (a b c : List Entry) (r : Result A EnvError) → GainsMisses a b → Gains b c r → Gains a c r
gains_then a b c (Ok x) g h = misses_then a b c g h
gains_then a b c (Err e) g h = (h.0, misses_then a b h.0 g h.1, h.2)

-- an error that tells no entry leaves nothing more
pub gains_unheard : {A : Type 0} (old new : List Entry) (r : Result A EnvError) → GainsMisses old new → IfErr r (λ e. entries_of [] e ≡ []) → Gains old new r
gains_unheard old new (Ok x) gained none = gained
gains_unheard old new (Err e) gained none = (new, gained, sym (append-nil new) ∙ ap (λ x. new ++ x) (sym none))

-- the same of a refusal
pub gains_error : (old new : List Entry) (e : EnvError) → GainsMisses old new → entries_of [] e ≡ [] → (middle : List Entry) × GainsMisses old middle × (new ≡ middle ++ entries_of [] e)
gains_error old new e gained none = (new, gained, sym (append-nil new) ∙ ap (λ x. new ++ x) (sym none))

-- want of memory leaves nothing more
pub gains_before : {A : Type 0} (old new : List Entry) (r : Result A EnvError) → GainsMisses old new → IsErrAnd r (λ e. e ≡ error.NoMemory) → Gains old new r
gains_before {A = A} old new (Ok x) gained memory = absurd memory
gains_before {A = A} old new (Err e) gained memory = gains_unheard {A = A} old new (Err e) gained (ap (entries_of []) memory)

pub gains_nothing : {A : Type 0} (old : List Entry) (r : Result A EnvError) → IsErrAnd r (λ e. e ≡ error.NoMemory) → Gains old old r
gains_nothing old r memory = gains_before old old r (gains_none old) memory

-- one call, which leaves the entry of its refusal alone
pub gains_refused : {A : Type 0} (old new : List Entry) (r : Result A EnvError) → IsErrAnd r (λ e. new ≡ old ++ entries_of [] e) → Gains old new r
gains_refused old new (Ok x) is = absurd is
gains_refused old new (Err e) is = (old, gains_none old, is)

-- one miss, or nothing
pub gains_miss : (old new : List Entry) (path : List ℕ) (m : Miss) → new ≡ old ++ entry.Missed path m ∷ [] → GainsMisses old new
gains_miss old new path m is = (entry.Missed path m ∷ [], is, (refl, tt))

pub gains_same : (old new : List Entry) → new ≡ old ++ [] → GainsMisses old new
gains_same old new is = ([], is, tt)
