-- Laws for the crates above: what a record gains by several calls.
use Rattle.std.proofs.Common.{◌≡◌, true, List, [], ◌∷◌, ◌++◌, ap, sym, ◌∙◌, append_assoc}
use Rattle.std.specs.Prelude.{Result, Ok, Err, IsErrAnd}
use Rattle.std.specs.List.{AllByRecursion}
use Rattle.std.proofs.lemmas.List.{append-nil}
use Rattle.just_host_record.specs.declared.entry.Entry.{Entry}
use Rattle.just_host_record.specs.Record.{is_missed}
use Rattle.just_env.specs.declared.search_error.SearchError.{SearchError}
use Rattle.just_env.specs.declared.search_error.SearchError.TheVariants as error
use Rattle.just_env.specs.Answers.{GainsMisses, Gains, entries_of, told_entries}

-- nothing is gained
pub gains_none : (old : List Entry) → GainsMisses old old
gains_none old = ([], sym (append-nil old), tt)

all_misses : (xs ys : List Entry) → AllByRecursion (λ e. is_missed e ≡ true) xs → AllByRecursion (λ e. is_missed e ≡ true) ys → AllByRecursion (λ e. is_missed e ≡ true) (xs ++ ys)
all_misses [] ys h g = g
all_misses (x ∷ xs) ys h g = (h.0, all_misses xs ys h.1 g)

-- misses behind misses
pub misses_then : (a b c : List Entry) → GainsMisses a b → GainsMisses b c → GainsMisses a c
misses_then a b c g h = (g.0 ++ h.0, h.1 ∙ ap (λ x. x ++ h.0) g.1 ∙ append_assoc a g.0 h.0, all_misses g.0 h.0 g.2 h.2)

-- misses behind a call that leaves nothing
pub misses_after : (a b c : List Entry) → b ≡ a ++ [] → GainsMisses b c → GainsMisses a c
misses_after a b c is h = misses_then a b c ([], is, tt) h

-- what a call gains behind misses
pub gains_then : {A : Type 0} (a b c : List Entry) (r : Result A SearchError) → GainsMisses a b → Gains b c r → Gains a c r
gains_then a b c (Ok x) g h = misses_then a b c g h
gains_then a b c (Err e) g h = (h.0, misses_then a b h.0 g h.1, h.2)

-- want of memory leaves nothing more
pub gains_before : {A : Type 0} (old new : List Entry) (r : Result A SearchError) → GainsMisses old new → IsErrAnd r (λ e. e ≡ error.NoMemory) → Gains old new r
gains_before old new (Ok x) gained memory = absurd memory
gains_before old new (Err e) gained memory = (new, gained, sym (append-nil new) ∙ ap (λ x. new ++ entries_of x) (sym memory))

pub gains_nothing : {A : Type 0} (old : List Entry) (r : Result A SearchError) → IsErrAnd r (λ e. e ≡ error.NoMemory) → Gains old old r
gains_nothing old r memory = gains_before old old r (gains_none old) memory

-- one call, which leaves the entry of its refusal alone
pub gains_one : {A : Type 0} (old new : List Entry) (r : Result A SearchError) → new ≡ old ++ told_entries r → Gains old new r
gains_one old new (Ok x) is = ([], is, tt)
gains_one old new (Err e) is = (old, gains_none old, is)
