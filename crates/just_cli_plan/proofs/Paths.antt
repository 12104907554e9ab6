-- Paths that errors of caches name.
use Rattle.std.proofs.Common.{◌≡◌, ℕ, true, List, [], ◌∷◌, ◌++◌, Option, Some, None, option_map, refl, ap, sym, subst}
use Rattle.std.specs.Prelude.{codes}
use Rattle.just_host_record.specs.declared.entry.HostFault.{HostFault}
use Rattle.just_host_record.specs.declared.entry.Look.{Look}
use Rattle.just_exec.specs.declared.error.Error.TheVariants as error
use Rattle.just_sched_history.specs.declared.cache_plan.CachePlan.{CachePlan}
use Rattle.just_cache.specs.Digests.{digest}
use Rattle.just_sched_history.specs.Cached.{key_with, entry_of}
use Rattle.just_cli_plan.specs.Outcome.{entry_seen, is_filled, copies_text}

-- a path that isn't empty is copied
pub path_copied : (path : List ℕ) (io : HostFault) → (path ≡ [] → ⊥) → copies_text (error.FilesystemIo path io) ≡ true
path_copied [] io not = absurd (not refl)
path_copied (b ∷ bs) io not = refl

-- that of an entry isn't empty
slashed : (folder rest more : List ℕ) → is_filled ((folder ++ 47 ∷ rest) ++ more) ≡ true
slashed [] rest more = refl
slashed (b ∷ bs) rest more = refl

filled : (c : CachePlan) (sums : List (List ℕ)) → is_filled (entry_of c sums) ≡ true
unfolding entry_of
filled c sums = slashed c.folder (digest (key_with c sums)) (codes ".json")

-- the entry of the sums that were seen
pub entry_by_sums : (c : CachePlan) (o : Option (List (List ℕ) × Look)) (sums : List (List ℕ)) → Some sums ≡ option_map (λ s. s.0) o → entry_seen (Some c) o ≡ entry_of c sums
entry_by_sums c (Some seen) sums is = let same : sums ≡ seen.0 = cc in ap (λ (k : List (List ℕ)). entry_of c k) (sym same)
entry_by_sums c None sums is = absurd (let no : ⊥ = cc in no)

pub entry_filled : (c : CachePlan) (o : Option (List (List ℕ) × Look)) (sums : List (List ℕ)) → Some sums ≡ option_map (λ s. s.0) o → is_filled (entry_seen (Some c) o) ≡ true
entry_filled c o sums is = subst (λ (k : List ℕ). is_filled k ≡ true) (sym (entry_by_sums c o sums is)) (filled c sums)

-- nothing was seen
pub nothing_seen : (cache : Option CachePlan) (o : Option (List (List ℕ) × Look)) → None ≡ option_map (λ (s : List (List ℕ) × Look). s.0) o → entry_seen cache o ≡ []
nothing_seen (Some c) None is = refl
nothing_seen None o is = refl
nothing_seen (Some c) (Some seen) is = absurd (let no : ⊥ = cc in no)

pub no_cache : (o : Option (List (List ℕ) × Look)) → entry_seen None o ≡ []
no_cache o = refl
