-- The tables of modules after one more module.
use Rattle.std.proofs.Common.{◌≡◌, ℕ, ◌+◌, ◌<◌, ◌&&◌, List, length, take, get_or, Option, Some, Ordering, ap, ◌∙◌}
use Rattle.std.specs.Prelude.{nat_eq, bytes_eq}
use mathlib.Core.Bool.{cond}
use denote.Ref.{Bor}
use Rattle.std.specs.Ordering.{nat_cmp, ordering_then}
use Rattle.std.specs.Cmp.Lexicographic.{slice_cmp}
use Rattle.std.specs.BTreeMap.{BTreeMap, get, Updates}
use Rattle.just_lang_layout.specs.declared.layout.Module.{Module}
use Rattle.just_lang_spots.proofs.ListLaws.{take_here}
use Rattle.just_lang_spots.proofs.StandingLaws.{same_pair}
use Rattle.just_lang_names.specs.Lookup.{module_at}
use Rattle.just_lang_names.proofs.PathLaws.{path_step}

-- the order of borrowed paths, and a path to be looked up
abbrev pub path_cmp : Bor (List (List ℕ)) → Bor (List (List ℕ)) → Ordering
path_cmp x y = slice_cmp (slice_cmp nat_cmp) x.now y.now

abbrev pub path_query : List (List ℕ) → Bor (List (List ℕ))
path_query p = record { ref_ptr = (0, 0); now = p }

pub path_insert : (ms : List Module) (i : ℕ) (m : Module) (path : List (List ℕ)) (key : Bor (List (List ℕ))) (old new : BTreeMap (Bor (List (List ℕ))) ℕ) → i < length ms → m ≡ get_or ms i m
    → key.now ≡ m.path.components → Updates path_cmp old new key (Some i) → get path_cmp old (path_query path) ≡ module_at (take i ms) path
    → get path_cmp new (path_query path) ≡ module_at (take (i + 1) ms) path
path_insert ms i m path key old new lt is n u h =
    path_step ms i m key.now path (get path_cmp old (path_query path)) (get path_cmp new (path_query path)) lt (take_here ms i m lt is) n h (u.0 (path_query path))

-- the order of pairs of a number and a borrowed name, and a pair to be looked up
abbrev pub child_cmp : ℕ × Bor (List ℕ) → ℕ × Bor (List ℕ) → Ordering
child_cmp x y = ordering_then (nat_cmp x.0 y.0) (slice_cmp nat_cmp x.1.now y.1.now)

abbrev pub child_query : ℕ → List ℕ → ℕ × Bor (List ℕ)
child_query outer q = (outer, record { ref_ptr = (0, 0); now = q })

pub child_insert : (i : ℕ) (key : ℕ × Bor (List ℕ)) (old new : BTreeMap (ℕ × Bor (List ℕ)) ℕ) → Updates child_cmp old new key (Some i) → (outer : ℕ) (q : List ℕ)
    → get child_cmp new (child_query outer q) ≡ cond (nat_eq key.0 outer && bytes_eq key.1.now q) (Some i) (get child_cmp old (child_query outer q))
child_insert i key old new u outer q = u.0 (child_query outer q) ∙ ap (λ b. cond b (Some i) (get child_cmp old (child_query outer q))) (same_pair key.0 outer key.1.now q)
