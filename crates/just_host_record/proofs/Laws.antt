-- Laws for the crates above: faults and misses are counted over a record, so they rise with its entries; and what stands
-- at a place of a tree is shown there as it looks.
use Rattle.std.proofs.Common.{◌≡◌, ◌+◌, ℕ, Bool, true, false, List, [], ◌∷◌, ◌++◌, map, cond, Option, Some, option_map, refl, ap, sym, ◌∙◌, arith}
use Rattle.std.specs.Ordering.{nat_cmp, eq_by_cmp}
use Rattle.std.specs.Cmp.Lexicographic.{slice_cmp}
use Rattle.std.specs.FinMap.{find, get, entries, get-from_entries, get-entries}
use Rattle.std.proofs.lemmas.Cmp.{nat_list_cmp_total}
use Rattle.std.proofs.lemmas.List.Sums.{sum_by-append}
use Rattle.just_path.specs.Host.{Counts}
use Rattle.just_path.specs.declared.host.PathNote.{PathNote}
use Rattle.just_path.specs.declared.host.PathNote.TheVariants as note
use Rattle.just_path.specs.View.{sight}
use Rattle.just_host_record.specs.declared.entry.Entry.{Entry}
use Rattle.just_host_record.specs.declared.tree.Thing.{Thing}
use Rattle.just_host_record.specs.Record.{noted, faults_of, misses_of, is_failed, is_missed}
use Rattle.just_host_record.specs.Sights.{Tree, sight_of, seen}

-- the failures of two records, one behind the other, add up
faults-append : (es bs : List Entry) → faults_of (es ++ bs) ≡ faults_of es + faults_of bs
faults-append es bs = sum_by-append (λ e. cond (is_failed e) 1 0) es bs

-- the misses of two records, one behind the other, add up
misses-append : (es bs : List Entry) → misses_of (es ++ bs) ≡ misses_of es + misses_of bs
misses-append es bs = sum_by-append (λ e. cond (is_missed e) 1 0) es bs

-- what a note stands for raises the count of what it is
pub counts_noted : (es bs : List Entry) (n : PathNote) → bs ≡ es ++ noted n → Counts n (faults_of es) (faults_of bs) (misses_of es) (misses_of bs)
counts_noted es bs note.Nothing e =
    (omega (arith, ap faults_of e, faults-append es []), omega (arith, ap misses_of e, misses-append es []))
counts_noted es bs (note.Missed p m) e =
    (omega (arith, ap faults_of e, faults-append es (noted (note.Missed p m))), omega (arith, ap misses_of e, misses-append es (noted (note.Missed p m))))
counts_noted es bs (note.Failed c) e =
    (omega (arith, ap faults_of e, faults-append es (noted (note.Failed c))), omega (arith, ap misses_of e, misses-append es (noted (note.Failed c))))

-- to look at the chosen of two is to choose among what is looked at
mapped_cond : (b : Bool) (t : Thing) (o : Option Thing) → cond b (Some (sight_of t)) (option_map sight_of o) ≡ option_map sight_of (cond b (Some t) o)
mapped_cond true t o = refl
mapped_cond false t o = refl

-- to find among things as they look is to find the thing, and to look at it
find_seen : (q : List ℕ) (es : List (List ℕ × Thing)) → find (slice_cmp nat_cmp) q (map (λ e. (e.0, sight_of e.1)) es) ≡ option_map sight_of (find (slice_cmp nat_cmp) q es)
find_seen q [] = refl
find_seen q (e ∷ es) =
    ap (λ o. cond (eq_by_cmp (slice_cmp nat_cmp) q e.0) (Some (sight_of e.1)) o) (find_seen q es)
    ∙ mapped_cond (eq_by_cmp (slice_cmp nat_cmp) q e.0) e.1 (find (slice_cmp nat_cmp) q es)

-- what stands at a place is shown as it looks
pub sight_seen : (tree : Tree) (q : List ℕ) → sight q (seen tree) ≡ option_map sight_of (get tree q)
unfolding seen
sight_seen tree q =
    get-from_entries nat_list_cmp_total (map (λ e. (e.0, sight_of e.1)) (entries tree)) q
    ∙ find_seen q (entries tree)
    ∙ ap (λ o. option_map sight_of o) (sym (get-entries tree q))
