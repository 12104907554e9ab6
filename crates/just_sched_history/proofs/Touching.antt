-- What the events of a history make of a told world, and where it differs by that.
use Rattle.std.proofs.Common.{◌≡◌, ℕ, ◌⊎◌, inl, inr, List, [], ◌∷◌, ◌++◌, Option, Some, None, MatchOption, refl, sym, subst, ◌∙◌, append_assoc, append-nil}
use Rattle.just_path.specs.View.{place_under}
use Rattle.just_host_record.proofs.Writing.{entry_elsewhere, written_elsewhere}
use Rattle.just_host_record.specs.Changes.{with_tree, folder_of, DiffersAt}
use Rattle.just_host_record.specs.declared.entry.Look.{Look}
use Rattle.just_host_record.specs.World.{World}
use Rattle.just_sched_history.specs.declared.cache_plan.CachePlan.{CachePlan}
use Rattle.just_sched_history.specs.declared.event.Event.{Event}
use Rattle.just_sched_history.specs.declared.event.Event.TheVariants as event
use Rattle.just_sched_history.specs.declared.plan_node.PlanNode.{PlanNode}
use Rattle.just_sched_history.specs.Cached.{entry_of, saved_text, seen_at}
use Rattle.just_sched_history.specs.Effects.{Makes, MakesFrom, IsMadeBy}
use Rattle.just_sched_history.specs.Legal.{Run}
use Rattle.just_sched_history.specs.Nodes.{cache_at}
use Rattle.just_sched_history.specs.Touched.{Touches, same, looked, saved, IsLooked, IsWritten, IsTouched, IsCachePlace, IsTouchedAt}
use Rattle.just_sched_history.proofs.Stretch.{option_there}

-- a world that is as it was
untouched_yet : (nodes : List PlanNode) (told : Option World) → IsTouched nodes told told
untouched_yet nodes None = refl
untouched_yet nodes (Some w) = same

-- one change more of a world that is told
told_on : (nodes : List PlanNode) (first : Option World) (w v : World) → ((u : World) → Touches nodes u w → Touches nodes u v) → IsTouched nodes first (Some w) → IsTouched nodes first (Some v)
told_on nodes None w v step t = absurd (let no : ⊥ = cc in no)
told_on nodes (Some u) w v step t = step u t

module _ (s : Run) (first : Option World) where
  -- a look at an entry of a node's cache
  looked_on : (n : ℕ) (c : CachePlan) (sums : List (List ℕ)) (old new : Option World) → cache_at s.nodes n ≡ Some c → IsLooked (entry_of c sums) old new → IsTouched s.nodes first old → IsTouched s.nodes first new
  looked_on n c sums None new at is t = subst (λ w. IsTouched s.nodes first w) (sym is) t
  looked_on n c sums (Some w) new at is t =
      subst (λ o. IsTouched s.nodes first o) (sym is.2) (told_on s.nodes first w (with_tree w is.0) (λ u d. looked w n c sums is.0 d at is.1) t)

  -- an entry that is saved
  saved_on : (n : ℕ) (c : CachePlan) (sums : List (List ℕ)) (old new : Option World) → cache_at s.nodes n ≡ Some c → IsWritten (entry_of c sums) (saved_text c) old new → IsTouched s.nodes first old → IsTouched s.nodes first new
  saved_on n c sums None new at is t = subst (λ w. IsTouched s.nodes first w) (sym is) t
  saved_on n c sums (Some w) new at is t =
      subst (λ o. IsTouched s.nodes first o) (sym is.2) (told_on s.nodes first w (with_tree w is.0) (λ u d. saved w n c sums is.0 d at is.1) t)

  look_by : (n : ℕ) (sums : List (List ℕ)) (old new : Option World) (o : Option CachePlan) → cache_at s.nodes n ≡ o → MatchOption o ⊥ (λ c. IsLooked (entry_of c sums) old new) → IsTouched s.nodes first old → IsTouched s.nodes first new
  look_by n sums old new None at is t = absurd is
  look_by n sums old new (Some c) at is t = looked_on n c sums old new at is t

  save_by : (h : List Event) (n : ℕ) (old new : Option World) (o : Option CachePlan) → cache_at s.nodes n ≡ o → MatchOption o ⊥ (λ c. MatchOption (seen_at h n) ⊥ (λ seen. IsWritten (entry_of c seen.0) (saved_text c) old new)) → IsTouched s.nodes first old → IsTouched s.nodes first new
  save_by h n old new None at is t = absurd is
  save_by h n old new (Some c) at is t =
      let x = option_there (λ (seen : List (List ℕ) × Look). IsWritten (entry_of c seen.0) (saved_text c) old new) (seen_at h n) is in
      saved_on n c x.0.0 old new at x.1 t

  -- what an event makes of a world touches entries of the nodes' caches alone
  touched_by : (h : List Event) (e : Event) (old new : Option World) → Makes s h e old new → IsTouched s.nodes first old → IsTouched s.nodes first new
  touched_by h (event.Looked n sums seen) old new is t = look_by n sums old new (cache_at s.nodes n) refl is t
  touched_by h (event.Saved n) old new is t = save_by h n old new (cache_at s.nodes n) refl is t
  touched_by h _ old new is t = subst (λ w. IsTouched s.nodes first w) (sym is) t

  -- so do the events of a history
  touched_from : (before later : List Event) (old new : Option World) → MakesFrom s before later old new → IsTouched s.nodes first old → IsTouched s.nodes first new
  touched_from before [] old new is t = subst (λ w. IsTouched s.nodes first w) (sym is) t
  touched_from before (e ∷ later) old new is t = touched_from (before ++ e ∷ []) later is.0 new is.2 (touched_by before e old is.0 is.1 t)

-- what a history makes of a world touches entries of the nodes' caches alone
pub made_touched : (s : Run) (h : List Event) (told new : Option World) → IsMadeBy s h told new → IsTouched s.nodes told new
made_touched s h told new is = touched_from s told [] h told new is (untouched_yet s.nodes told)

-- ---- one event more

makes_more : (s : Run) (before h : List Event) (e : Event) (first old new : Option World) → MakesFrom s before h first old → Makes s (before ++ h) e old new → MakesFrom s before (h ++ e ∷ []) first new
makes_more s before [] e first old new is makes =
    (new, subst (λ k. Makes s k e first new) (append-nil before) (subst (λ w. Makes s (before ++ []) e w new) is makes), refl)
makes_more s before (x ∷ h) e first old new is makes =
    (is.0, is.1, makes_more s (before ++ x ∷ []) h e is.0 old new is.2 (subst (λ k. Makes s k e old new) (sym (append_assoc before (x ∷ []) h)) makes))

-- what a history made of a world goes on by what an event makes
pub made_more : (s : Run) (h : List Event) (e : Event) (first old new : Option World) → IsMadeBy s h first old → Makes s h e old new → IsMadeBy s (h ++ e ∷ []) first new
made_more s h e first old new is makes = makes_more s [] h e first old new is makes

-- ---- where that differs

-- what a run that starts no child changes of a told world stands at the places of its caches
pub touched_places : (nodes : List PlanNode) (w v : World) → Touches nodes w v → DiffersAt (IsCachePlace nodes w) w v
touched_places nodes w _ same = record { tree = λ q apart. refl; current = refl; environ = refl; input = refl; disk = λ untold. untold }
touched_places nodes w _ (looked u n c sums tree d at made) =
    let r = touched_places nodes w u d in
    record {
      tree = λ q apart. entry_elsewhere u (entry_of c sums) tree made q (λ of. apart (n, c, sums, at, inl (subst (λ current. (q ≡ place_under current (entry_of c sums)) ⊎ (q ≡ folder_of (place_under current (entry_of c sums)))) r.current of))) ∙ r.tree q apart;
      current = r.current;
      environ = r.environ;
      input = r.input;
      disk = r.disk;
    }
touched_places nodes w _ (saved u n c sums tree d at made) =
    let r = touched_places nodes w u d in
    record {
      tree = λ q apart. written_elsewhere u (entry_of c sums) (saved_text c) tree made q (λ to. apart (n, c, sums, at, inr (u, d, to))) ∙ r.tree q apart;
      current = r.current;
      environ = r.environ;
      input = r.input;
      disk = r.disk;
    }

-- the same of a world that may not be told
pub touched_told : (nodes : List PlanNode) (told new : Option World) → IsTouched nodes told new → IsTouchedAt nodes told new
touched_told nodes None new t = t
touched_told nodes (Some w) (Some v) t = touched_places nodes w v t
touched_told nodes (Some w) None t = absurd t
