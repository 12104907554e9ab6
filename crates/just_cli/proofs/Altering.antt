-- What temporary folders make of a told world, as they are made and as they are removed.
use Rattle.std.proofs.Common.{◌≡◌, ◌++◌, ◌||◌, inl, inr, ℕ, Bool, true, false, true≢false, cond, List, [], ◌∷◌, Contains, Option, Some, None, Result, Ok, Err, MatchOption, refl, sym, ◌∙◌, ap, subst, append_assoc, append-nil, arith}
use Rattle.std.specs.List.{list_any}
use Rattle.std.specs.Prelude.{codes}
use Rattle.std.specs.Str.{bytes_eq}
use Rattle.std.specs.FinMap.{get, insert, remove, get-remove}
use Rattle.std.proofs.lemmas.Cmp.{nat_list_cmp_total}
use Rattle.std.proofs.lemmas.Map.Text.{is_eq-slice_cmp}
use Rattle.std.proofs.lemmas.Slice.Eq.{bytes_eq-Decides}
use Rattle.std.proofs.lemmas.List.Elements.{Contains-append_left, Contains-append_right}
use Rattle.std.proofs.lemmas.List.Folds.{list_any-append}
use Rattle.just_path.specs.declared.host.Miss.{Miss}
use Rattle.just_host_record.specs.declared.entry.Entry.{Entry}
use Rattle.just_host_record.specs.declared.entry.Entry.TheVariants as entry
use Rattle.just_host_record.specs.declared.entry.HostFault.{HostFault}
use Rattle.just_host_record.specs.declared.entry.HostFault.TheVariants as fault
use Rattle.just_host_record.specs.declared.tree.Thing.{Thing}
use Rattle.just_host_record.specs.declared.tree.Thing.TheVariants as thing
use Rattle.just_host_record.specs.Changes.{with_tree, place_written, runs, written, DiffersAt}
use Rattle.just_host_record.specs.Folders.{Removes as RemovesPath}
use Rattle.just_host_record.specs.Record.{refused, gained, is_failed}
use Rattle.just_host_record.specs.Sights.{Tree}
use Rattle.just_host_record.specs.World.{World, Moment}
use Rattle.just_host_record.proofs.Moments.{moment_by}
use Rattle.just_host_record.proofs.Writing.{put_elsewhere, put_there, written_elsewhere, written_there}
use Rattle.just_sched_history.specs.declared.plan_node.PlanNode.{PlanNode}
use Rattle.just_sched_history.specs.Touched.{IsTouched}
use Rattle.just_search.specs.Files.{Makes, Writes, file_in}
use Rattle.just_search.specs.Removals.{with_entries, IsWithin, IsAnswered, IsTried, Clears, RemovesFolder, RemovesAll, RemovesSome}
use Rattle.just_search.proofs.Placing.{apart_texts}
use Rattle.just_cli.specs.Altered.{LeadsTo, IsLedTo, PutsNoLink, Alters, IsAltered, EndsAsItWas, StaysAsItWas}
use Rattle.just_cli.specs.Record.{Removes, AreRefusals, EndsBehind}

-- ---- worlds that are led to

-- a world that is as it was
pub altered_same : (folders : List (List ℕ)) (nodes : List PlanNode) (told after : Option World) → after ≡ told → IsAltered folders nodes told after
altered_same folders nodes None after is = is
altered_same folders nodes (Some w) after is = subst (λ o. MatchOption o ⊥ (λ v. Alters folders nodes w v)) (sym is) Alters.same

alters_then : (folders : List (List ℕ)) (nodes : List PlanNode) (w u v : World) → Alters folders nodes w u → Alters folders nodes u v → Alters folders nodes w v
alters_then folders nodes w u v a Alters.same = a
alters_then folders nodes w u v a (Alters.within x y b d free) = Alters.within x v (alters_then folders nodes w u x a b) d free
alters_then folders nodes w u v a (Alters.cached x y b t) = Alters.cached x v (alters_then folders nodes w u x a b) t

pub altered_then : (folders : List (List ℕ)) (nodes : List PlanNode) (a b c : Option World) → IsAltered folders nodes a b → IsAltered folders nodes b c → IsAltered folders nodes a c
altered_then folders nodes None b c p q = subst (λ o. IsAltered folders nodes o c) p q
altered_then folders nodes (Some w) None c p q = absurd p
altered_then folders nodes (Some w) (Some u) None p q = absurd q
altered_then folders nodes (Some w) (Some u) (Some v) p q = alters_then folders nodes w u v p q

-- what a run without children makes of it is led to by its caches
pub altered_touched : (folders : List (List ℕ)) (nodes : List PlanNode) (told after : Option World) → IsTouched nodes told after → IsAltered folders nodes told after
altered_touched folders nodes None after t = t
altered_touched folders nodes (Some w) None t = absurd t
altered_touched folders nodes (Some w) (Some v) t = Alters.cached w v Alters.same t

-- more folders lead to more
module _ (some all : List (List ℕ)) (among : (folder : List ℕ) → Contains some folder → Contains all folder) (nodes : List PlanNode) where
  led_more : (w : World) (place : List ℕ) → IsLedTo some w place → IsLedTo all w place
  led_more w place (folder, path, has, within, leads) = (folder, path, among folder has, within, leads)

  differs_more : (u v : World) → DiffersAt (IsLedTo some u) u v → DiffersAt (IsLedTo all u) u v
  differs_more u v d = record { tree = λ place apart. d.tree place (λ led. apart (led_more u place led)); current = d.current; environ = d.environ; input = d.input; disk = d.disk }

  alters_more : (w v : World) → Alters some nodes w v → Alters all nodes w v
  alters_more w v Alters.same = Alters.same
  alters_more w v (Alters.within u y a d free) = Alters.within u v (alters_more w u a) (differs_more u v d) free
  alters_more w v (Alters.cached u y a t) = Alters.cached u v (alters_more w u a) t

  pub altered_more : (told after : Option World) → IsAltered some nodes told after → IsAltered all nodes told after
  altered_more None after a = a
  altered_more (Some w) None a = absurd a
  altered_more (Some w) (Some v) a = alters_more w v a

-- ---- no link is put

-- a thing that is put and is no link
link_put : (tree : Tree) (place q target : List ℕ) (t : Thing) → (◌≡◌ {A = Option Thing} (Some t) (Some (thing.Link target)) → ⊥) → (b : Bool) → bytes_eq q place ≡ b → get (insert tree place t) q ≡ Some (thing.Link target) → get tree q ≡ Some (thing.Link target)
link_put tree place q target t other true e is =
    absurd (other (sym (put_there tree place t) ∙ (ap (λ k. get (insert tree place t) k) (sym ((bytes_eq-Decides q place).0 e)) ∙ is)))
link_put tree place q target t other false e is = sym (put_elsewhere tree place q t (λ same. true≢false (sym ((bytes_eq-Decides q place).1 same) ∙ e))) ∙ is

folder_no_link : (tree : Tree) (place : List ℕ) → PutsNoLink tree (insert tree place thing.Folder)
folder_no_link tree place q target is = link_put tree place q target thing.Folder (λ same. let no : ⊥ = cc in no) (bytes_eq q place) refl is

-- a file that is written
written_link : (w : World) (path text place : List ℕ) (tree : Tree) → written w path text ≡ Ok tree → (may : Bool) → place_written w path ≡ Ok place → get tree place ≡ Some (thing.File text may)
    → (q target : List ℕ) (b : Bool) → bytes_eq q place ≡ b → get tree q ≡ Some (thing.Link target) → get w.tree q ≡ Some (thing.Link target)
written_link w path text place tree new may at there q target true e is =
    let never : ◌≡◌ {A = Option Thing} (Some (thing.File text may)) (Some (thing.Link target)) = sym there ∙ (ap (λ k. get tree k) (sym ((bytes_eq-Decides q place).0 e)) ∙ is) in
    absurd (let no : ⊥ = cc in no)
written_link w path text place tree new may at there q target false e is =
    sym (written_elsewhere w path text tree new q (λ to. let same : q ≡ place = cc in true≢false (sym ((bytes_eq-Decides q place).1 same) ∙ e))) ∙ is

written_no_link : (w : World) (path text : List ℕ) (tree : Tree) → written w path text ≡ Ok tree → PutsNoLink w.tree tree
written_no_link w path text tree new q target is =
    let t = written_there w path text tree new in
    written_link w path text t.0 tree new (runs (get w.tree t.0)) t.1 t.2 q target (bytes_eq q t.0) refl is

-- what is removed
link_removed : (tree : Tree) (place q target : List ℕ) (b : Bool) → bytes_eq q place ≡ b → get (remove tree place) q ≡ Some (thing.Link target) → get tree q ≡ Some (thing.Link target)
link_removed tree place q target true e is =
    let never : ◌≡◌ {A = Option Thing} None (Some (thing.Link target)) = sym (get-remove nat_list_cmp_total tree place q ∙ ap (λ b. cond b None (get tree q)) (is_eq-slice_cmp q place ∙ e)) ∙ is in
    absurd (let no : ⊥ = cc in no)
link_removed tree place q target false e is = sym (get-remove nat_list_cmp_total tree place q ∙ ap (λ b. cond b None (get tree q)) (is_eq-slice_cmp q place ∙ e)) ∙ is

removed_no_link : (tree : Tree) (place : List ℕ) → PutsNoLink tree (remove tree place)
removed_no_link tree place q target is = link_removed tree place q target (bytes_eq q place) refl is

-- ---- a folder and its file

pub has_first : (folder : List ℕ) (folders : List (List ℕ)) → Contains (folder ∷ folders) folder
has_first folder folders = (0, omega arith, refl)

-- a folder that was made
pub altered_made : (nodes : List PlanNode) (told after : Option World) (parent : Option (List ℕ)) (folder : List ℕ) → Makes told after parent (Ok folder) → IsAltered (folder ∷ []) nodes told after
altered_made nodes None after parent folder is = is
altered_made nodes (Some w) after parent folder makes =
    subst (λ o. MatchOption o ⊥ (λ v. Alters (folder ∷ []) nodes w v)) (sym makes.1)
    (Alters.within w (with_tree w (insert w.tree folder thing.Folder)) Alters.same
    (record { tree = λ q apart. put_elsewhere w.tree folder q thing.Folder (λ same. apart (folder, folder, has_first folder [], IsWithin.itself, LeadsTo.made same)); current = refl; environ = refl; input = refl; disk = λ e. e })
    (folder_no_link w.tree folder))

-- none was made
pub unmade : (told after : Option World) (parent : Option (List ℕ)) (io : HostFault) → Makes told after parent (Err io) → after ≡ told
unmade None after parent io is = is
unmade (Some w) after parent (fault.Missed m) is = is.1
unmade (Some w) after parent (fault.Failed c) is = is
unmade (Some w) after parent fault.NoMemory is = is

-- a file that was written to one
pub altered_written : (nodes : List PlanNode) (told after : Option World) (folder text : List ℕ) → Writes told after folder text (Ok tt) → IsAltered (folder ∷ []) nodes told after
altered_written nodes None after folder text is = is
altered_written nodes (Some w) after folder text (tree, is, new) =
    subst (λ o. MatchOption o ⊥ (λ v. Alters (folder ∷ []) nodes w v)) (sym new)
    (Alters.within w (with_tree w tree) Alters.same
    (record { tree = λ q apart. written_elsewhere w (file_in folder) text tree is q (λ to. apart (folder, file_in folder, has_first folder [], IsWithin.item folder (codes "justfile") IsWithin.itself refl, LeadsTo.written to)); current = refl; environ = refl; input = refl; disk = λ e. e })
    (written_no_link w (file_in folder) text tree is))

-- none was, since it missed
pub unwritten_same : (told after : Option World) (folder text : List ℕ) (m : Miss) → Writes told after folder text (Err (fault.Missed m)) → after ≡ told
unwritten_same None after folder text m is = is
unwritten_same (Some w) after folder text m is = is.1

-- ---- what no entry of a list passes

first_of : (a b : Bool) → (a || b) ≡ false → a ≡ false
first_of true b e = absurd (cc)
first_of false b e = refl

second_of : (a b : Bool) → (a || b) ≡ false → b ≡ false
second_of true b e = absurd (cc)
second_of false b e = e

pub quiet_first : (p : Entry → Bool) (xs ys : List Entry) → list_any p (xs ++ ys) ≡ false → list_any p xs ≡ false
quiet_first p xs ys none = first_of (list_any p xs) (list_any p ys) (sym (list_any-append p xs ys) ∙ none)

pub quiet_rest : (p : Entry → Bool) (xs ys : List Entry) → list_any p (xs ++ ys) ≡ false → list_any p ys ≡ false
quiet_rest p xs ys none = second_of (list_any p xs) (list_any p ys) (sym (list_any-append p xs ys) ∙ none)

-- ---- removals

all_refusals : (xs ys : List Entry) → AreRefusals xs → AreRefusals ys → AreRefusals (xs ++ ys)
all_refusals [] ys h g = g
all_refusals (x ∷ xs) ys h g = (h.0, all_refusals xs ys h.1 g)

-- the record gained refusals alone; where no call failed, paths at or below these folders lead from the one world to the other
abbrev pub Clearing : List (List ℕ) → Moment → Moment → Type 0
Clearing folders before after =
    (rest : List Entry) × (after.entries ≡ before.entries ++ rest) × AreRefusals rest × ((nodes : List PlanNode) → list_any is_failed rest ≡ false → IsAltered folders nodes before.world after.world)

cleared_none : (folders : List (List ℕ)) (told : Moment) → Clearing folders told told
cleared_none folders told = ([], sym (append-nil told.entries), tt, λ nodes quiet. altered_same folders nodes told.world told.world refl)

cleared_then : (folders : List (List ℕ)) (a b c : Moment) → Clearing folders a b → Clearing folders b c → Clearing folders a c
cleared_then folders a b c (r, g, k, m) (s, h, l, n) = (
  r ++ s,
  h ∙ (ap (λ es. es ++ s) g ∙ append_assoc a.entries r s),
  all_refusals r s k l,
  λ nodes quiet. altered_then folders nodes a.world b.world c.world (m nodes (quiet_first is_failed r s quiet)) (n nodes (quiet_rest is_failed r s quiet)),
)

-- a listing that is refused
cleared_listing : (folders : List (List ℕ)) (told : Moment) (path : List ℕ) (io : HostFault) → Clearing folders told (with_entries told (refused path io))
cleared_listing folders told path (fault.Missed m) = (entry.Missed path m ∷ [], refl, (refl, tt), λ nodes quiet. altered_same folders nodes told.world told.world refl)
cleared_listing folders told path (fault.Failed c) = (entry.Failed c ∷ [], refl, (refl, tt), λ nodes quiet. altered_same folders nodes told.world told.world refl)
cleared_listing folders told path fault.NoMemory = ([], refl, tt, λ nodes quiet. altered_same folders nodes told.world told.world refl)

-- where nothing was removed, there stands what stood there
removed_elsewhere : (tree : Tree) (place q : List ℕ) → (q ≡ place → ⊥) → get (remove tree place) q ≡ get tree q
removed_elsewhere tree place q apart =
    get-remove nat_list_cmp_total tree place q ∙ ap (λ b. cond b None (get tree q)) (is_eq-slice_cmp q place ∙ apart_texts q place (bytes_eq q place) refl apart)

missed_same : (told after : Option World) (path : List ℕ) (m : Miss) → RemovesPath {A = Unit {0}} told after path (Err (fault.Missed m)) → after ≡ told
missed_same None after path m is = is
missed_same (Some w) after path m is = is.1

module _ (folders : List (List ℕ)) (folder path : List ℕ) (has : Contains folders folder) (within : IsWithin folder path) where
  altered_removed : (nodes : List PlanNode) (told after : Option World) (x : Unit {0}) → RemovesPath told after path (Ok x) → IsAltered folders nodes told after
  altered_removed nodes None after x is = is
  altered_removed nodes (Some w) after x (place, at, holds, is) =
      subst (λ o. MatchOption o ⊥ (λ v. Alters folders nodes w v)) (sym is)
      (Alters.within w (with_tree w (remove w.tree place)) Alters.same
      (record { tree = λ q apart. removed_elsewhere w.tree place q (λ same. apart (folder, path, has, within, LeadsTo.removed (at ∙ ap (λ p. Ok p) (sym same)))); current = refl; environ = refl; input = refl; disk = λ e. e })
      (removed_no_link w.tree place))

  cleared_by : (before after : Moment) (r : Result (Unit {0}) HostFault) → IsAnswered r → RemovesPath before.world after.world path r → after.entries ≡ before.entries ++ gained path (λ _. []) r → Clearing folders before after
  cleared_by before after (Ok x) answered removes leaves = ([], leaves, tt, λ nodes quiet. altered_removed nodes before.world after.world x removes)
  cleared_by before after (Err (fault.Missed m)) answered removes leaves =
      (entry.Missed path m ∷ [], leaves, (refl, tt), λ nodes quiet. altered_same folders nodes before.world after.world (missed_same before.world after.world path m removes))
  cleared_by before after (Err (fault.Failed c)) answered removes leaves = (entry.Failed c ∷ [], leaves, (refl, tt), λ nodes quiet. absurd (true≢false quiet))
  cleared_by before after (Err fault.NoMemory) answered removes leaves = absurd answered

  cleared_path : (before after : Moment) → IsTried path before after → Clearing folders before after
  cleared_path before after t = cleared_by before after t.result t.answered t.removes t.leaves

module _ (folders : List (List ℕ)) (folder : List ℕ) (has : Contains folders folder) where
  cleared_within : (before after : Moment) → Clears folder before after → Clearing folders before after
  cleared_within before after Clears.nothing = cleared_none folders before
  cleared_within before after (Clears.a_listing between path io clears own) =
      cleared_then folders before between (with_entries between (refused path io)) (cleared_within before between clears) (cleared_listing folders between path io)
  cleared_within before after (Clears.a_removal between now path clears within tried) =
      cleared_then folders before between now (cleared_within before between clears) (cleared_path folders folder path has within between now tried)

  cleared_folder : (before after : Moment) → RemovesFolder folder before after → Clearing folders before after
  cleared_folder before after (between, clears, tried) =
      cleared_then folders before between after (cleared_within before between clears) (cleared_path folders folder folder has IsWithin.itself between after tried)

cleared_all : (all : List (List ℕ)) (before : Moment) (folders : List (List ℕ)) (after : Moment) → RemovesAll before folders after
    → ((folder : List ℕ) → Contains folders folder → Contains all folder) → Clearing all before after
cleared_all all before folders after RemovesAll.none among = cleared_none all before
cleared_all all before folders after (RemovesAll.another first folder between now removed removes) among =
    cleared_then all before between now (cleared_all all before first between removed (λ f has. among f (Contains-append_left first (folder ∷ []) f has)))
    (cleared_folder all folder (among folder (Contains-append_right first (folder ∷ []) folder (has_first folder []))) between now removes)

cleared_some : (before after : Moment) (folders : List (List ℕ)) → RemovesSome before folders after → Clearing folders before after
cleared_some before after folders s =
    subst (λ (fs : List (List ℕ)). Clearing fs before after) (sym s.all)
    (cleared_then (s.first ++ s.next ∷ s.others) before s.between after
    (cleared_all (s.first ++ s.next ∷ s.others) before s.first s.between s.removed (λ f has. Contains-append_left s.first (s.next ∷ s.others) f has))
    (cleared_within (s.first ++ s.next ∷ s.others) s.next (Contains-append_right s.first (s.next ∷ s.others) s.next (has_first s.next s.others)) s.between after s.cleared))

pub clearing : (folders : List (List ℕ)) (before after : Moment) → Removes folders before after → Clearing folders before after
clearing folders before after (inl all) = cleared_all folders before folders after all.0 (λ f has. has)
clearing folders before after (inr some) = cleared_some before after folders some

-- ---- where no folder was made, none is removed

some_left : (xs ys : List (List ℕ)) (x : List ℕ) → xs ++ x ∷ ys ≡ [] → ⊥
some_left [] ys x is = let no : ⊥ = cc in no
some_left (y ∷ xs) ys x is = let no : ⊥ = cc in no

kept_all : (before : Moment) (folders : List (List ℕ)) (after : Moment) → RemovesAll before folders after → folders ≡ [] → after ≡ before
kept_all before folders after RemovesAll.none is = refl
kept_all before folders after (RemovesAll.another first folder between now removed removes) is = absurd (some_left first [] folder is)

pub removes_none : (folders : List (List ℕ)) (before after : Moment) → folders ≡ [] → Removes folders before after → after ≡ before
removes_none folders before after is (inl all) = kept_all before folders after all.0 is
removes_none folders before after is (inr s) = absurd (some_left s.first s.others s.next (sym s.all ∙ is))

-- ---- behind the book

-- an error that is told, or nothing, and the removal of the folders
pub behind_book : (folders : List (List ℕ)) (tells : List Entry → Type 0) (settled middle after : Moment) → (first : List Entry) × (middle.entries ≡ settled.entries ++ first) × tells first → middle.world ≡ settled.world
    → Removes folders middle after → EndsBehind folders tells settled after
behind_book folders tells settled middle after (first, is, told) world removes =
    let c = clearing folders middle after removes in
    record {
      first = first;
      refusals = c.0;
      grew = c.1 ∙ (ap (λ es. es ++ c.0) is ∙ append_assoc settled.entries first c.0);
      told_error = told;
      are = c.2;
      removed = subst (λ (m : Moment). Removes folders m after) (moment_by middle (with_entries settled first) is world) removes;
    }

-- what the end of a run makes of a told world
pub ends_as_it_was : (folders : List (List ℕ)) (nodes : List PlanNode) (told between settled after : Option World) → (folders ≡ [] → between ≡ told) → IsAltered folders nodes told between → IsTouched nodes between settled
    → (folders ≡ [] → after ≡ settled) → IsAltered folders nodes settled after → EndsAsItWas folders nodes told after
ends_as_it_was [] nodes told between settled after still made touched none removed = subst (λ w. IsTouched nodes told w) (sym (none refl)) (subst (λ w. IsTouched nodes w settled) (still refl) touched)
ends_as_it_was (folder ∷ folders) nodes told between settled after still made touched none removed =
    altered_then (folder ∷ folders) nodes told between after made (altered_then (folder ∷ folders) nodes between settled after (altered_touched (folder ∷ folders) nodes between settled touched) removed)

pub stays_as_it_was : (folders : List (List ℕ)) (told between after : Option World) → (folders ≡ [] → between ≡ told) → IsAltered folders [] told between → (folders ≡ [] → after ≡ between) → IsAltered folders [] between after
    → StaysAsItWas folders told after
stays_as_it_was [] told between after still made none removed = none refl ∙ still refl
stays_as_it_was (folder ∷ folders) told between after still made none removed = altered_then (folder ∷ folders) [] told between after made removed
