-- A temporary folder, and the file in it: where they stand, and what else of a told world they change.
use Rattle.std.proofs.Common.{◌≡◌, ℕ, Bool, true, false, true≢false, cond, not, ◌||◌, ◌==◌, List, [], ◌∷◌, ◌++◌, map, fold, is_some, Option, Some, None, option_map, refl, ap, sym, ◌∙◌, subst, append_assoc, arith}
use Rattle.std.specs.Prelude.{Result, Ok, Err, codes}
use Rattle.std.specs.FinMap.{get, insert, get-insert}
use Rattle.std.specs.List.{list_any, Contains, AllByRecursion}
use Rattle.std.specs.Str.{bytes_eq}
use Rattle.std.proofs.lemmas.Cmp.{nat_list_cmp_total}
use Rattle.std.proofs.lemmas.List.{append-nil, map-append}
use Rattle.std.proofs.lemmas.List.Sums.{fold-append}
use Rattle.std.proofs.lemmas.Map.Text.{is_eq-slice_cmp}
use Rattle.std.proofs.lemmas.Slice.Eq.{bytes_eq-Decides}
use Rattle.just_path.specs.Path.{is_absolute, pushed}
use Rattle.just_path.specs.Clean.{cleaned, normal_form, normal_form_with, without_parents, after_name, or_current, path_from}
use Rattle.just_path.specs.Comps.{Comp, prefix as prefixed, root, current, parent, normal, comp_text, dot, dots, slash, is_empty, pieces, comps_of_piece, names, comps}
use Rattle.just_path.specs.View.{Sight, Sights, View, IsCleanView, asks_folder, named_place, followed_place, place_behind, folder_place, place_told, canonical_told, target_of, target_seen, sight, meta_of, meta_seen, sees_folder, is_name, absence}
use Rattle.just_path.specs.declared.host.Miss.{Miss}
use Rattle.just_path.specs.declared.host.Miss.TheVariants as miss
use Rattle.just_path.proofs.Laws.{absolute-pushed, absolute-cleaned, cleaned-cleaned, clean_absolute_is_absolute}
use Rattle.just_path.proofs.NormalForms.{drops_pair}
use Rattle.just_path.proofs.Pushes.{comps_pushed_relative, comps_absolute}
use Rattle.just_path.proofs.Truths.{and_right}
use Rattle.just_host_record.specs.declared.entry.HostFault.{HostFault}
use Rattle.just_host_record.specs.declared.entry.HostFault.TheVariants as fault
use Rattle.just_host_record.specs.declared.tree.Thing.{Thing}
use Rattle.just_host_record.specs.declared.tree.Thing.TheVariants as thing
use Rattle.just_host_record.specs.Sights.{Tree, sight_of, seen}
use Rattle.just_host_record.specs.World.{World, view_of}
use Rattle.just_host_record.specs.Changes.{with_tree, folder_of, holds_folder, file_at, is_not_found, is_open_place, new_place, place_found, place_written}
use Rattle.just_host_record.specs.Folders.{IsParent, IsFresh}
use Rattle.just_host_record.proofs.Laws.{sight_seen}
use Rattle.just_host_record.proofs.Writing.{written_elsewhere}
use Rattle.just_env.specs.declared.search_error.SearchError.{SearchError}
use Rattle.just_search.specs.declared.search_result.Search.{Search}
use Rattle.just_search.specs.declared.location.Location.{Location}
use Rattle.just_search.specs.Files.{prefix, file_in, Makes, WritesAt, WritesText, Materializes}
use Rattle.just_search.specs.Places.{NamesItem, StandsInFolders, IsInFolders, MakesInFolders}
use Rattle.just_search.specs.Removals.{is_plain, IsWithin}
use Rattle.just_search.proofs.Items.{plain_lacks, plain_filled, plain_no_dot, plain_no_dots, plain_relative, pushed_item, or_left, or_right, not_true}
use Rattle.just_search.proofs.Placing.{asked_is, named_is, under_absolute, Moves, moves_none, moves_then, moves_wider, moves_failed, moves_to, moves_changes, apart_texts}

-- ---- names at the end of a path

pieces_whole : (t : List ℕ) → list_any (λ b. b == 47) t ≡ false → pieces t ≡ t ∷ []
pieces_whole [] e = refl
pieces_whole (b ∷ t) e =
    let first : (b == 47) ≡ false = or_left (b == 47) (list_any (λ c. c == 47) t) e in
    let rest : pieces t ≡ t ∷ [] = pieces_whole t (or_right (b == 47) (list_any (λ c. c == 47) t) e) in
    rw first (rw rest refl)

apart_from : (n t : List ℕ) (b : Bool) → bytes_eq n t ≡ b → (n ≡ t → ⊥) → b ≡ false
apart_from n t b e apart = apart_texts n t b e apart

filled_name : (n : List ℕ) → (n ≡ [] → ⊥) → is_empty n ≡ false
filled_name [] apart = absurd (apart refl)
filled_name (b ∷ n) apart = refl

piece_named : (n : List ℕ) → is_plain n ≡ true → comps_of_piece n ≡ normal n ∷ []
piece_named n plain =
    let one : is_empty n ≡ false = filled_name n (plain_filled n plain) in
    let two : bytes_eq n dot ≡ false = apart_from n dot (bytes_eq n dot) refl (plain_no_dot n plain) in
    let three : bytes_eq n dots ≡ false = apart_from n dots (bytes_eq n dots) refl (plain_no_dots n plain) in
    rw one (rw two (rw three refl))

names_plain : (n : List ℕ) → is_plain n ≡ true → names n ≡ normal n ∷ []
unfolding names
names_plain n plain =
    let whole : pieces n ≡ n ∷ [] = pieces_whole n (plain_lacks n plain) in
    rw whole (append-nil (comps_of_piece n) ∙ piece_named n plain)

names_dots : names dots ≡ parent ∷ []
unfolding names
names_dots = refl

comps_behind : (base p : List ℕ) → is_absolute base ≡ true → is_absolute p ≡ false → comps (pushed base p) ≡ comps base ++ names p
comps_behind [] p h k = absurd cc
comps_behind (x ∷ b) p h k = comps_pushed_relative x b p k

without_last : (cs : List Comp) (n : List ℕ) → without_parents (cs ++ normal n ∷ []) ≡ without_parents cs ++ normal n ∷ []
without_last [] n = refl
without_last (prefixed t ∷ cs) n = refl
without_last (root ∷ cs) n = refl
without_last (current ∷ cs) n = refl
without_last (parent ∷ cs) n = without_last cs n
without_last (normal m ∷ cs) n = refl

after_last : (m : List ℕ) (cs : List Comp) (n : List ℕ) → after_name m (cs ++ normal n ∷ []) ≡ after_name m cs ++ normal n ∷ []
after_last m [] n = refl
after_last m (prefixed t ∷ cs) n = refl
after_last m (root ∷ cs) n = refl
after_last m (current ∷ cs) n = refl
after_last m (parent ∷ cs) n = refl
after_last m (normal k ∷ cs) n = refl

with_last : (c : Comp) (cs : List Comp) (n : List ℕ) → normal_form_with c (cs ++ normal n ∷ []) ≡ normal_form_with c cs ++ normal n ∷ []
with_last (prefixed t) cs n = refl
with_last root cs n = ap (λ ds. root ∷ ds) (without_last cs n)
with_last current cs n = refl
with_last parent cs n = refl
with_last (normal m) cs n = after_last m cs n

form_last : (cs : List Comp) (n : List ℕ) → normal_form (cs ++ normal n ∷ []) ≡ normal_form cs ++ normal n ∷ []
form_last [] n = refl
form_last (c ∷ cs) n = ap (λ ds. normal_form_with c ds) (form_last cs n) ∙ with_last c (normal_form cs) n

form_absolute : (f : List ℕ) → is_absolute f ≡ true → normal_form (comps f) ≡ root ∷ without_parents (normal_form (names f))
form_absolute f h = ap normal_form (comps_absolute f h)

path_last : (ws : List Comp) (n : List ℕ) → path_from ((root ∷ ws) ++ normal n ∷ []) ≡ pushed (path_from (root ∷ ws)) n
path_last ws n = ap (λ ts. fold pushed [] ts) (map-append comp_text (root ∷ ws) (normal n ∷ [])) ∙ fold-append pushed [] (map comp_text (root ∷ ws)) (n ∷ [])

-- the clean form of a path that ends in a name
cleaned_named : (f n : List ℕ) → is_absolute f ≡ true → is_plain n ≡ true → cleaned (pushed f n) ≡ pushed (cleaned f) n
unfolding cleaned
cleaned_named f n h plain =
    let ws = without_parents (normal_form (names f)) in
    let form : normal_form (comps (pushed f n)) ≡ (root ∷ ws) ++ normal n ∷ [] =
    ap normal_form (comps_behind f n h (plain_relative n plain) ∙ ap (λ ns. comps f ++ ns) (names_plain n plain)) ∙ form_last (comps f) n ∙ ap (λ cs. cs ++ normal n ∷ []) (form_absolute f h) in
    ap (λ cs. path_from (or_current cs)) form ∙ path_last ws n ∙ ap (λ t. pushed t n) (sym (ap (λ cs. path_from (or_current cs)) (form_absolute f h)))

-- and that of the folder that its item is in
cleaned_above : (f n : List ℕ) → is_absolute f ≡ true → is_plain n ≡ true → cleaned (pushed (pushed f n) dots) ≡ cleaned f
unfolding cleaned
cleaned_above f n h plain =
    let within : comps (pushed f n) ≡ comps f ++ normal n ∷ [] = comps_behind f n h (plain_relative n plain) ∙ ap (λ ns. comps f ++ ns) (names_plain n plain) in
    let above : comps (pushed (pushed f n) dots) ≡ comps f ++ normal n ∷ parent ∷ [] =
    comps_behind (pushed f n) dots (absolute-pushed f n h) refl ∙ ap (λ ns. comps (pushed f n) ++ ns) names_dots ∙ ap (λ cs. cs ++ parent ∷ []) within ∙ append_assoc (comps f) (normal n ∷ []) (parent ∷ []) in
    let form : normal_form (comps (pushed (pushed f n) dots)) ≡ normal_form (comps f) = ap normal_form above ∙ drops_pair (comps f) [] n ∙ ap normal_form (append-nil (comps f)) in
    ap (λ cs. path_from (or_current cs)) form

-- ---- the folder

prefixed_plain : (rest : List ℕ) → is_name rest ≡ true → is_plain (prefix ++ rest) ≡ true
prefixed_plain rest h =
    let lacks : list_any (λ b. b == 47) rest ≡ false = not_true (list_any (λ b. b == 47) rest) (and_right (not (is_empty rest)) (not (list_any (λ b. b == 47) rest)) h) in
    rw lacks refl

folder_case : (b : Bool) (p f : List ℕ) (tree : Sights) → sees_folder (meta_seen p tree) ≡ b → ◌≡◌ {A = Result (List ℕ) Miss} (cond b (Ok p) (Err miss.NotFolder)) (Ok f) → sees_folder (meta_seen f tree) ≡ true
folder_case true p f tree is e =
    let same : p ≡ f = cc in
    subst (λ (x : List ℕ). sees_folder (meta_seen x tree) ≡ true) same is
folder_case false p f tree is e = absurd (let never : ⊥ = cc in never)

folder_seen : (tree : Sights) (r : Result (List ℕ) Miss) (f : List ℕ) → folder_place tree r ≡ Ok f → sees_folder (meta_seen f tree) ≡ true
folder_seen tree (Ok p) f e = folder_case (sees_folder (meta_seen p tree)) p f tree refl e
folder_seen tree (Err m) f e = absurd (let never : ⊥ = cc in never)

seen_case : (v : View) (f : List ℕ) (o : Option Sight) → IsCleanView v → sight f v.tree ≡ o → sees_folder (option_map meta_of o) ≡ true → is_absolute f ≡ true
seen_case v f None clean is sees = absurd (let never : ⊥ = cc in never)
seen_case v f (Some s) clean is sees = clean_absolute_is_absolute f (clean.places f s is)

parent_absolute : (w : World) (wanted : Option (List ℕ)) (f : List ℕ) → IsCleanView (view_of w) → IsParent w wanted f → is_absolute f ≡ true
parent_absolute w None f clean is = is
parent_absolute w (Some path) f clean is = seen_case (view_of w) f (sight f (seen w.tree)) clean refl (folder_seen (seen w.tree) (place_told path true (view_of w)) f is)

module _ (w : World) (f folder : List ℕ) (absolute : is_absolute f ≡ true) (fresh : IsFresh w f prefix folder) where
  abbrev name : List ℕ
  name = prefix ++ fresh.name.0

  plain : is_plain name ≡ true
  plain = prefixed_plain fresh.name.0 fresh.name.1

  made_at : folder ≡ pushed (cleaned f) name
  made_at = fresh.name.2 ∙ cleaned_named f name absolute plain

  made_named : NamesItem folder
  made_named = subst NamesItem (sym made_at) (pushed_item (cleaned f) name (absolute-cleaned f absolute) plain)

  made_clean : cleaned folder ≡ folder
  made_clean = ap cleaned fresh.name.2 ∙ cleaned-cleaned (pushed f name) ∙ sym fresh.name.2

-- ---- what stands in it

no_slash : (folder : List ℕ) (b : Bool) → bytes_eq folder slash ≡ b → asks_folder folder ≡ false → b ≡ false
no_slash folder true e off = absurd (true≢false (sym (ap asks_folder ((bytes_eq-Decides folder slash).0 e)) ∙ off))
no_slash folder false e off = refl

not_seen : (tree : Tree) (place : List ℕ) → get tree place ≡ None → sees_folder (meta_seen place (seen tree)) ≡ false
not_seen tree place none = ap (λ o. sees_folder (option_map meta_of o)) (sight_seen tree place ∙ ap (λ o. option_map sight_of o) none)

holds_none : (tree : Tree) (folder : List ℕ) → NamesItem folder → get tree folder ≡ None → holds_folder tree folder ≡ false
holds_none tree folder named none =
    let one : bytes_eq folder slash ≡ false = no_slash folder (bytes_eq folder slash) refl named.1 in
    let two : sees_folder (meta_seen folder (seen tree)) ≡ false = not_seen tree folder none in
    rw one two

module _ (tree : Tree) (folder n : List ℕ) (named : NamesItem folder) (clean : cleaned folder ≡ folder) (stands : StandsInFolders tree) (free : get tree folder ≡ None) (plain : is_plain n ≡ true) where
  above_item : folder_of (cleaned (pushed folder n)) ≡ folder
  above_item = ap (λ p. cleaned (pushed p dots)) (cleaned_named folder n named.0 plain ∙ ap (λ p. pushed p n) clean) ∙ cleaned_above folder n named.0 plain ∙ clean

  item_case : (o : Option Thing) → get tree (cleaned (pushed folder n)) ≡ o → o ≡ None
  item_case None e = refl
  item_case (Some t) e =
      let holds : holds_folder tree folder ≡ true = subst (λ (p : List ℕ). holds_folder tree p ≡ true) above_item (stands (cleaned (pushed folder n)) (ap (λ o. is_some o) e)) in
      absurd (true≢false (sym holds ∙ holds_none tree folder named free))

  no_item : get tree (cleaned (pushed folder n)) ≡ None
  no_item = item_case (get tree (cleaned (pushed folder n))) refl

-- ---- where a file is written

folder_or_none : (b : Bool) (o : Option Thing) → o ≡ None → target_of (option_map sight_of (cond b (Some thing.Folder) o)) ≡ None
folder_or_none true o none = refl
folder_or_none false o none = ap (λ x. target_of (option_map sight_of x)) none

no_link : (tree : Tree) (folder place : List ℕ) → get tree place ≡ None → target_seen place (seen (insert tree folder thing.Folder)) ≡ None
no_link tree folder place none =
    ap target_of (sight_seen (insert tree folder thing.Folder) place)
    ∙ ap (λ o. target_of (option_map sight_of o)) (get-insert nat_list_cmp_total tree folder thing.Folder place)
    ∙ folder_or_none _ (get tree place) none

plainly_followed : (tree : Sights) (place : List ℕ) (r : Result (List ℕ) Miss) → ((p : List ℕ) → r ≡ Ok p → target_seen p tree ≡ None) → followed_place true tree r ≡ Ok place → r ≡ Ok place
plainly_followed tree place (Ok p) none e = subst (λ (o : Option (List ℕ)). place_behind p tree o ≡ Ok place) (none p refl) e
plainly_followed tree place (Err m) none e = absurd (let never : ⊥ = cc in never)

module _ (w : World) (path : List ℕ) (named : NamesItem path) (none : target_seen (cleaned path) (seen w.tree) ≡ None) where
  found_at : (place : List ℕ) → canonical_told path (view_of w) ≡ Ok place → place ≡ cleaned path
  found_at place e =
      let followed : followed_place true (seen w.tree) (named_place w.current path (seen w.tree)) ≡ Ok place =
      asked_is path place (seen w.tree) (followed_place true (seen w.tree) (named_place w.current path (seen w.tree))) named.1 e in
      named_is w.current path place (seen w.tree) named.0
      (plainly_followed (seen w.tree) place (named_place w.current path (seen w.tree))
      (λ p is. subst (λ (x : List ℕ). target_seen x (seen w.tree) ≡ None) (sym (named_is w.current path p (seen w.tree) named.0 is)) none) followed)

  file_is : (place q : List ℕ) (o : Option Thing) → file_at place o ≡ Ok q → q ≡ place
  file_is place q (Some (thing.File bytes executable)) e = cc
  file_is place q (Some thing.Folder) e = absurd (let never : ⊥ = cc in never)
  file_is place q (Some (thing.Link target)) e = absurd (let never : ⊥ = cc in never)
  file_is place q None e = absurd (let never : ⊥ = cc in never)

  open_is : (a b : Bool) (place q : List ℕ) (k m : Miss) → ◌≡◌ {A = Result (List ℕ) Miss} (cond a (Err k) (cond b (Ok place) (Err m))) (Ok q) → q ≡ place
  open_is true b place q k m e = absurd (let never : ⊥ = cc in never)
  open_is false true place q k m e = cc
  open_is false false place q k m e = absurd (let never : ⊥ = cc in never)

  new_is : (b : Bool) (place q : List ℕ) (m : Miss) → cond b (new_place w.tree path place) (Err m) ≡ Ok q → q ≡ place
  new_is true place q m e = open_is (is_empty path || asks_folder path) (is_open_place w.tree place) place q miss.NotFound (absence place (seen w.tree)) e
  new_is false place q m e = absurd (let never : ⊥ = cc in never)

  found_is : (r : Result (List ℕ) Miss) (q : List ℕ) → ((p : List ℕ) → r ≡ Ok p → p ≡ cleaned path) → place_found w path r ≡ Ok q → q ≡ cleaned path
  found_is (Ok p) q at e = file_is p q (get w.tree p) e ∙ at p refl
  found_is (Err m) q at e = new_is (is_not_found m) (cleaned (pushed w.current path)) q m e ∙ under_absolute w.current path named.0

  written_is : (q : List ℕ) → place_written w path ≡ Ok q → q ≡ cleaned path
  written_is q e = found_is (canonical_told path (view_of w)) q found_at e

  writes_at : (after : Option World) (text : List ℕ) (r : Result (Unit {0}) HostFault) → WritesAt (Some w) after path text r → Moves (λ q. q ≡ cleaned path) (Some w) after
  writes_at after text (Ok x) (tree, is, now) =
      moves_to (λ q. q ≡ cleaned path) w (with_tree w tree) after now
      (record { tree = λ q apart. written_elsewhere w path text tree is q (λ at. apart (written_is q at)); current = refl; environ = refl; input = refl; disk = λ e. e })
  writes_at after text (Err (fault.Missed m)) writes = moves_none (λ q. q ≡ cleaned path) (Some w) after writes.1
  writes_at after text (Err (fault.Failed c)) writes =
      moves_wider (λ place. place_written w path ≡ Ok place) (λ q. q ≡ cleaned path) (Some w) after (λ q at. written_is q at) (moves_failed (λ place. place_written w path ≡ Ok place) w after writes)
  writes_at after text (Err fault.NoMemory) writes = moves_none (λ q. q ≡ cleaned path) (Some w) after writes

-- ---- a justfile as a file

put_elsewhere : (tree : Tree) (place q : List ℕ) (t : Thing) → (q ≡ place → ⊥) → get (insert tree place t) q ≡ get tree q
put_elsewhere tree place q t apart =
    get-insert nat_list_cmp_total tree place t q
    ∙ ap (λ b. cond b (Some t) (get tree q)) (is_eq-slice_cmp q place ∙ apart_texts q place (bytes_eq q place) refl apart)

unmade : (w : World) (after : Option World) (wanted : Option (List ℕ)) (io : HostFault) → Makes (Some w) after wanted (Err io) → after ≡ Some w
unmade w after wanted (fault.Missed m) is = is.1
unmade w after wanted (fault.Failed c) is = is
unmade w after wanted fault.NoMemory is = is

only : (folder : List ℕ) → Contains (folder ∷ []) folder
only folder = (0, omega arith, refl)

module _ (w : World) (wanted : Option (List ℕ)) (clean : IsCleanView (view_of w)) (stands : StandsInFolders w.tree) where
  folder_moves : (after : Option World) (folder : List ℕ) → Makes (Some w) after wanted (Ok folder) → Moves (IsInFolders (folder ∷ [])) (Some w) after × NamesItem folder
  folder_moves after folder ((f, is, fresh), now) =
      let absolute = parent_absolute w wanted f clean is in
      let tree = insert w.tree folder thing.Folder in (
        moves_to (IsInFolders (folder ∷ [])) w (with_tree w tree) after now
            (record { tree = λ q apart. put_elsewhere w.tree folder q thing.Folder (λ e. apart (folder, folder, only folder, IsWithin.itself, e ∙ sym (made_clean w f folder absolute fresh))); current = refl; environ = refl; input = refl; disk = λ e. e }),
        made_named w f folder absolute fresh,
      )

  file_moves : (between after : Option World) (folder text : List ℕ) (r : Result (Unit {0}) HostFault) → Makes (Some w) between wanted (Ok folder) → WritesAt between after (file_in folder) text r
      → Moves (IsInFolders (folder ∷ [])) (Some w) after × NamesItem folder
  file_moves between after folder text r ((f, is, fresh), now) writes =
      let absolute = parent_absolute w wanted f clean is in
      let named = made_named w f folder absolute fresh in
      let at = made_clean w f folder absolute fresh in
      let justfile = codes "justfile" in
      let file_named : NamesItem (file_in folder) = pushed_item folder justfile named.0 refl in
      let middle = with_tree w (insert w.tree folder thing.Folder) in
      let link : target_seen (cleaned (file_in folder)) (seen middle.tree) ≡ None = no_link w.tree folder (cleaned (file_in folder)) (no_item w.tree folder justfile named at stands fresh.free refl) in
      let write : WritesAt (Some middle) after (file_in folder) text r = subst (λ (o : Option World). WritesAt o after (file_in folder) text r) now writes in
      let second : Moves (λ q. q ≡ cleaned (file_in folder)) (Some middle) after = writes_at middle (file_in folder) file_named link after text r write in
      let first = folder_moves between folder ((f, is, fresh), now) in
      let onwards : Moves (IsInFolders (folder ∷ [])) between after =
      subst (λ (o : Option World). Moves (IsInFolders (folder ∷ [])) o after) (sym now)
      (moves_wider (λ q. q ≡ cleaned (file_in folder)) (IsInFolders (folder ∷ [])) (Some middle) after (λ q e. (folder, file_in folder, only folder, IsWithin.item folder justfile IsWithin.itself refl, e)) second) in
      (moves_then (IsInFolders (folder ∷ [])) (Some w) between after first.0 onwards, named)

  text_moves : (after : Option World) (text working : List ℕ) (folders : List (List ℕ)) (r : Result Search SearchError) → WritesText (Some w) after wanted text working folders r
      → Moves (IsInFolders folders) (Some w) after × AllByRecursion NamesItem folders
  text_moves after text working folders r (WritesText.a_file between folder makes writes) =
      let here = file_moves between after folder text (Ok tt) makes writes in
      (here.0, (here.1, tt))
  text_moves after text working folders r (WritesText.no_folder io refusal makes) = (moves_none (IsInFolders []) (Some w) after (unmade w after wanted io makes), tt)
  text_moves after text working folders r (WritesText.unwritten between folder io makes refusal writes) =
      let here = file_moves between after folder text (Err io) makes writes in
      (here.0, (here.1, tt))
  text_moves after text working folders r (WritesText.no_memory same) = (moves_none (IsInFolders []) (Some w) after same, tt)
  text_moves after text working folders r (WritesText.no_memory_behind folder makes) =
      let here = folder_moves after folder makes in
      (here.0, (here.1, tt))

  place_moves : (after : Option World) (place : Location) (folders : List (List ℕ)) (r : Result Search SearchError) → Materializes (Some w) after wanted place folders r
      → Moves (IsInFolders folders) (Some w) after × AllByRecursion NamesItem folders
  place_moves after place folders r (Materializes.file path is same) = (moves_none (IsInFolders []) (Some w) after same, tt)
  place_moves after place folders r (Materializes.unread e gives same) = (moves_none (IsInFolders []) (Some w) after same, tt)
  place_moves after place folders r (Materializes.read text made x gives writes) = text_moves after text place.working_directory folders r writes
  place_moves after place folders r (Materializes.no_memory same) = (moves_none (IsInFolders []) (Some w) after same, tt)

pub makes_in_folders : MakesInFolders
makes_in_folders w after wanted place folders r clean stands makes =
    let here = place_moves w wanted clean stands after place folders r makes in
    (moves_changes folders w after here.0, here.1)
