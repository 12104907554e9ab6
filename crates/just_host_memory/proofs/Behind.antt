-- What a name is behind a folder's front.
use Rattle.std.proofs.Common.{◌≡◌, ◌==◌, ◌||◌, ◌≢◌, if◌then◌else◌, ◌<◌, ◌+◌, Bool, true, false, not, cond, ℕ, List, [], ◌∷◌, ◌++◌, length, get_or, drop, Option, Some, None, option_map, refl, sym, ap, subst, ◌∙◌, append_assoc, append-nil, bytes_eq}
use Rattle.std.specs.List.{list_any}
use Rattle.std.specs.Ordering.{nat_cmp, eq_by_cmp}
use Rattle.std.specs.Cmp.Lexicographic.{slice_cmp}
use Rattle.std.specs.FinMap.{find, get, from_entries, get-from_entries}
use Rattle.std.specs.FinMap.Entries.{put, find-put}
use Rattle.std.proofs.lemmas.Cmp.{nat_list_cmp_total}
use Rattle.std.proofs.lemmas.List.{append_cancel_left}
use Rattle.std.proofs.lemmas.Map.Text.{is_eq-slice_cmp}
use Rattle.std.proofs.lemmas.Slice.Eq.{bytes_eq-Decides}
use Rattle.just_path.specs.Path.{pushed, is_absolute, ends_open}
use Rattle.just_path.specs.View.{named, is_name, meta_of, sight, AreItemsOf}
use Rattle.just_path.specs.declared.meta.Item.{Item}
use Rattle.just_path.specs.declared.meta.Kind.{Kind}
use Rattle.just_host_record.specs.declared.tree.Thing.{Thing}
use Rattle.just_host_record.specs.Sights.{Tree, sight_of, seen}
use Rattle.just_host_files.specs.Items.{kind_behind, AreItemsBehind}
use Rattle.just_host_record.proofs.Laws.{sight_seen}
use Rattle.just_host_memory.proofs.Things.{find_hit, find_pass}

-- where neither of two tests holds, the first does not
not_slash : (a b : Bool) → not (a || b) ≡ true → a ≡ false
not_slash true b h = cc
not_slash false b h = refl

-- a name begins with no slash
relative : (name : List ℕ) → is_name name ≡ true → is_absolute name ≡ false
relative [] h = refl
relative (b ∷ bs) h = not_slash (b == 47) (list_any (λ x. x == 47) bs) h

-- a slash between a folder and a name belongs to the front
pushed_open : (e : Bool) (folder name : List ℕ) → (if e then folder ++ (47 ∷ name) else folder ++ name) ≡ (if e then folder ++ (47 ∷ []) else folder ++ []) ++ name
pushed_open true folder name = sym (append_assoc folder (47 ∷ []) name)
pushed_open false folder name = ap (λ x. x ++ name) (sym (append-nil folder))

-- to push a name is to put it behind the front, which is the folder with nothing pushed
pub pushed_name : (folder name : List ℕ) → is_name name ≡ true → pushed folder name ≡ pushed folder [] ++ name
pushed_name folder name h =
    ap (λ b. if b then name else (if ends_open folder then folder ++ (47 ∷ name) else folder ++ name)) (relative name h)
    ∙ pushed_open (ends_open folder) folder name

-- the kind of a thing
abbrev kind_of : Thing → Kind
kind_of t = (meta_of (sight_of t)).kind

-- to look at a thing and take its kind is to take its kind
mapped : (o : Option Thing) → option_map (λ s. (meta_of s).kind) (option_map sight_of o) ≡ option_map (λ t. (meta_of (sight_of t)).kind) o
mapped None = refl
mapped (Some t) = refl

-- the kind behind a folder's front is that of what stands in the folder under the name
kind_same : (folder name : List ℕ) (tree : Tree) (b : Bool) → is_name name ≡ b → (things : List (List ℕ × Thing)) → from_entries {R = slice_cmp nat_cmp} things ≡ tree → cond b (option_map (λ t. (meta_of (sight_of t)).kind) (find (slice_cmp nat_cmp) (pushed folder [] ++ name) things)) None ≡ cond b (option_map (λ s. (meta_of s).kind) (sight (pushed folder name) (seen tree))) None
kind_same folder name tree false is things of_tree = refl
kind_same folder name tree true is things of_tree =
    ap (λ o. option_map (λ t. (meta_of (sight_of t)).kind) o)
    (sym (get-from_entries nat_list_cmp_total things (pushed folder [] ++ name))
    ∙ ap (λ m. get m (pushed folder [] ++ name)) of_tree
    ∙ ap (get tree) (sym (pushed_name folder name is)))
    ∙ sym (mapped (get tree (pushed folder name)))
    ∙ ap (λ o. option_map (λ s. (meta_of s).kind) o) (sym (sight_seen tree (pushed folder name)))

-- the items behind the front are those of the folder
pub items_seen : (folder : List ℕ) (tree : Tree) (things : List (List ℕ × Thing)) (items : List Item) → from_entries {R = slice_cmp nat_cmp} things ≡ tree → AreItemsBehind (pushed folder []) things items → AreItemsOf folder (seen tree) items
items_seen folder tree things items of_tree h = λ name. h name ∙ kind_same folder name tree (is_name name) refl things of_tree

-- texts that differ don't compare equal
not_equal : (x y : List ℕ) → y ≢ x → bytes_eq x y ≡ false
not_equal x y apart =
    elim (bytes_eq x y) as (λ b. bytes_eq x y ≡ b → b ≡ false) [
      | true ↦ λ e. absurd (apart (sym ((bytes_eq-Decides x y).0 e)))
      | false ↦ λ e. refl
    ] refl

-- a thing that isn't the named one is passed
passed_at : (front : List ℕ) (things : List (List ℕ × Thing)) (i : ℕ) (e : List ℕ × Thing) (name : List ℕ) (b : Bool) → i < length things → e ≡ get_or things i e → (b ≡ true → e.0 ≢ front ++ name) → cond b (option_map (λ t. (meta_of (sight_of t)).kind) (find (slice_cmp nat_cmp) (front ++ name) (drop (i + 1) things))) None ≡ cond b (option_map (λ t. (meta_of (sight_of t)).kind) (find (slice_cmp nat_cmp) (front ++ name) (drop i things))) None
passed_at front things i e name false inside is apart = refl
passed_at front things i e name true inside is apart =
    ap (λ o. option_map (λ t. (meta_of (sight_of t)).kind) o) (sym (find_pass (front ++ name) e.0 things i e inside is refl (not_equal (front ++ name) e.0 (apart refl))))

-- a thing that isn't behind the front is passed
pub thing_passed : (front : List ℕ) (things : List (List ℕ × Thing)) (i : ℕ) (e : List ℕ × Thing) (items : List Item) → i < length things → e ≡ get_or things i e → ((name : List ℕ) → is_name name ≡ true → e.0 ≢ front ++ name) → AreItemsBehind front (drop (i + 1) things) items → AreItemsBehind front (drop i things) items
thing_passed front things i e items inside is apart h = λ name. h name ∙ passed_at front things i e name (is_name name) inside is (apart name)

-- texts that compare equal are equal
equal_names : (x y : List ℕ) → eq_by_cmp (slice_cmp nat_cmp) x y ≡ true → x ≡ y
equal_names x y h = (bytes_eq-Decides x y).0 (sym (is_eq-slice_cmp x y) ∙ h)

-- a text compares equal to itself
equal_itself : (x : List ℕ) → eq_by_cmp (slice_cmp nat_cmp) x x ≡ true
equal_itself x = is_eq-slice_cmp x x ∙ (bytes_eq-Decides x x).1 refl

-- the thing of the front and a name has its kind under that name
found_at : (front : List ℕ) (things : List (List ℕ × Thing)) (i : ℕ) (e : List ℕ × Thing) (n : List ℕ) → i < length things → e ≡ get_or things i e → is_name n ≡ true → e.0 ≡ front ++ n → Some (kind_of e.1) ≡ kind_behind front (drop i things) n
found_at front things i e n inside is name key =
    sym (ap (λ b. cond b (option_map (λ t. (meta_of (sight_of t)).kind) (find (slice_cmp nat_cmp) (front ++ n) (drop i things))) None) name
    ∙ ap (λ o. option_map (λ t. (meta_of (sight_of t)).kind) o) (find_hit (front ++ n) e.0 things i e inside is refl ((bytes_eq-Decides (front ++ n) e.0).1 (sym key))))

-- that thing gives its own name its kind, and leaves each other name
put_at : (front : List ℕ) (things : List (List ℕ × Thing)) (i : ℕ) (e : List ℕ × Thing) (n name : List ℕ) (t : Bool) → eq_by_cmp (slice_cmp nat_cmp) name n ≡ t → i < length things → e ≡ get_or things i e → is_name n ≡ true → e.0 ≡ front ++ n → cond t (Some (kind_of e.1)) (kind_behind front (drop (i + 1) things) name) ≡ kind_behind front (drop i things) name
put_at front things i e n name true same inside is isname key =
    subst (λ x. Some (kind_of e.1) ≡ kind_behind front (drop i things) x) (sym (equal_names name n same)) (found_at front things i e n inside is isname key)
put_at front things i e n name false other inside is isname key =
    passed_at front things i e name (is_name name) inside is (λ _ at.
    let one : name ≡ n = append_cancel_left front name n (sym at ∙ key) in
    let twice : true ≡ false = sym (equal_itself n) ∙ ap (λ x. eq_by_cmp (slice_cmp nat_cmp) x n) (sym one) ∙ other in
    cc)

-- one that is gets its kind under its name
pub thing_put : (front : List ℕ) (things : List (List ℕ × Thing)) (i : ℕ) (e : List ℕ × Thing) (n : List ℕ) (items items' : List Item) → i < length things → e ≡ get_or things i e → is_name n ≡ true → e.0 ≡ front ++ n → named items' ≡ put (slice_cmp nat_cmp) n (meta_of (sight_of e.1)).kind (named items) → AreItemsBehind front (drop (i + 1) things) items → AreItemsBehind front (drop i things) items'
thing_put front things i e n items items' inside is isname key new h = λ name.
    ap (find (slice_cmp nat_cmp) name) new
    ∙ find-put (slice_cmp nat_cmp) nat_list_cmp_total name n (meta_of (sight_of e.1)).kind (named items)
    ∙ ap (λ o. cond (eq_by_cmp (slice_cmp nat_cmp) name n) (Some (meta_of (sight_of e.1)).kind) o) (h name)
    ∙ put_at front things i e n name (eq_by_cmp (slice_cmp nat_cmp) name n) refl inside is isname key
