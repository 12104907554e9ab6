-- Pairs that are put one behind the other: of each name the last one stays.
use Rattle.std.proofs.Common.{◌≡◌, ℕ, cond, List, [], ◌∷◌, ◌++◌, map, append_assoc, append-nil, nat_cmp, Some, None, bytes_eq, refl, sym, ap, ◌∙◌, subst}
use Rattle.serde_json.specs.Data.{string, object, Members, no_members, member, put}
use Rattle.std.specs.BTreeMap.{BTreeMap, insert_entry, IsOrdered}
use Rattle.std.specs.Cmp.Lexicographic.{slice_cmp}
use Rattle.std.specs.List.{AllByRecursion}
use Rattle.std.specs.List.Sorted.{IsStrictlySortedBy}
use Rattle.std.specs.Map.{lookup}
use Rattle.std.specs.Ordering.{match_ordering, ordering_reverse}
use Rattle.std.specs.declared.cmp.Ordering.{Ordering}
use Rattle.std.specs.declared.cmp.Ordering.TheVariants.{Less, Equal, Greater}
use Rattle.std.proofs.lemmas.Cmp.{nat_list_cmp_total}
use Rattle.just_path_text.specs.Environ.{or_else, value_of}
use Rattle.just_host_record.proofs.Pairs.{entered, or_moved, or_none, or_chosen}
use Rattle.just_cache.specs.Members.{object_by, object_of_inputs}
use Rattle.just_cache.specs.Readable.{AreInOrder}
use Rattle.just_cache.specs.Maps.{text_cmp, put_all, AreLast}

-- ---- all pairs

-- of the pairs that are put each name's last one is found
put_found : (done ps : List (List ℕ × List ℕ)) (name : List ℕ) → lookup (bytes_eq name) (put_all done ps) ≡ or_else (value_of name ps) (lookup (bytes_eq name) done)
put_found done [] name = refl
put_found done (p ∷ ps) name =
    put_found (insert_entry text_cmp done p.0 p.1) ps name
    ∙ ap (λ g. or_else (value_of name ps) g) (entered p.0 name p.1 done ∙ or_chosen (bytes_eq p.0 name) p.1 (lookup (bytes_eq name) done))
    ∙ or_moved (value_of name ps) (cond (bytes_eq p.0 name) (Some p.1) None) (lookup (bytes_eq name) done)

-- ---- the object of pairs

-- the members of pairs, as they stand
abbrev listed : List (List ℕ × List ℕ) → Members
listed [] = no_members
listed (p ∷ ps) = member p.0 (string p.1) (listed ps)

module _ (k v : List ℕ) where
  -- by how its name and that of the first one stand
  put_by : (e : List ℕ × List ℕ) (es : List (List ℕ × List ℕ)) (o : Ordering) → put k (string v) (listed es) ≡ listed (insert_entry text_cmp es k v)
      → match_ordering o (member k (string v) (member e.0 (string e.1) (listed es))) (member e.0 (string v) (listed es)) (member e.0 (string e.1) (put k (string v) (listed es)))
      ≡ listed (match_ordering o ((k, v) ∷ e ∷ es) ((e.0, v) ∷ es) (e ∷ insert_entry text_cmp es k v))
  put_by e es Less h = refl
  put_by e es Equal h = refl
  put_by e es Greater h = ap (member e.0 (string e.1)) h

  -- a pair is entered among members as among pairs
  put_listed : (es : List (List ℕ × List ℕ)) → put k (string v) (listed es) ≡ listed (insert_entry text_cmp es k v)
  put_listed [] = refl
  put_listed (e ∷ es) = put_by e es (text_cmp k e.0) (put_listed es)

object_listed : (done given : List (List ℕ × List ℕ)) → object_by string (listed done) given ≡ listed (put_all done given)
object_listed done [] = refl
object_listed done (p ∷ ps) = ap (λ ms. object_by string ms ps) (put_listed p.0 p.1 done) ∙ object_listed (insert_entry text_cmp done p.0 p.1) ps

below : (x : List ℕ) (done : List (List ℕ × List ℕ)) (p : List ℕ × List ℕ) (more : List (List ℕ × List ℕ)) → AllByRecursion (λ y. slice_cmp nat_cmp x y ≡ Less) (map (λ q. q.0) (done ++ p ∷ more)) → slice_cmp nat_cmp x p.0 ≡ Less
below x [] p more h = h.0
below x (d ∷ done) p more h = below x done p more h.1

-- a name above those before it goes last
entered_last : (done : List (List ℕ × List ℕ)) (p : List ℕ × List ℕ) (more : List (List ℕ × List ℕ)) → AreInOrder (done ++ p ∷ more) → insert_entry text_cmp done p.0 p.1 ≡ done ++ p ∷ []
unfolding IsStrictlySortedBy
entered_last [] p more h = refl
entered_last (d ∷ done) p more h =
    let above : slice_cmp nat_cmp p.0 d.0 ≡ Greater = nat_list_cmp_total.antisymm p.0 d.0 ∙ ap (λ o. ordering_reverse o) (below d.0 done p more h.0) in
    ap (λ o. match_ordering o ((p.0, p.1) ∷ d ∷ done) ((d.0, p.1) ∷ done) (d ∷ insert_entry text_cmp done p.0 p.1)) above ∙ ap (λ es. d ∷ es) (entered_last done p more h.1)

-- pairs in order are their own map
put_ordered : (done ps : List (List ℕ × List ℕ)) → AreInOrder (done ++ ps) → put_all done ps ≡ done ++ ps
put_ordered done [] h = sym (append-nil done)
put_ordered done (p ∷ ps) h =
    let same : (done ++ p ∷ []) ++ ps ≡ done ++ p ∷ ps = append_assoc done (p ∷ []) ps in
    ap (λ es. put_all es ps) (entered_last done p ps h) ∙ put_ordered (done ++ p ∷ []) ps (subst (λ (es : List (List ℕ × List ℕ)). AreInOrder es) (sym same) h) ∙ same

-- so a map has the object of all pairs that it was made of
one_object : (given pairs : List (List ℕ × List ℕ)) → pairs ≡ put_all [] given → AreInOrder pairs → object_of_inputs pairs ≡ object_of_inputs given
one_object given pairs are rising =
    ap object (object_listed [] pairs ∙ ap listed (put_ordered [] pairs rising ∙ are) ∙ sym (object_listed [] given))

-- so an ordered map of all pairs has of each name the last one
pub last_put : (given none pairs : List (List ℕ × List ℕ)) (m : BTreeMap (List ℕ) (List ℕ)) → none ≡ [] → m.entries ≡ put_all none given → IsOrdered (slice_cmp nat_cmp) m → pairs ≡ m.entries → AreLast given pairs
last_put given none pairs m empty put_is rising is =
    let are : pairs ≡ put_all [] given = is ∙ put_is ∙ ap (λ d. put_all d given) empty in
    let order : AreInOrder pairs = subst (λ (es : List (List ℕ × List ℕ)). AreInOrder es) (sym is) rising in
    record {
      last = λ name. ap (λ es. lookup (bytes_eq name) es) are ∙ put_found [] given name ∙ or_none (value_of name given);
      ordered = order;
      object = one_object given pairs are order;
    }
