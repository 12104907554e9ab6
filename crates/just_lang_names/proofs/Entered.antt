-- An index after one more name.
use Rattle.std.proofs.Common.{◌≡◌, ℕ, Bool, true, false, not, cond, List, Option, Some, None, Bor, Ordering, refl, sym, ap, ◌∙◌, subst}
use Rattle.std.specs.Prelude.{if◌then◌else◌, bytes_eq}
use Rattle.std.specs.Option.{option_or}
use Rattle.std.specs.Ordering.{is_eq, nat_cmp}
use Rattle.std.specs.declared.cmp.Ordering.TheVariants.{Less, Equal, Greater}
use Rattle.std.specs.BTreeMap.{get, Updates, is_at}
use Rattle.std.proofs.lemmas.Cmp.{nat_cmp_total, tied_itself}
use Rattle.std.proofs.lemmas.Map.Lookups.{exact_unsigned}
use Rattle.std.proofs.lemmas.Map.Text.{is_eq-slice_cmp}
use Rattle.std.proofs.lemmas.Slice.Eq.{bytes_eq-Decides}
use Rattle.just_lang_names.specs.declared.hashed.HashedIndex.{HashedIndex}
use Rattle.just_lang_names.specs.declared.hashed.NamedPlace.{NamedPlace}
use Rattle.just_lang_names.specs.Hashes.{name_hash}
use Rattle.just_lang_names.specs.HashedPlaces.{is_another, place_of, hashed_place, Enters}
use Rattle.just_lang_spots.proofs.Seen.{text_cmp}
use Rattle.just_lang_spots.proofs.Tables.{query}

same_text : (a b : List ℕ) → bytes_eq a b ≡ true → a ≡ b
same_text a b h = (bytes_eq-Decides a b).0 h

itself : (a : List ℕ) → bytes_eq a a ≡ true
itself a = (bytes_eq-Decides a a).1 refl

is_equal : (o : Ordering) → is_eq o ≡ true → o ≡ Equal
is_equal Less h = absurd (let no : ⊥ = cc in no)
is_equal Equal h = refl
is_equal Greater h = absurd (let no : ⊥ = cc in no)

-- the place of a name by what is kept at its hash and by the others
abbrev found : List ℕ → Option NamedPlace → Option ℕ → Option ℕ
found q kept other = option_or (place_of q kept) other

-- another name at the hash has no place for this one
past_another : (q : List ℕ) (kept : Option NamedPlace) (other : Option ℕ) → is_another q kept ≡ true → found q kept other ≡ other
past_another q None other h = refl
past_another q (Some x) other h = ap (λ b. option_or (if b then Some x.place else None) other) (negated (bytes_eq x.name.now q) h)
  where
    negated : (b : Bool) → not b ≡ true → b ≡ false
    negated true k = absurd (let no : ⊥ = cc in no)
    negated false k = refl

-- nor has a name that is at the hash for another one
past_this : (name q : List ℕ) (kept : Option NamedPlace) (other : Option ℕ) → is_another name kept ≡ false → bytes_eq name q ≡ false → found q kept other ≡ other
past_this name q None other h k = refl
past_this name q (Some x) other h k =
    let same : x.name.now ≡ name = same_text x.name.now name (positive (bytes_eq x.name.now name) h) in
    ap (λ b. option_or (if b then Some x.place else None) other) (ap (λ t. bytes_eq t q) same ∙ k)
  where
    positive : (b : Bool) → not b ≡ false → b ≡ true
    positive true l = refl
    positive false l = absurd (let no : ⊥ = cc in no)

-- a name at whose hash another one is kept
pub entered_other : (m i : HashedIndex) (name : Bor (List ℕ)) (place hash : ℕ) → hash ≡ name_hash name.now → is_another name.now (get nat_cmp m.firsts hash) ≡ true → i.firsts ≡ m.firsts
    → Updates text_cmp m.others i.others name (Some place) → Enters m name.now place i
entered_other m i name place hash is another firsts updates q =
    ap (λ f. found q (get nat_cmp f (name_hash q)) (get text_cmp i.others (query q))) firsts
    ∙ ap (found q (get nat_cmp m.firsts (name_hash q))) (updates.0 (query q) ∙ ap (λ b. cond b (Some place) (get text_cmp m.others (query q))) (is_eq-slice_cmp name.now q))
    ∙ pick (bytes_eq name.now q) refl
  where
    pick : (b : Bool) → bytes_eq name.now q ≡ b → found q (get nat_cmp m.firsts (name_hash q)) (cond (bytes_eq name.now q) (Some place) (get text_cmp m.others (query q))) ≡ (if bytes_eq name.now q then Some place else hashed_place m q)
    pick true h =
        let same : name.now ≡ q = same_text name.now q h in
        let there : is_another q (get nat_cmp m.firsts (name_hash q)) ≡ true = subst (λ t. is_another t (get nat_cmp m.firsts (name_hash t)) ≡ true) same (subst (λ n. is_another name.now (get nat_cmp m.firsts n) ≡ true) is another) in
        past_another q (get nat_cmp m.firsts (name_hash q)) (cond (bytes_eq name.now q) (Some place) (get text_cmp m.others (query q))) there
        ∙ ap (λ b. cond b (Some place) (get text_cmp m.others (query q))) h ∙ sym (ap (λ b. if b then Some place else hashed_place m q) h)
    pick false h =
        ap (λ b. found q (get nat_cmp m.firsts (name_hash q)) (cond b (Some place) (get text_cmp m.others (query q)))) h ∙ sym (ap (λ b. if b then Some place else hashed_place m q) h)

-- one at whose hash none is kept, or this one
pub entered_first : (m i : HashedIndex) (name : Bor (List ℕ)) (place hash : ℕ) → hash ≡ name_hash name.now → is_another name.now (get nat_cmp m.firsts hash) ≡ false → i.others ≡ m.others
    → Updates nat_cmp m.firsts i.firsts hash (Some (record { name = name; place = place })) → Enters m name.now place i
entered_first m i name place hash is free others updates q =
    ap (λ o. found q (get nat_cmp i.firsts (name_hash q)) (get text_cmp o (query q))) others
    ∙ ap (λ k. found q k (get text_cmp m.others (query q))) (updates.0 (name_hash q))
    ∙ pick (bytes_eq name.now q) refl (is_at (nat_cmp hash) (name_hash q)) refl
  where
    new : NamedPlace
    new = record { name = name; place = place }

    old : Option NamedPlace
    old = get nat_cmp m.firsts (name_hash q)

    other : Option ℕ
    other = get text_cmp m.others (query q)

    pick : (b : Bool) → bytes_eq name.now q ≡ b → (c : Bool) → is_at (nat_cmp hash) (name_hash q) ≡ c → found q (cond (is_at (nat_cmp hash) (name_hash q)) (Some new) old) other ≡ (if bytes_eq name.now q then Some place else hashed_place m q)
    pick true h true g =
        ap (λ c. found q (cond c (Some new) old) other) g ∙ ap (λ b. option_or (if b then Some place else None) other) h ∙ sym (ap (λ b. if b then Some place else hashed_place m q) h)
    pick true h false g =
        let same : name.now ≡ q = same_text name.now q h in
        absurd (let t : is_eq (nat_cmp hash (name_hash q)) ≡ true = ap (λ n. is_eq (nat_cmp hash n)) (sym (is ∙ ap name_hash same)) ∙ ap is_eq (tied_itself nat_cmp_total hash) in let f : is_eq (nat_cmp hash (name_hash q)) ≡ false = g in let no : ⊥ = cc in no)
    pick false h true g =
        let hashes : hash ≡ name_hash q = exact_unsigned hash (name_hash q) (is_equal (nat_cmp hash (name_hash q)) g) in
        let kept : is_another name.now old ≡ false = subst (λ n. is_another name.now (get nat_cmp m.firsts n) ≡ false) hashes free in
        ap (λ c. found q (cond c (Some new) old) other) g ∙ ap (λ b. option_or (if b then Some place else None) other) h
        ∙ sym (past_this name.now q old other kept h) ∙ sym (ap (λ b. if b then Some place else hashed_place m q) h)
    pick false h false g = ap (λ c. found q (cond c (Some new) old) other) g ∙ sym (ap (λ b. if b then Some place else hashed_place m q) h)
