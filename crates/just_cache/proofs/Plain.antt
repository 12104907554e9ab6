-- Data of texts alone: without numbers, and not nested deep. Its text fixes it.
use Rattle.std.proofs.Common.{◌≡◌, ℕ, zero, suc, ◌≤◌, Bool, true, false, Some, unwrap_or, refl, sym, ap, ap₂, ◌∙◌, arith}
use Rattle.std.specs.Prelude.{⊤, ◌||◌}
use Rattle.json.specs.Json as json
use Rattle.json.specs.Tree as tree
use Rattle.json.proofs.Printed.Trees.{document-print}
use Rattle.serde_json.specs.Data.{Data, null, boolean, number, string, array, object, Items, no_items, item, Members, no_members, member}
use Rattle.serde_json.specs.Written.{compact_text, outline, items_outline, members_outline, has_float, items_have_float, members_have_float}
use Rattle.serde_json.proofs.Texts.{print-outline}

-- texts and null alone, nested at most so deep
abbrev mutual
  pub IsPlain : Data → ℕ → Type 0
  IsPlain null n = ⊤
  IsPlain (boolean b) n = ⊥
  IsPlain (number x) n = ⊥
  IsPlain (string s) n = ⊤
  IsPlain (array ds) zero = ⊥
  IsPlain (array ds) (suc n) = ArePlain ds n
  IsPlain (object ms) zero = ⊥
  IsPlain (object ms) (suc n) = HasPlain ms n

  pub ArePlain : Items → ℕ → Type 0
  ArePlain no_items n = ⊤
  ArePlain (item d ds) n = IsPlain d n × ArePlain ds n

  pub HasPlain : Members → ℕ → Type 0
  HasPlain no_members n = ⊤
  HasPlain (member k d ms) n = IsPlain d n × HasPlain ms n

-- the data of a JSON value without numbers
abbrev mutual
  data_of : json.Json → Data
  data_of json.null = null
  data_of (json.boolean b) = boolean b
  data_of (json.number s) = null
  data_of (json.string s) = string s
  data_of (json.array js) = array (items_in js)
  data_of (json.object ms) = object (members_in ms)

  items_in : json.Items → Items
  items_in json.no_items = no_items
  items_in (json.item j js) = item (data_of j) (items_in js)

  members_in : json.Members → Members
  members_in json.no_members = no_members
  members_in (json.member k j ms) = member k (data_of j) (members_in ms)

mutual
  back : (d : Data) (n : ℕ) → IsPlain d n → data_of (outline d) ≡ d
  back null n h = refl
  back (boolean b) n h = refl
  back (number x) n h = absurd h
  back (string s) n h = refl
  back (array ds) zero h = absurd h
  back (array ds) (suc n) h = ap array (items_back ds n h)
  back (object ms) zero h = absurd h
  back (object ms) (suc n) h = ap object (members_back ms n h)

  items_back : (ds : Items) (n : ℕ) → ArePlain ds n → items_in (items_outline ds) ≡ ds
  items_back no_items n h = refl
  items_back (item d ds) n h = ap₂ item (back d n h.0) (items_back ds n h.1)

  members_back : (ms : Members) (n : ℕ) → HasPlain ms n → members_in (members_outline ms) ≡ ms
  members_back no_members n h = refl
  members_back (member k d ms) n h = ap₂ (member k) (back d n h.0) (members_back ms n h.1)

mutual
  shallow : (d : Data) (n : ℕ) → IsPlain d n → tree.depth (outline d) ≤ n
  shallow null n h = omega arith
  shallow (boolean b) n h = omega arith
  shallow (number x) n h = absurd h
  shallow (string s) n h = omega arith
  shallow (array ds) zero h = absurd h
  shallow (array ds) (suc n) h = let e = items_shallow ds n h in omega (arith, e)
  shallow (object ms) zero h = absurd h
  shallow (object ms) (suc n) h = let e = members_shallow ms n h in omega (arith, e)

  items_shallow : (ds : Items) (n : ℕ) → ArePlain ds n → tree.items_depth (items_outline ds) ≤ n
  items_shallow no_items n h = omega arith
  items_shallow (item d ds) n h = let e = shallow d n h.0 in let f = items_shallow ds n h.1 in omega (arith, e, f)

  members_shallow : (ms : Members) (n : ℕ) → HasPlain ms n → tree.members_depth (members_outline ms) ≤ n
  members_shallow no_members n h = omega arith
  members_shallow (member k d ms) n h = let e = shallow d n h.0 in let f = members_shallow ms n h.1 in omega (arith, e, f)

mutual
  numbers : (d : Data) (n : ℕ) → IsPlain d n → tree.HasNumbers (outline d)
  numbers null n h = tt
  numbers (boolean b) n h = tt
  numbers (number x) n h = absurd h
  numbers (string s) n h = tt
  numbers (array ds) zero h = absurd h
  numbers (array ds) (suc n) h = items_numbers ds n h
  numbers (object ms) zero h = absurd h
  numbers (object ms) (suc n) h = members_numbers ms n h

  items_numbers : (ds : Items) (n : ℕ) → ArePlain ds n → tree.ItemsHaveNumbers (items_outline ds)
  items_numbers no_items n h = tt
  items_numbers (item d ds) n h = (numbers d n h.0, items_numbers ds n h.1)

  members_numbers : (ms : Members) (n : ℕ) → HasPlain ms n → tree.MembersHaveNumbers (members_outline ms)
  members_numbers no_members n h = tt
  members_numbers (member k d ms) n h = (numbers d n h.0, members_numbers ms n h.1)

neither : (a b : Bool) → a ≡ false → b ≡ false → (a || b) ≡ false
neither true b p q = p
neither false b p q = q

-- plain data has no float
mutual
  pub float_free : (d : Data) (n : ℕ) → IsPlain d n → has_float d ≡ false
  float_free null n h = refl
  float_free (boolean b) n h = refl
  float_free (number x) n h = absurd h
  float_free (string s) n h = refl
  float_free (array ds) zero h = absurd h
  float_free (array ds) (suc n) h = items_float_free ds n h
  float_free (object ms) zero h = absurd h
  float_free (object ms) (suc n) h = members_float_free ms n h

  items_float_free : (ds : Items) (n : ℕ) → ArePlain ds n → items_have_float ds ≡ false
  items_float_free no_items n h = refl
  items_float_free (item d ds) n h = neither (has_float d) (items_have_float ds) (float_free d n h.0) (items_float_free ds n h.1)

  members_float_free : (ms : Members) (n : ℕ) → HasPlain ms n → members_have_float ms ≡ false
  members_float_free no_members n h = refl
  members_float_free (member k d ms) n h = neither (has_float d) (members_have_float ms) (float_free d n h.0) (members_float_free ms n h.1)

some_same : {A : Type 0} (x y : A) → Some x ≡ Some y → x ≡ y
some_same x y e = ap (λ o. unwrap_or o x) e

read_again : (d : Data) (n : ℕ) → n ≤ 128 → IsPlain d n → json.document (compact_text d) ≡ Some (outline d)
read_again d n small h =
    let deep = shallow d n h in
    ap json.document (sym (print-outline d)) ∙ document-print (outline d) (numbers d n h) (omega (arith, deep, small))

-- plain data of one text is the same
pub same_data : (a b : Data) (n : ℕ) → n ≤ 128 → IsPlain a n → IsPlain b n → compact_text a ≡ compact_text b → a ≡ b
same_data a b n small p q e =
    let one : outline a ≡ outline b = some_same (outline a) (outline b) (sym (read_again a n small p) ∙ ap json.document e ∙ read_again b n small q) in
    sym (back a n p) ∙ ap data_of one ∙ back b n q
