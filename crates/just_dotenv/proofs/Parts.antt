-- One part of a value: what the code reads is what the grammar says, and nothing else.
use Rattle.std.proofs.Common.{◌≡◌, ℕ, ◌<◌, ◌≤◌, ◌==◌, Bool, true, false, not, ◌&&◌, ◌||◌, if◌then◌else◌, List, [], ◌∷◌, length, Option, Some, None, Ok, Err, encode_utf8_all, refl, sym, ◌∙◌, subst, ⊎_elim, arith}
use Rattle.std.proofs.lemmas.Bool.{false≢true}
use Rattle.just_lang_read.specs.Place.{Place, AreMany, IsCharacter, next, past, run, first, starts, sees}
use Rattle.just_lang_read.specs.declared.error.ReadError.TheVariants.{Syntax}
use Rattle.just_lang_read.proofs.Laws.{choose, ok_value, ok_place, starts_at, starts_seen, sees_first, next_shorter, past_le, character_shorter, many_ok, many_again}
use Rattle.just_dotenv.specs.declared.part.Part.{Part}
use Rattle.just_dotenv.specs.declared.part.Part.TheVariants.{Letter, Name, Braced, Gap, Sign}
use Rattle.just_dotenv.specs.Characters.{in_word, in_value, is_plain, escape, dollar_sign, backslash, open_brace, close_brace}
use Rattle.just_dotenv.specs.Grammar.{is_braced, IsPart}
use Rattle.just_dotenv.specs.Grammar.IsPart.{itself, escaped, named, braced, gap, sign}
use Rattle.just_dotenv.specs.Readers.{brace, dollar, letter, escape_of, escape_at, part_of, part, parts}

-- where two tests hold together, each holds
pub and_true : (a b : Bool) → (a && b) ≡ true → (a ≡ true) × (b ≡ true)
and_true true b h = (refl, h)
and_true false b h = absurd (false≢true h)

-- ---- what is read is a part

module _ (quoted : Bool) (p : Place) where
  -- what is read behind a `$` and a `{` is a part
  brace_ok : (m q : Place) (x : Part) → IsCharacter dollar_sign p m → starts in_word m ≡ false → sees open_brace m ≡ true → brace (next m) m ≡ Ok (x, q) → IsPart quoted p q x
  unfolding brace
  brace_ok m q x s w o h =
      ⊎_elim
      (λ (t : _).
      let (word, close) = and_true (starts in_word (next m)) (sees close_brace (past in_word (next m))) t.0 in
      braced m (next m) s (o, refl) word (close, sym (ok_place _ x _ q t.1)) (sym (ok_value _ x _ q t.1)))
      (λ (t : _). subst (λ (r : Place). IsPart quoted p r x) (ok_place Gap x m q t.1) (gap s w o t.0 (sym (ok_value Gap x m q t.1))))
      (choose (is_braced (next m)) (Ok (Braced (encode_utf8_all (run in_word (next m).rest)), next (past in_word (next m)))) (Ok (Gap, m)) (Ok (x, q)) h)

  -- what is read behind a `$` is a part
  dollar_ok : (m q : Place) (x : Part) → IsCharacter dollar_sign p m → dollar m ≡ Ok (x, q) → IsPart quoted p q x
  unfolding dollar
  dollar_ok m q x s h =
      ⊎_elim
      (λ (t : _). named m s t.0 (sym (ok_place _ x _ q t.1)) (sym (ok_value _ x _ q t.1)))
      (λ (t : _).
      ⊎_elim
      (λ (u : _). brace_ok m q x s t.0 u.0 u.1)
      (λ (u : _). subst (λ (r : Place). IsPart quoted p r x) (ok_place Sign x m q u.1) (sign s t.0 u.0 (sym (ok_value Sign x m q u.1))))
      (choose (sees open_brace m) (brace (next m) m) (Ok (Sign, m)) (Ok (x, q)) t.1))
      (choose (starts in_word m) (Ok (Name (encode_utf8_all (run in_word m.rest)), past in_word m)) (if sees open_brace m then brace (next m) m else Ok (Sign, m)) (Ok (x, q)) h)

  -- what a backslash makes, where it makes something, is a part
  letter_ok : (m q : Place) (x : Part) (c : ℕ) (d : Option ℕ) → quoted ≡ true → IsCharacter backslash p m → first m ≡ Some c → escape c ≡ d
      → letter d (next m) ≡ Ok (x, q) → IsPart quoted p q x
  letter_ok m q x c None t s f e h = absurd (let no : ⊥ = cc in no)
  letter_ok m q x c (Some d) t s f e h = escaped m c d t s f e (sym (ok_place _ x _ q h)) (sym (ok_value _ x _ q h))

  -- what is read of the character behind a backslash is a part
  escape_of_ok : (m q : Place) (x : Part) (o : Option ℕ) → quoted ≡ true → IsCharacter backslash p m → first m ≡ o → escape_of o m ≡ Ok (x, q) → IsPart quoted p q x
  escape_of_ok m q x None t s f h = absurd (let no : ⊥ = cc in no)
  escape_of_ok m q x (Some c) t s f h = letter_ok m q x c (escape c) t s f refl h

  -- what is read behind a backslash is a part
  escape_ok : (m q : Place) (x : Part) → quoted ≡ true → IsCharacter backslash p m → escape_at m ≡ Ok (x, q) → IsPart quoted p q x
  unfolding escape_at
  escape_ok m q x t s h = escape_of_ok m q x (first m) t s refl h

  -- what is read of a first character is a part
  part_of_ok : (o : Option ℕ) (q : Place) (x : Part) → first p ≡ o → part_of quoted o p ≡ Ok (x, q) → IsPart quoted p q x
  part_of_ok None q x f h = absurd (let no : ⊥ = cc in no)
  part_of_ok (Some c) q x f h =
      ⊎_elim
      (λ (s : _). itself c f s.0 (sym (ok_place _ x _ q s.1)) (sym (ok_value _ x _ q s.1)))
      (λ (s : _).
      ⊎_elim
      (λ (t : _). dollar_ok (next p) q x (starts_at (λ d. d == 36) p c f ∙ t.0, refl) t.1)
      (λ (t : _).
      ⊎_elim
      (λ (u : _).
      let (k, e) = and_true quoted (c == 92) u.0 in
      escape_ok (next p) q x k (starts_at (λ d. d == 92) p c f ∙ e, refl) u.1)
      (λ (u : _). absurd (let no : ⊥ = cc (u.1) in no))
      (choose (quoted && c == 92) (escape_at (next p)) (Err Syntax) (Ok (x, q)) t.1))
      (choose (c == 36) (dollar (next p)) (if quoted && c == 92 then escape_at (next p) else Err Syntax) (Ok (x, q)) s.1))
      (choose (is_plain quoted c) (Ok (Letter c, next p)) (if c == 36 then dollar (next p) else (if quoted && c == 92 then escape_at (next p) else Err Syntax)) (Ok (x, q)) h)

  -- what is read is a part
  pub part_ok : (q : Place) (x : Part) → part quoted p ≡ Ok (x, q) → IsPart quoted p q x
  unfolding part
  part_ok q x h = part_of_ok (first p) q x refl h

-- ---- and each part is read

-- a `$` doesn't stand for itself
dollar_plain : (quoted : Bool) → is_plain quoted 36 ≡ false
dollar_plain true = refl
dollar_plain false = refl

-- nor does a backslash
slash_plain : (quoted : Bool) → is_plain quoted 92 ≡ false
slash_plain true = refl
slash_plain false = refl

-- a value goes on with a `$`
dollar_within : (quoted : Bool) → in_value quoted 36 ≡ true
dollar_within true = refl
dollar_within false = refl

-- where a `$` stands, the part is what stands behind it
at_dollar : (quoted : Bool) (p m : Place) → IsCharacter dollar_sign p m → part quoted p ≡ dollar m
unfolding part
at_dollar quoted p m s = rw (sees_first 36 p s.0, dollar_plain quoted, s.1) refl

-- where a backslash stands in double quotes, the part is what stands behind it
at_slash : (quoted : Bool) (p m : Place) → quoted ≡ true → IsCharacter backslash p m → part quoted p ≡ escape_at m
unfolding part
at_slash quoted p m t s = rw (sees_first 92 p s.0, t, s.1) refl

-- a code is itself
same : (c : ℕ) → (c == c) ≡ true
same c = grind (arith)

module _ (quoted : Bool) (p q : Place) (x : Part) where
  -- each part is read
  pub part_again : IsPart quoted p q x → part quoted p ≡ Ok (x, q)
  unfolding part dollar brace escape_at
  part_again (itself c f pl e z) = rw (f, pl, e, z) refl
  part_again (escaped m c d t s f k e z) = at_slash quoted p m t s ∙ rw (f, k, e, z) refl
  part_again (named m s w e z) = at_dollar quoted p m s ∙ rw (w, e, z) refl
  part_again (braced m n s o w c z) =
      let no_word : starts in_word m ≡ false = starts_seen in_word 123 m o.0 in
      at_dollar quoted p m s ∙ rw (no_word, o.0, ← o.1, w, c.0, c.1, z) refl
  part_again (gap s w o b z) = at_dollar quoted p q s ∙ rw (w, o, b, z) refl
  part_again (sign s w o z) = at_dollar quoted p q s ∙ rw (w, o, z) refl

  -- a value goes on where a `$` stands
  from_dollar : (m : Place) → IsCharacter dollar_sign p m → starts (in_value quoted) p ≡ true
  from_dollar m s = starts_seen (in_value quoted) 36 p s.0 ∙ dollar_within quoted

  -- a value goes on where a part begins
  pub part_starts : IsPart quoted p q x → starts (in_value quoted) p ≡ true
  part_starts (itself c f pl e z) = starts_at (in_value quoted) p c f ∙ (and_true (in_value quoted c) (not (c == 36 || c == 92)) pl).0
  part_starts (escaped m c d t s f k e z) = starts_seen (in_value quoted) 92 p s.0 ∙ rw t refl
  part_starts (named m s w e z) = from_dollar m s
  part_starts (braced m n s o w c z) = from_dollar m s
  part_starts (gap s w o b z) = from_dollar q s
  part_starts (sign s w o z) = from_dollar q s

  -- a part takes a character
  pub part_shorter : IsPart quoted p q x → length q.rest < length p.rest
  part_shorter (itself c f pl e z) = rw e (next_shorter (is_plain quoted) p (starts_at (is_plain quoted) p c f ∙ pl))
  part_shorter (escaped m c d t s f k e z) =
      let step : length (next m).rest < length m.rest = next_shorter (λ a. a == c) m (starts_at (λ a. a == c) m c f ∙ same c) in
      rw e (omega (arith, character_shorter 92 p m s))
  part_shorter (named m s w e z) = rw e (omega (arith, character_shorter 36 p m s, past_le in_word m))
  part_shorter (braced m n s o w c z) =
      omega (arith, character_shorter 36 p m s, character_shorter 123 m n o, past_le in_word n, character_shorter 125 (past in_word n) q c)
  part_shorter (gap s w o b z) = character_shorter 36 p q s
  part_shorter (sign s w o z) = character_shorter 36 p q s

-- ---- lists of parts

-- a part that is read takes a character
pub read_shorter : (quoted : Bool) (p q : Place) (x : Part) → starts (in_value quoted) p ≡ true → part quoted p ≡ Ok (x, q) → length q.rest < length p.rest
read_shorter quoted p q x m h = part_shorter quoted p q x (part_ok quoted p q x h)

-- parts that are read are a chain of parts, behind which the value ends
pub parts_ok : (quoted : Bool) (p q : Place) (v : List Part) → parts quoted p ≡ Ok (v, q) → AreMany (IsPart quoted) p q v × (starts (in_value quoted) q ≡ false)
unfolding parts
parts_ok quoted p q v h = many_ok (starts (in_value quoted)) (part quoted) (IsPart quoted) (λ p q x m o. part_ok quoted p q x o) p q v h

-- each such chain is read
pub parts_again : (quoted : Bool) (p q : Place) (v : List Part) → AreMany (IsPart quoted) p q v → starts (in_value quoted) q ≡ false → parts quoted p ≡ Ok (v, q)
unfolding parts
parts_again quoted p q v are done =
    many_again (starts (in_value quoted)) (part quoted) (read_shorter quoted) (IsPart quoted)
    (λ p q x i. (part_starts quoted p q x i, part_again quoted p q x i)) p q v are done

-- a chain of parts takes nothing back
pub parts_le : (quoted : Bool) (p q : Place) (v : List Part) → AreMany (IsPart quoted) p q v → length q.rest ≤ length p.rest
parts_le quoted p q [] e = rw e (omega arith)
parts_le quoted p q (x ∷ v) (m, i, are) = omega (arith, part_shorter quoted p m x i, parts_le quoted m q v are)
