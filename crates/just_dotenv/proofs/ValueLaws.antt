-- Values: what the code reads is what the grammar says, and nothing else.
use Rattle.std.proofs.Common.{◌≡◌, ℕ, ◌≤◌, ◌==◌, Bool, true, false, not, ◌&&◌, if◌then◌else◌, List, [], length, map, Ok, Err, refl, sym, ap, ◌∙◌, subst, ⊎_elim, arith}
use Rattle.just_lang_read.specs.Place.{Place, AreMany, next, past, run, starts, sees}
use Rattle.just_lang_read.specs.Reader.{pure, expect}
use Rattle.just_lang_read.specs.declared.error.ReadError.TheVariants.{Syntax}
use Rattle.just_lang_read.proofs.Laws.{bind_ok, choose, ok_value, ok_place, expect_ok, expect_again, starts_seen, past_le, character_shorter}
use Rattle.just_dotenv.specs.declared.part.Part.{Part}
use Rattle.just_dotenv.specs.declared.part.Part.TheVariants.{Letter}
use Rattle.just_dotenv.specs.Characters.{is_blank, is_bare, in_single_quotes, in_value, single_quote, double_quote, number_sign}
use Rattle.just_dotenv.specs.Grammar.{behind_blanks, has_bare_value, is_closed, IsPart, IsValue}
use Rattle.just_dotenv.specs.Grammar.IsValue.{none, single, double, bare}
use Rattle.just_dotenv.specs.Readers as reader
use Rattle.just_dotenv.proofs.Parts.{and_true, parts_ok, parts_again, parts_le}

-- parts that pass are closed, and nothing was taken
closed_ok : (v w : List Part) (p q : Place) → reader.check_closed v p ≡ Ok (w, q) → (is_closed v ≡ true) × (v ≡ w) × (p ≡ q)
unfolding reader.check_closed
closed_ok v w p q h =
    ⊎_elim
    (λ (s : _). (s.0, ok_value v w p q s.1, ok_place v w p q s.1))
    (λ (s : _). absurd (let no : ⊥ = cc (s.1) in no))
    (choose (is_closed v) (Ok (v, p)) (Err Syntax) (Ok (w, q)) h)

-- closed parts that are read are a chain of parts that is closed, and behind it the value ends
closed_parts_ok : (quoted : Bool) (p q : Place) (v : List Part) → reader.closed_parts quoted p ≡ Ok (v, q)
    → AreMany (IsPart quoted) p q v × (starts (in_value quoted) q ≡ false) × (is_closed v ≡ true)
unfolding reader.closed_parts
closed_parts_ok quoted p q v h =
    let (w, m, r, k) = bind_ok (reader.parts quoted p) reader.check_closed v q h in
    let (are, done) = parts_ok quoted p m w r in
    let (closed, e, f) = closed_ok w v m q k in
    subst (λ (l : List Part). AreMany (IsPart quoted) p q l × (starts (in_value quoted) q ≡ false) × (is_closed l ≡ true)) e
    (subst (λ (l : Place). AreMany (IsPart quoted) p l w × (starts (in_value quoted) l ≡ false) × (is_closed w ≡ true)) f (are, done, closed))

-- each such chain is read
closed_parts_again : (quoted : Bool) (p q : Place) (v : List Part) → AreMany (IsPart quoted) p q v → starts (in_value quoted) q ≡ false → is_closed v ≡ true
    → reader.closed_parts quoted p ≡ Ok (v, q)
unfolding reader.closed_parts reader.check_closed
closed_parts_again quoted p q v are done closed = rw (parts_again quoted p q v are done, closed) refl

-- what is read behind a single quote is a value
single_ok : (p q : Place) (v : List Part) → sees single_quote (behind_blanks p) ≡ true → reader.single_quoted_value (next (behind_blanks p)) ≡ Ok (v, q) → IsValue p q v
unfolding reader.single_quoted_value
single_ok p q v s h =
    let m : Place = next (behind_blanks p) in
    let (u, n, e, k) = bind_ok (expect single_quote (past in_single_quotes m)) (λ _. pure (map Letter (run in_single_quotes m.rest))) v q h in
    let t = expect_ok 39 (past in_single_quotes m) u n e in
    single m (s, refl) (t.0, sym (ok_place _ v n q k) ∙ t.1) (sym (ok_value _ v n q k))

-- what is read behind a double quote is a value
double_ok : (p q : Place) (v : List Part) → sees double_quote (behind_blanks p) ≡ true → reader.double_quoted_value (next (behind_blanks p)) ≡ Ok (v, q) → IsValue p q v
unfolding reader.double_quoted_value
double_ok p q v s h =
    let m : Place = next (behind_blanks p) in
    let (w, n, r, k) = bind_ok (reader.closed_parts true m) _ v q h in
    let (u, o, e, j) = bind_ok (expect double_quote n) _ v q k in
    let (are, done, closed) = closed_parts_ok true m n w r in
    let t = expect_ok 34 n u o e in
    let same : w ≡ v = ok_value w v o q j in
    double m n (s, refl) (subst (λ (l : List Part). AreMany (IsPart true) m n l) same are) (t.0, sym (ok_place w v o q j) ∙ t.1) (ap is_closed (sym same) ∙ closed)

-- what is read is a value
pub value_ok : (p q : Place) (v : List Part) → reader.value p ≡ Ok (v, q) → IsValue p q v
unfolding reader.value
value_ok p q v h =
    ⊎_elim (λ (s : _). single_ok p q v s.0 s.1)
    (λ (s : _).
    ⊎_elim (λ (t : _). double_ok p q v t.0 t.1)
    (λ (t : _).
    ⊎_elim
    (λ (u : _). let (are, done, closed) = closed_parts_ok false (behind_blanks p) q v u.1 in bare u.0 are done closed)
    (λ (u : _). none u.0 s.0 t.0 (sym (ok_place [] v p q u.1)) (sym (ok_value [] v p q u.1)))
    (choose (has_bare_value p) (reader.closed_parts false (behind_blanks p)) (Ok ([], p)) (Ok (v, q)) t.1))
    (choose (sees double_quote (behind_blanks p)) (reader.double_quoted_value (next (behind_blanks p))) (if has_bare_value p then reader.closed_parts false (behind_blanks p) else Ok ([], p)) (Ok (v, q)) s.1))
    (choose (sees single_quote (behind_blanks p)) (reader.single_quoted_value (next (behind_blanks p)))
    (if sees double_quote (behind_blanks p) then reader.double_quoted_value (next (behind_blanks p)) else (if has_bare_value p then reader.closed_parts false (behind_blanks p) else Ok ([], p))) (Ok (v, q)) h)

-- where a bare value begins no quote stands
not_quote : (c : ℕ) (b : Bool) (p : Place) → is_bare c ≡ false → starts is_bare p ≡ true → sees c p ≡ b → b ≡ false
not_quote c true p n s e = sym (sym (starts_seen is_bare c p e ∙ n) ∙ s)
not_quote c false p n s e = refl

-- each value is read
pub value_again : (p q : Place) (v : List Part) → IsValue p q v → reader.value p ≡ Ok (v, q)
unfolding reader.value reader.single_quoted_value reader.double_quoted_value
value_again p q v (none b s d e z) = rw (s, d, b, e, z) refl
value_again p q v (single m s t z) = rw (s.0, ← s.1, expect_again 39 (past in_single_quotes m) q t, z) refl
value_again p q v (double m n s are t closed) =
    let other : sees single_quote (behind_blanks p) ≡ false = starts_seen (λ d. d == 39) 34 (behind_blanks p) s.0 in
    let done : starts (in_value true) n ≡ false = starts_seen (in_value true) 34 n t.0 in
    rw (other, s.0, ← s.1, closed_parts_again true m n v are done closed, expect_again 34 n q t) refl
value_again p q v (bare b are done closed) =
    let begins : starts is_bare (behind_blanks p) ≡ true = (and_true (starts is_bare (behind_blanks p)) (not (starts is_blank p && sees number_sign (behind_blanks p))) b).0 in
    let one : sees single_quote (behind_blanks p) ≡ false = not_quote 39 (sees single_quote (behind_blanks p)) (behind_blanks p) refl begins refl in
    let two : sees double_quote (behind_blanks p) ≡ false = not_quote 34 (sees double_quote (behind_blanks p)) (behind_blanks p) refl begins refl in
    rw (one, two, b) (closed_parts_again false (behind_blanks p) q v are done closed)

-- a value takes nothing back
pub value_le : (p q : Place) (v : List Part) → IsValue p q v → length q.rest ≤ length p.rest
value_le p q v (none b s d e z) = rw e (omega arith)
value_le p q v (single m s t z) =
    omega (arith, past_le is_blank p, character_shorter 39 (behind_blanks p) m s, past_le in_single_quotes m, character_shorter 39 (past in_single_quotes m) q t)
value_le p q v (double m n s are t closed) =
    omega (arith, past_le is_blank p, character_shorter 34 (behind_blanks p) m s, parts_le true m n v are, character_shorter 34 n q t)
value_le p q v (bare b are done closed) = omega (arith, past_le is_blank p, parts_le false (behind_blanks p) q v are)
