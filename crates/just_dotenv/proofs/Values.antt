-- Values: what a loop over parts has read, and what a single quoted value means.
use Rattle.std.proofs.Common.{◌≡◌, ℕ, Bool, true, false, not, ◌&&◌, ◌||◌, if◌then◌else◌, List, [], ◌∷◌, ◌++◌, map, Ok, Err, encode_utf8, encode_utf8_all, append-nil, append_assoc, refl, ap, ◌∙◌}
use Rattle.just_lang_read.specs.Place.{Place, starts, past, run}
use Rattle.just_lang_read.specs.Reader.{Outcome, Reader, and_then, pure, expect}
use Rattle.just_lang_read.specs.declared.error.ReadError.{ReadError}
use Rattle.just_lang_read.specs.declared.error.ReadError.TheVariants.{Syntax}
use Rattle.just_lang_read.proofs.Laws.{many_end, many_more, many_wrong}
use Rattle.just_dotenv.proofs.Parts.{read_shorter}
use Rattle.just_dotenv.specs.declared.part.Part.{Part}
use Rattle.just_dotenv.specs.declared.part.Part.TheVariants.{Letter}
use Rattle.just_dotenv.specs.Characters.{in_value, in_single_quotes, single_quote}
use Rattle.just_dotenv.specs.Grammar.{is_close, is_gap, has_close, is_closed}
use Rattle.just_dotenv.specs.Meaning.{Pairs, part_text, value_text}
use Rattle.just_dotenv.specs.Readers.{part, parts, check_closed, closed_parts, as_text, single_quoted_value, waits, waits_behind}

-- characters that stand for themselves mean these characters
pub letters_text : (environ earlier : Pairs) (cs : List ℕ) → value_text environ earlier (map Letter cs) ≡ encode_utf8_all cs
letters_text environ earlier [] = refl
letters_text environ earlier (c ∷ cs) = ap (λ (r : List ℕ). encode_utf8 c ++ r) (letters_text environ earlier cs)

-- a single quoted value means the characters between the quotes
pub single_reads : (environ earlier : Pairs) (p q : Place) (text : List ℕ) → expect single_quote (past in_single_quotes p) ≡ Ok (tt, q)
    → text ≡ encode_utf8_all (run in_single_quotes p.rest) → as_text environ earlier single_quoted_value p ≡ Ok (text, q)
unfolding single_quoted_value
single_reads environ earlier p q text e t = rw (e, letters_text environ earlier (run in_single_quotes p.rest), t) refl

-- ---- waiting for a `}` is the same as looking ahead for it

-- one more part in front: waiting for a `}` behind it is looking ahead for one
waits_step : (gap close before behind done : Bool)
    → (((gap || (before && not close)) && not behind) || not done) ≡ ((before && not (close || behind)) || not ((not gap || behind) && done))
waits_step false close false behind done = refl
waits_step false true true behind done = refl
waits_step false false true behind done = refl
waits_step true close false true done = refl
waits_step true close false false done = refl
waits_step true true true true done = refl
waits_step true false true true done = refl
waits_step true true true false done = refl
waits_step true false true false done = refl

-- behind some parts a `${` waits where one waited before them and no `}` came, or where they are not closed
waits_is : (before : Bool) (v : List Part) → waits_behind before v ≡ ((before && not (has_close v)) || not (is_closed v))
waits_is true [] = refl
waits_is false [] = refl
waits_is before (x ∷ xs) = waits_is (waits x before) xs ∙ waits_step (is_gap x) (is_close x) before (has_close xs) (is_closed xs)

-- with none waiting before them, one waits where they are not closed
waits_closed : (v : List Part) → waits_behind false v ≡ not (is_closed v)
waits_closed v = waits_is false v

-- ---- the loop over parts

-- what is read of parts behind some text, where a `${` waits or not before them
abbrev pub finish : Pairs → Pairs → List ℕ → Bool → List Part → Reader (List ℕ)
finish environ earlier text before v = λ q. if waits_behind before v then Err Syntax else Ok (text ++ value_text environ earlier v, q)

-- what is still to come, behind some text and perhaps a `${` that waits
unfoldable pub to_come : Pairs → Pairs → Bool → List ℕ → Bool → Reader (List ℕ)
to_come environ earlier quoted text before = λ p. and_then (parts quoted p) (finish environ earlier text before)

module _ (environ earlier : Pairs) (quoted : Bool) where
  -- closed parts in front of nothing mean their text
  start_if : (b : Bool) (v : List Part) (q : Place)
      → (if not b then Err Syntax else Ok ([] ++ value_text environ earlier v, q)) ≡ and_then (if b then Ok (v, q) else Err Syntax) (λ v. pure (value_text environ earlier v))
  start_if true v q = refl
  start_if false v q = refl

  -- and so do parts that were read
  start_at : (o : Outcome (List Part)) → and_then o (finish environ earlier [] false) ≡ and_then (and_then o check_closed) (λ v. pure (value_text environ earlier v))
  unfolding check_closed
  start_at (Err e) = refl
  start_at (Ok s) = rw (waits_closed s.0) (start_if (is_closed s.0) s.0 s.1)

  -- at the start all of the value is to come
  pub start_is : (p : Place) → to_come environ earlier quoted [] false p ≡ as_text environ earlier (closed_parts quoted) p
  unfolding to_come closed_parts
  start_is p = start_at (parts quoted p)

  -- one more part, and then what is read, is what is read behind it
  more_at : (o : Outcome (List Part)) (text : List ℕ) (before : Bool) (x : Part)
      → and_then (and_then o (λ xs. pure (x ∷ xs))) (finish environ earlier text before)
      ≡ and_then o (finish environ earlier (text ++ part_text environ earlier x) (waits x before))
  more_at (Err e) text before x = refl
  more_at (Ok s) text before x = rw (append_assoc text (part_text environ earlier x) (value_text environ earlier s.0)) refl

  -- behind a part, what is to come is what was to come before it
  pub more_is : (p q : Place) (x : Part) (text : List ℕ) (before : Bool) → starts (in_value quoted) p ≡ true → part quoted p ≡ Ok (x, q)
      → to_come environ earlier quoted text before p ≡ to_come environ earlier quoted (text ++ part_text environ earlier x) (waits x before) q
  unfolding to_come parts
  more_is p q x text before m o =
      ap (λ (r : Outcome (List Part)). and_then r (finish environ earlier text before)) (many_more (starts (in_value quoted)) (part quoted) (read_shorter quoted) p q x m o)
      ∙ more_at (parts quoted q) text before x

  -- where the value ends, only what waits is refused
  pub end_is : (p : Place) (text : List ℕ) (before : Bool) → starts (in_value quoted) p ≡ false
      → to_come environ earlier quoted text before p ≡ (if before then Err Syntax else Ok (text, p))
  unfolding to_come parts
  end_is p text before m =
      ap (λ (r : Outcome (List Part)). and_then r (finish environ earlier text before)) (many_end (starts (in_value quoted)) (part quoted) (read_shorter quoted) p m)
      ∙ rw (append-nil text) refl

  -- a part that isn't read refuses the value
  pub wrong_is : (p : Place) (text : List ℕ) (before : Bool) (e : ReadError) → starts (in_value quoted) p ≡ true → part quoted p ≡ Err e
      → to_come environ earlier quoted text before p ≡ Err e
  unfolding to_come parts
  wrong_is p text before e m o =
      ap (λ (r : Outcome (List Part)). and_then r (finish environ earlier text before)) (many_wrong (starts (in_value quoted)) (part quoted) (read_shorter quoted) p e m o)
