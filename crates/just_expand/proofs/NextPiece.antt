-- One more piece: behind those that became text stands the next, which becomes text by its answer.
use Rattle.std.proofs.Common.{◌≡◌, ◌∙◌, ℕ, ◌<◌, ◌++◌, List, [], ◌∷◌, Option, length, length-append, refl, sym, ap, subst, arith}
use Rattle.std.specs.Prelude.{Some, None, Result, Ok, Err}
use Rattle.std.specs.Prelude.{String, Bool, true, false, not, IsTrue, ◌↔◌}
use Rattle.std.specs.declared.alloc.Global.{Global}
use Rattle.std.specs.Fn.{CalledAt, Mut}
use denote.Ref.{Bor}
use Rattle.just_path_text.specs.declared.memory.NoMemory.{NoMemory}
use Rattle.just_expand.specs.Code.{AnswersWithMemory, PutsOrFails, PutsPiece}
use Rattle.just_expand.specs.Contexts.{reply_of, IsCause}
use Rattle.just_expand.specs.declared.error.Expand.{Expand}
use Rattle.just_expand.specs.declared.error.Expand.TheVariants as expand
use Rattle.std.proofs.lemmas.Fn.{FoldsTo-push}
use Rattle.just_expand.specs.Bytes.{dollar_sign, open_brace, close_brace, colon, minus_sign}
use Rattle.just_expand.specs.Pieces.{Piece, plain, dollar, bare, braced, defaulted, unclosed, lone, Begins, Cuts, Lacks, StandsBefore, piece_text}
use Rattle.just_expand.specs.Expansion.{Reply, question, own_text, outcome, Puts, PutsBy, Reaches}
use Rattle.just_expand.proofs.Lists.{lacks_right}

-- a piece behind the pieces of a text is one more of them
pub cuts_more : (t : List ℕ) (ps : List Piece) (rest : List ℕ) (p : Piece) (behind : List ℕ) → Cuts t ps rest → Begins rest p behind → Cuts t (ps ++ (p ∷ [])) behind
cuts_more t [] rest p behind e b = (behind, subst (λ u. Begins u p behind) (sym e) b, refl)
cuts_more t (q ∷ ps) rest p behind c b = (c.0, c.1, cuts_more c.0 ps rest p behind c.2 b)

module _ {S E : Type 0} (asks : S → List ℕ → Reply E → S → Type 0) where
  -- a piece that asks for nothing is put out as its own text
  pub puts_own_text : (p : Piece) (s s' : S) (out out' : List ℕ) → question p ≡ None → s' ≡ s → out' ≡ out ++ own_text p → Puts asks (s, out) p (s', out')
  puts_own_text p s s' out out' e es eo = let P : Option (List ℕ) → Type 0 = λ q. PutsBy asks q (s, out) p (s', out') in subst P (sym e) (es, eo)

  -- a piece that asks is put out as what the answer makes of it
  pub puts_outcome : (p : Piece) (n : List ℕ) (r : Reply E) (u : List ℕ) (s s' : S) (out out' : List ℕ) → question p ≡ Some n → asks s n r s' → outcome p r ≡ Ok u → out' ≡ out ++ u → Puts asks (s, out) p (s', out')
  puts_outcome p n r u s s' out out' e a b eo = let P : Option (List ℕ) → Type 0 = λ q. PutsBy asks q (s, out) p (s', out') in subst P (sym e) (r, u, a, b, eo)

  -- behind one more piece that is put out, the rest is reached
  pub reaches_more : (s : S) (t rest out : List ℕ) (s' : S) (p : Piece) (behind out' : List ℕ) (s'' : S) → Reaches asks s t rest out s' → Begins rest p behind → Puts asks (s', out) p (s'', out') → Reaches asks s t behind out' s''
  reaches_more s t rest out s' p behind out' s'' h b step =
      (h.0 ++ (p ∷ []), cuts_more t h.0 rest p behind h.1 b, FoldsTo-push (Puts asks) (s, []) h.0 (s', out) p (s'', out') h.2 step)

-- a byte that a text lacks, it lacks behind its first piece
pub lacks_behind : (c : ℕ) (t : List ℕ) (p : Piece) (behind : List ℕ) → Begins t p behind → Lacks c t → Lacks c behind
lacks_behind c t p behind b h = lacks_right c (piece_text p) behind (subst (Lacks c) b.0 h)

-- behind a `${` that no `}` closes no `}` stands
pub lacks_unclosed : (t : List ℕ) (p : Piece) (behind : List ℕ) → Begins t p behind → p ≡ unclosed → Lacks close_brace behind
lacks_unclosed t p behind b e = subst (λ q. StandsBefore q behind) e b.1

-- nor does one where the piece is told to be such a `${`
pub lacks_closing : (t : List ℕ) (p : Piece) (behind : List ℕ) (b : Bool) → Begins t p behind → IsTrue b ↔ (p ≡ unclosed) → not b ≡ false → Lacks close_brace behind
lacks_closing t p behind true h k e = lacks_unclosed t p behind h (k.0 refl)
lacks_closing t p behind false h k e = cc

-- a piece that asks a closure is put out as what its answer makes of it, where memory suffices
pub puts_reply : {C E : Type 0} (g : Mut C (Bor (List ℕ) × Unit {0}) (Result (Result (Option (String Global)) E) NoMemory)) (p : Piece) (n : List ℕ) (x : Result (Option (String Global)) E) (u : List ℕ) (s s' s'' : C) (r : Result (Result (Option (String Global)) E) NoMemory) (out out' : List ℕ)
    → question p ≡ Some n → CalledAt g s n r s' → r ≡ Ok x → outcome p (reply_of x) ≡ Ok u → s'' ≡ s' → out' ≡ out ++ u → Puts (AnswersWithMemory g) (s, out) p (s'', out')
puts_reply {C} {E} g p n x u s s' s'' r out out' q call is became to eo =
    let at : CalledAt g s n (Ok x) s'' = subst (λ k. CalledAt g s n k s'') is (subst (CalledAt g s n r) (sym to) call) in
    puts_outcome (AnswersWithMemory g) p n (reply_of x) u s s'' out out' q (x, at, refl) became eo

-- and one whose answer makes it an error tells that
pub puts_piece : {C E : Type 0} (g : Mut C (Bor (List ℕ) × Unit {0}) (Result (Result (Option (String Global)) E) NoMemory)) (p : Piece) (n : List ℕ) (x : Result (Option (String Global)) E) (s s' : C) (r : Result (Result (Option (String Global)) E) NoMemory) (out out' : List ℕ) (result : Result (Unit {0}) (Expand E))
    → question p ≡ Some n → CalledAt g s n r s' → r ≡ Ok x → PutsOrFails out out' n (outcome p (reply_of x)) result → PutsPiece (AnswersWithMemory g) s out p s' out' result
puts_piece {C} {E} g p n x s s' r out out' (Ok u) q call is h = puts_reply g p n x h.0 s s' s' r out out' q call is h.1 refl h.2
puts_piece {C} {E} g p n x s s' r out out' (Err (expand.Lookup l)) q call is h =
    let at : CalledAt g s n (Ok x) s' = subst (λ k. CalledAt g s n k s') is call in
    (reply_of x, q ∙ ap Some (sym h.1), (x, subst (λ m. CalledAt g s m (Ok x) s') (sym h.1) at, refl), h.0)
puts_piece {C} {E} g p n x s s' r out out' (Err expand.NoMemory) q call is h = tt

-- an error that is told behind pieces that became text is the cause of the refusal
pub cause_of : {S E : Type 0} (asks : S → List ℕ → Reply E → S → Type 0) (s : S) (t rest out : List ℕ) (s' : S) (p : Piece) (behind : List ℕ) (s'' : S) (out' : List ℕ) (e : Expand E)
    → Reaches asks s t rest out s' → Begins rest p behind → PutsPiece asks s' out p s'' out' (Err e) → IsCause asks s t e
cause_of asks s t rest out s' p behind s'' out' (expand.Lookup l) h b k = record {
  rest = rest;
  out = out;
  state = s';
  reached = h;
  piece = p;
  behind = behind;
  begins = b;
  asking = k.1;
  reply = k.0;
  last = s'';
  asked = k.2;
  error = k.3;
}
cause_of asks s t rest out s' p behind s'' out' expand.NoMemory h b k = tt

-- a text with something in front of another is longer
longer : (x : ℕ) (u behind t : List ℕ) → t ≡ x ∷ (u ++ behind) → length behind < length t
longer x u behind t e = let n : length t ≡ length (x ∷ (u ++ behind)) = ap length e in omega (arith, length-append u behind)

-- what follows a piece is shorter
pub shorter_behind : (t : List ℕ) (p : Piece) (behind : List ℕ) → Begins t p behind → length behind < length t
shorter_behind t (plain []) behind b = absurd (b.1.0 refl)
shorter_behind t (plain (x ∷ xs)) behind b = longer x xs behind t b.0
shorter_behind t dollar behind b = longer dollar_sign (dollar_sign ∷ []) behind t b.0
shorter_behind t (bare n) behind b = longer dollar_sign n behind t b.0
shorter_behind t (braced n) behind b = longer dollar_sign (open_brace ∷ (n ++ (close_brace ∷ []))) behind t b.0
shorter_behind t (defaulted n d) behind b = longer dollar_sign (open_brace ∷ (n ++ (colon ∷ minus_sign ∷ (d ++ (close_brace ∷ []))))) behind t b.0
shorter_behind t unclosed behind b = longer dollar_sign (open_brace ∷ []) behind t b.0
shorter_behind t lone behind b = longer dollar_sign [] behind t b.0
