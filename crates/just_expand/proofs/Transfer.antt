-- What holds over one context holds over another that makes the same calls.
use Rattle.std.proofs.Common.{◌≡◌, ℕ, List, [], ◌∷◌, Option, refl, ap}
use Rattle.std.specs.Prelude.{Some, None, Result, Ok, Err}
use Rattle.std.specs.List.{FoldsTo}
use Rattle.std.specs.declared.alloc.Global.{Global}
use Rattle.std.specs.declared.borrow.CowStr.{CowStr}
use Rattle.just_expand.specs.Pieces.{Piece}
use Rattle.just_expand.specs.Expansion.{Reply, question, Puts, PutsBy, Reaches, ExpandsTo, FailsAt, MayAsk}
use Rattle.just_expand.specs.Contexts.{IsCause, IsExpansion}
use Rattle.just_expand.specs.Code.{IsCallOf}
use Rattle.just_expand.specs.declared.error.Expand.{Expand}
use Rattle.just_expand.specs.declared.error.Expand.TheVariants as expand

module _ {S T E : Type 0} (a : S → List ℕ → Reply E → S → Type 0) (b : T → List ℕ → Reply E → T → Type 0) (f : S → T)
    (same : (s : S) (n : List ℕ) (r : Reply E) (s' : S) → a s n r s' → b (f s) n r (f s')) where
  -- a piece is put out as over the other context
  puts_by : (q : Option (List ℕ)) (x : S × List ℕ) (p : Piece) (y : S × List ℕ) → PutsBy a q x p y → PutsBy b q (f x.0, x.1) p (f y.0, y.1)
  puts_by None x p y h = (ap f h.0, h.1)
  puts_by (Some n) x p y h = (h.0, h.1, same x.0 n h.0 y.0 h.2, h.3, h.4)

  -- and so are pieces in order
  folds : (ps : List Piece) (x y : S × List ℕ) → FoldsTo (Puts a) x ps y → FoldsTo (Puts b) (f x.0, x.1) ps (f y.0, y.1)
  folds [] x y e = ap (λ z. (f z.0, z.1)) e
  folds (p ∷ ps) x y h = ((f h.0.0, h.0.1), puts_by (question p) x p h.0 h.1, folds ps h.0 y h.2)

  -- what is reached is reached over the other context
  pub reaches : (s : S) (t rest out : List ℕ) (s' : S) → Reaches a s t rest out s' → Reaches b (f s) t rest out (f s')
  reaches s t rest out s' h = (h.0, h.1, folds h.0 (s, []) (s', out) h.2)

  -- a text becomes what it becomes over the other context
  pub expands_to : (s : S) (t out : List ℕ) → ExpandsTo a s t out → ExpandsTo b (f s) t out
  expands_to s t out h = (f h.0, reaches s t [] out h.0 h.1)

  -- it fails where it fails over the other context
  pub fails_at : (s : S) (t n : List ℕ) (e : E) → FailsAt a s t n e → FailsAt b (f s) t n e
  fails_at s t n e h = record {
    rest = h.rest;
    out = h.out;
    state = f h.state;
    reached = reaches s t h.rest h.out h.state h.reached;
    piece = h.piece;
    behind = h.behind;
    begins = h.begins;
    asking = h.asking;
    reply = h.reply;
    last = f h.last;
    asked = same h.state n h.reply h.last h.asked;
    error = h.error;
  }

  -- and for the same cause
  pub is_cause : (s : S) (t : List ℕ) (e : Expand E) → IsCause a s t e → IsCause b (f s) t e
  is_cause s t (expand.Lookup l) h = fails_at s t _ _ h
  is_cause s t expand.NoMemory h = tt

  -- a result over one context is one over the other
  pub is_expansion : (s : S) (t : List ℕ) (r : Result (CowStr Global) (Expand E)) → IsExpansion a s t r → IsExpansion b (f s) t r
  is_expansion s t (Ok x) h = expands_to s t _ h
  is_expansion s t (Err e) h = is_cause s t e h

  -- what may be asked for over the other context may be asked for over this one
  pub may_ask : (may : T → List ℕ → Type 0) (may' : S → List ℕ → Type 0) → ((s : S) (n : List ℕ) → may (f s) n → may' s n) → (s : S) (t : List ℕ) → MayAsk b may (f s) t → MayAsk a may' s t
  may_ask may may' weaker s t h = λ rest out s' p behind n r g q. weaker s' n (h rest out (f s') p behind n (reaches s t rest out s' r) g q)

-- what is handed on of a call is an answer of it
pub call_answers : {C R E : Type 0} (called : R → C → Type 0) (x : Result R E) (c : C) → IsCallOf called x c → (y : R) × called y c × (x ≡ Ok y)
call_answers called (Ok y) c h = (y, h, refl)
call_answers called (Err e) c h = absurd h
