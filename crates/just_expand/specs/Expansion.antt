-- What a text becomes, by the answers of a context that is asked for its names.
use Rattle.std.specs.Prelude.{◌≡◌, ℕ, List, [], ◌∷◌, ◌++◌, Option, Some, None, Result, Ok, Err}
use Rattle.std.specs.List.{FoldsTo}
use Rattle.just_expand.specs.Bytes.{dollar_sign}
use Rattle.just_expand.specs.Pieces.{Piece, plain, dollar, bare, braced, defaulted, unclosed, lone, piece_text, Begins, Cuts}

-- an answer of a context to a name: a value, that there is none, or an error
abbrev pub Reply : Type 0 → Type 0
Reply E = Result (Option (List ℕ)) E

-- the name that a piece asks for, if it asks
abbrev pub question : Piece → Option (List ℕ)
question (plain t) = None
question dollar = None
question (bare n) = Some n
question (braced n) = Some n
question (defaulted n d) = Some n
question unclosed = None
question lone = None

-- the text that a piece is where it asks for nothing: `$` for `$$`, and any other as it is written
abbrev pub own_text : Piece → List ℕ
own_text (plain t) = t
own_text dollar = dollar_sign ∷ []
own_text (bare n) = piece_text (bare n)
own_text (braced n) = piece_text (braced n)
own_text (defaulted n d) = piece_text (defaulted n d)
own_text unclosed = piece_text unclosed
own_text lone = piece_text lone

-- what a piece becomes where its name has no value: its default, or itself as it is written
abbrev pub text_without_value : Piece → List ℕ
text_without_value (defaulted n d) = d
text_without_value (plain t) = t
text_without_value dollar = piece_text dollar
text_without_value (bare n) = piece_text (bare n)
text_without_value (braced n) = piece_text (braced n)
text_without_value unclosed = piece_text unclosed
text_without_value lone = piece_text lone

-- what a piece becomes where its name gives an error: its default, or that error
abbrev pub error_outcome : {E : Type 0} → Piece → E → Result (List ℕ) E
error_outcome (defaulted n d) e = Ok d
error_outcome (plain t) e = Err e
error_outcome dollar e = Err e
error_outcome (bare n) e = Err e
error_outcome (braced n) e = Err e
error_outcome unclosed e = Err e
error_outcome lone e = Err e

-- what a piece that asks becomes by the answer: the value as it stands, or one of these two
abbrev pub outcome : {E : Type 0} → Piece → Reply E → Result (List ℕ) E
outcome p (Ok (Some v)) = Ok v
outcome p (Ok None) = Ok (text_without_value p)
outcome p (Err e) = error_outcome p e

-- A context with states in S: `asks s n r s'` says that, asked for the name n in the state s, it may answer r, and
-- is then in the state s'. `may s n` says that it may be asked.
module _ {S E : Type 0} (asks : S → List ℕ → Reply E → S → Type 0) where
  -- a piece with that question becomes a text, which goes behind what is put out: from the state and the text s to
  -- those of t
  abbrev pub PutsBy : Option (List ℕ) → S × List ℕ → Piece → S × List ℕ → Type 0
  PutsBy None s p t = (t.0 ≡ s.0) × (t.1 ≡ s.1 ++ own_text p)
  PutsBy (Some n) s p t = (r : Reply E) × (u : List ℕ) × asks s.0 n r t.0 × (outcome p r ≡ Ok u) × (t.1 ≡ s.1 ++ u)

  -- the same of a piece with its own question
  abbrev pub Puts : S × List ℕ → Piece → S × List ℕ → Type 0
  Puts s p t = PutsBy (question p) s p t

  -- the pieces in front of `rest` became the text `out`, one after another, and left the context in the state s'
  abbrev pub Reaches : S → List ℕ → List ℕ → List ℕ → S → Type 0
  Reaches s t rest out s' = (ps : List Piece) × Cuts t ps rest × FoldsTo Puts (s, []) ps (s', out)

  -- the whole text becomes `out`
  abbrev pub ExpandsTo : S → List ℕ → List ℕ → Type 0
  ExpandsTo s t out = (s' : S) × Reaches s t [] out s'

  -- behind pieces that became text stands one that asks for n, whose answer makes it the error e
  pub record FailsAt (s : S) (t n : List ℕ) (e : E) : Type 0 where
    pub rest : List ℕ
    pub out : List ℕ
    pub state : S
    pub reached : Reaches s t rest out state
    pub piece : Piece
    pub behind : List ℕ
    pub begins : Begins rest piece behind
    pub asking : question piece ≡ Some n
    pub reply : Reply E
    pub last : S
    pub asked : asks state n reply last
    pub error : outcome piece reply ≡ Err e

  -- The context may be asked for the name of a piece, once, where all pieces in front of it became text. Nothing else
  -- lets a body ask: so it asks for these names, in this order, and for none behind an error.
  abbrev pub MayAsk : (S → List ℕ → Type 0) → S → List ℕ → Type 0
  MayAsk may s t = (rest out : List ℕ) (s' : S) (p : Piece) (behind n : List ℕ) → Reaches s t rest out s' → Begins rest p behind → question p ≡ Some n → may s' n

  -- no name of the text is asked for: a context that may never be asked serves
  unfoldable pub AsksNothing : S → List ℕ → Type 0
  AsksNothing s t = MayAsk (λ s n. ⊥) s t
