-- A text that is refused has no expansion.
use Rattle.std.proofs.Common.{◌≡◌, ℕ, List, [], ◌∷◌, ◌++◌, refl, sym, ◌∙◌, subst, ap}
use Rattle.std.specs.Prelude.{Option, Some, None, Ok, Err, string_bytes}
use Rattle.std.specs.List.{FoldsTo}
use Rattle.just_path_text.specs.Environ.{value_of}
use Rattle.just_expand.specs.Pieces.{Piece, plain, dollar, bare, braced, defaulted, unclosed, lone, piece_text, StandsBefore, Begins, Cuts}
use Rattle.just_expand.specs.Expansion.{question, outcome, Puts, PutsBy}
use Rattle.just_expand.specs.Contexts.{EnvironAnswers, environ_reply, IsCause}
use Rattle.just_expand.specs.declared.error.NotPresent.{NotPresent}
use Rattle.just_expand.specs.declared.error.LookupError.{LookupError}
use Rattle.just_expand.specs.declared.error.Expand.{Expand}
use Rattle.just_expand.specs.declared.error.Expand.TheVariants as expand
use Rattle.just_expand.proofs.OneCut.{unique}
use Rattle.just_lang_layout.specs.Paths.{Pairs, ExpandsIf}

-- a piece takes a byte at least
takes : (p : Piece) (u : List ℕ) → StandsBefore p u → [] ≡ piece_text p ++ u → ⊥
takes (plain []) u h e = h.0 refl
takes (plain (x ∷ xs)) u h e = cc
takes dollar u h e = cc
takes (bare n) u h e = cc
takes (braced n) u h e = cc
takes (defaulted n d) u h e = cc
takes unclosed u h e = cc
takes lone u h e = cc

abbrev State : Type 0
State = Pairs × List ℕ

-- a piece leaves the environment
piece_keeps : (q : Option (List ℕ)) (s : State) (p : Piece) (t : State) → PutsBy EnvironAnswers q s p t → t.0 ≡ s.0
piece_keeps None s p t h = h.0
piece_keeps (Some n) s p t h = h.2.1

-- and so do pieces
keeps : (ps : List Piece) (s t : State) → FoldsTo (Puts EnvironAnswers) s ps t → t.0 ≡ s.0
keeps [] s t h = ap (λ (x : State). x.0) (sym h)
keeps (p ∷ ps) s t h = keeps ps h.0 t h.2 ∙ piece_keeps (question p) s p h.0 h.1

-- a piece whose name gives an error becomes no text
gives_none : (pairs : Pairs) (q : Option (List ℕ)) (n : List ℕ) (p : Piece) (e : NotPresent) (a b : State)
    → q ≡ Some n → outcome p (environ_reply (value_of n pairs)) ≡ Err e → a.0 ≡ pairs → PutsBy EnvironAnswers q a p b → ⊥
gives_none pairs None n p e a b at error same h = cc
gives_none pairs (Some m) n p e a b at error same h =
    let reply : h.0 ≡ environ_reply (value_of m a.0) = h.2.0 in
    let name : m ≡ n = cc in
    let told : outcome p (environ_reply (value_of n pairs)) ≡ Ok h.1 =
    ap (λ (k : List ℕ). outcome p (environ_reply (value_of k pairs))) (sym name) ∙ ap (λ (ps : Pairs). outcome p (environ_reply (value_of m ps))) (sym same) ∙ ap (λ r. outcome p r) (sym reply) ∙ h.3 in
    cc

-- a text with such a piece has no expansion
no_expansion : (pairs : Pairs) (t rest behind n : List ℕ) (piece : Piece) (e : NotPresent) (ps qs : List Piece) (a b : State)
    → Cuts t ps rest → Begins rest piece behind → question piece ≡ Some n → outcome piece (environ_reply (value_of n pairs)) ≡ Err e
    → Cuts t qs [] → a.0 ≡ pairs → FoldsTo (Puts EnvironAnswers) a qs b → ⊥
no_expansion pairs t rest behind n piece e [] [] a b c g q error d same h = takes piece behind g.1 (sym d ∙ c ∙ g.0)
no_expansion pairs t rest behind n piece e [] (k ∷ qs) a b c g q error d same h =
    let first = unique piece k behind d.0 (sym g.0 ∙ sym c ∙ d.1.0) g.1 d.1.1 in
    let P : Piece → Type 0 = λ p. Puts EnvironAnswers a p h.0 in
    gives_none pairs (question piece) n piece e a h.0 q error same (subst P (sym first.0) h.1)
no_expansion pairs t rest behind n piece e (p ∷ ps) [] a b c g q error d same h = takes p c.0 c.1.1 (sym d ∙ c.1.0)
no_expansion pairs t rest behind n piece e (p ∷ ps) (k ∷ qs) a b c g q error d same h =
    let first = unique p k c.0 d.0 (sym c.1.0 ∙ d.1.0) c.1.1 d.1.1 in
    let P : List ℕ → Type 0 = λ w. Cuts w qs [] in
    no_expansion pairs c.0 rest behind n piece e ps qs h.0 b c.2 g q error (subst P (sym first.1) d.2) (piece_keeps (question k) a k h.0 h.1 ∙ same) h.2

-- a text that is refused for a name has none
pub refused : (environ : Pairs) (text : List ℕ) (l : LookupError NotPresent) → IsCause EnvironAnswers environ text (expand.Lookup l) → ExpandsIf environ (Some text) None
refused environ text l f = λ out x.
    let state : f.state ≡ environ = keeps f.reached.0 (environ, []) (f.state, f.out) f.reached.2 in
    let error : outcome f.piece (environ_reply (value_of (string_bytes l.var_name) environ)) ≡ Err l.cause =
    ap (λ (ps : Pairs). outcome f.piece (environ_reply (value_of (string_bytes l.var_name) ps))) (sym state) ∙ ap (λ r. outcome f.piece r) (sym f.asked.0) ∙ f.error in
    no_expansion environ text f.rest f.behind (string_bytes l.var_name) f.piece l.cause f.reached.0 x.1.1.0 (environ, []) (x.1.0, x.0) f.reached.1 f.begins f.asking error x.1.1.1 refl x.1.1.2

pub refused_by : (environ : Pairs) (text : List ℕ) (x : Expand NotPresent) (l : LookupError NotPresent) → x ≡ expand.Lookup l → IsCause EnvironAnswers environ text x → ExpandsIf environ (Some text) None
refused_by environ text x l e f = refused environ text l (subst (IsCause EnvironAnswers environ text) e f)
