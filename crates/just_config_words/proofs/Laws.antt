-- What the words mean is one thing: of two meanings of the same words in the same environment, both are the same fault, or both ask for the
-- same.
use Rattle.std.proofs.Common.{◌≡◌, ℕ, zero, suc, Bool, true, false, not, ◌&&◌, ◌||◌, List, [], ◌∷◌, ◌++◌, refl, sym, ◌∙◌, ap, subst, drop, Option}
use Rattle.std.specs.Prelude.{Some, None, Result, Ok, Err, codes}
use Rattle.std.proofs.lemmas.Slice.Eq.{bytes_eq-Decides}
use Rattle.std.specs.List.{list_any}
use Rattle.just_config_words.specs.declared.arguments.Arguments.{Arguments}
use Rattle.just_config_words.specs.declared.parsed.ParsedOption.{ParsedOption}
use Rattle.just_config_words.specs.declared.occurrence.Occurrence.{Occurrence}
use Rattle.just_config_words.specs.declared.usage.Usage.{Usage}
use Rattle.just_config_words.specs.declared.usage.UsageKind.{UsageKind}
use Rattle.just_config_words.specs.declared.usage.UsageKind.TheVariants as usage
use Rattle.just_config_words.specs.declared.words.Read.{Read}
use Rattle.just_config_words.specs.declared.words.Read.TheVariants as read
use Rattle.just_config_words.specs.Table.{table}
use Rattle.just_config_words.specs.Parsed.{is_value, ends_options, parsed_options, words_taken}
use Rattle.just_config_words.specs.Faults.{fault_of, occurrences, asks_for_help, asks_for_version}
use Rattle.just_config_words.specs.Front.{AreOptions, none, more, AreSplit, ended, delimited, began, IsNext, has_options, is_question}
use Rattle.just_config_words.specs.Variables.{Pairs, first_ill, filled}
use Rattle.just_config_words.specs.Rules.{conflict, missing}
use Rattle.just_config_words.specs.Arguments.{AreArguments}
use Rattle.just_config_words.specs.Words.{Means, IsSame, fault, single, help, version, variable, conflicts, requires_other, sound}
use Rattle.just_config_words.proofs.Questions.{one_question}

-- ---- the words with options, one by one

-- the options that are read, and the words that are left
abbrev State : Type 0
State = List Occurrence × List (List ℕ)

abbrev turn_of : List Occurrence → List ℕ → List (List ℕ) → Bool → Option UsageKind → Bool → Option State
turn_of g w ws true None false = Some (g ++ occurrences w (parsed_options w ws), drop (words_taken (parsed_options w ws)) ws)
turn_of g w ws _ _ _ = None

-- what one more word with options leaves, where it has no fault and asks for nothing
abbrev turn : State → Option State
turn (g, []) = None
turn (g, (w ∷ ws)) = turn_of g w ws (has_options w) (fault_of g (parsed_options w ws)) (is_question (parsed_options w ws))

turn_at : (g : List Occurrence) (w : List ℕ) (ws : List (List ℕ)) (b : Bool) (f : Option UsageKind) (q : Bool) → b ≡ true → f ≡ None → q ≡ false
    → turn_of g w ws b f q ≡ Some (g ++ occurrences w (parsed_options w ws), drop (words_taken (parsed_options w ws)) ws)
turn_at g w ws true None false h k l = refl
turn_at g w ws true None true h k l = let f : ⊥ = cc in absurd f
turn_at g w ws true (Some u) q h k l = let f : ⊥ = cc in absurd f
turn_at g w ws false u q h k l = let f : ⊥ = cc in absurd f

-- what so many words with options leave
abbrev run : ℕ → State → Option State
run zero s = Some s
run (suc n) s = elim (turn s) [ None ↦ None | Some t ↦ run n t ]

abbrev run_from : ℕ → Option State → Option State
run_from n o = elim o [ None ↦ None | Some t ↦ run n t ]

one_more_from : (n : ℕ) (o : Option State) (t u : State) → ((v : State) → run n v ≡ Some t → run (suc n) v ≡ Some u) → run_from n o ≡ Some t → run_from (suc n) o ≡ Some u
one_more_from n None t u ih e = let f : ⊥ = cc in absurd f
one_more_from n (Some v) t u ih e = ih v e

one_more : (n : ℕ) (s t u : State) → run n s ≡ Some t → turn t ≡ Some u → run (suc n) s ≡ Some u
one_more zero s t u e f =
    let p : t ≡ s = cc in
    let q : turn s ≡ Some u = subst (λ (x : State). turn x ≡ Some u) p f in
    ap (run_from zero) q
one_more (suc n) s t u e f = one_more_from n (turn s) t u (λ v h. one_more n v t u h f) e

-- where no word follows that is read, so many words were read
one_end_from : (n m : ℕ) (o : Option State) (t u : State) → ((v : State) → run n v ≡ Some t → run m v ≡ Some u → t ≡ u) → run_from n o ≡ Some t → run_from m o ≡ Some u → t ≡ u
one_end_from n m None t u ih e f = let g : ⊥ = cc in absurd g
one_end_from n m (Some v) t u ih e f = ih v e f

no_further : (m : ℕ) (s t u : State) → s ≡ t → turn t ≡ None → run (suc m) s ≡ Some u → t ≡ u
no_further m s t u e f g =
    let p : turn s ≡ None = subst (λ (x : State). turn x ≡ None) (sym e) f in
    let q : run_from m None ≡ Some u = ap (run_from m) (sym p) ∙ g in
    let r : ⊥ = cc in
    absurd r

one_end : (n m : ℕ) (s t u : State) → run n s ≡ Some t → turn t ≡ None → run m s ≡ Some u → turn u ≡ None → t ≡ u
one_end zero zero s t u a b c d = cc
one_end zero (suc m) s t u a b c d = no_further m s t u (cc) b c
one_end (suc n) zero s t u a b c d = sym (no_further n s u t (cc) d a)
one_end (suc n) (suc m) s t u a b c d = one_end_from n m (turn s) t u (λ v h k. one_end n m v t u h b k d) a c

reached : (words : List (List ℕ)) (given : List Occurrence) (rest : List (List ℕ)) → AreOptions words given rest → (n : ℕ) × (run n ([], words) ≡ Some (given, rest))
reached words _ _ (none given rest e f) = (0, cc)
reached words _ _ (more before w ws given rest a h k l e f) =
    let p = reached words before (w ∷ ws) a in
    let q : turn (before, (w ∷ ws)) ≡ Some (before ++ occurrences w (parsed_options w ws), drop (words_taken (parsed_options w ws)) ws) =
    turn_at before w ws (has_options w) (fault_of before (parsed_options w ws)) (is_question (parsed_options w ws)) h k l in
    let r : turn (before, (w ∷ ws)) ≡ Some (given, rest) =
    subst (λ (x : List Occurrence). turn (before, (w ∷ ws)) ≡ Some (x, rest)) (sym e)
    (subst (λ (y : List (List ℕ)). turn (before, (w ∷ ws)) ≡ Some (before ++ occurrences w (parsed_options w ws), y)) (sym f) q) in
    (suc p.0, one_more p.0 ([], words) (before, (w ∷ ws)) (given, rest) p.1 r)

-- ---- where the options end

data End : Type 0 where
  Split : List Occurrence → List (List ℕ) → End
  Faulty : Usage → End
  Helps : End
  Versions : End

abbrev end_of : List Occurrence → List ℕ → List (List ℕ) → Bool → Bool → Option UsageKind → Bool → Bool → Option End
end_of g w ws true e f h v = Some (Split g (w ∷ ws))
end_of g w ws false true f h v = Some (Split g ws)
end_of g w ws false false (Some k) h v = Some (Faulty (fault k w))
end_of g w ws false false None true v = Some Helps
end_of g w ws false false None false true = Some Versions
end_of g w ws false false None false false = None

-- what stands where no further word with options is read
abbrev end_at : State → Option End
end_at (g, []) = Some (Split g [])
end_at (g, (w ∷ ws)) = end_of g w ws (is_value w) (ends_options w) (fault_of g (parsed_options w ws)) (list_any asks_for_help (parsed_options w ws)) (list_any asks_for_version (parsed_options w ws))

no_turn_of : (g : List Occurrence) (w : List ℕ) (ws : List (List ℕ)) (v e : Bool) (f : Option UsageKind) (h q : Bool) (x : End)
    → end_of g w ws v e f h q ≡ Some x → turn_of g w ws (not v && not e) f (h || q) ≡ None
no_turn_of g w ws true e f h q x k = refl
no_turn_of g w ws false true f h q x k = refl
no_turn_of g w ws false false (Some y) h q x k = refl
no_turn_of g w ws false false None true q x k = refl
no_turn_of g w ws false false None false true x k = refl
no_turn_of g w ws false false None false false x k = let y : ⊥ = cc in absurd y

no_turn : (s : State) (x : End) → end_at s ≡ Some x → turn s ≡ None
no_turn (g, []) x e = refl
no_turn (g, (w ∷ ws)) x e =
    no_turn_of g w ws (is_value w) (ends_options w) (fault_of g (parsed_options w ws)) (list_any asks_for_help (parsed_options w ws)) (list_any asks_for_version (parsed_options w ws)) x e

faulty_end : (g : List Occurrence) (w : List ℕ) (ws : List (List ℕ)) (v e : Bool) (f : Option UsageKind) (h q : Bool) (k : UsageKind)
    → (not v && not e) ≡ true → f ≡ Some k → end_of g w ws v e f h q ≡ Some (Faulty (fault k w))
faulty_end g w ws true e f h q k p r = let y : ⊥ = cc in absurd y
faulty_end g w ws false true f h q k p r = let y : ⊥ = cc in absurd y
faulty_end g w ws false false None h q k p r = let y : ⊥ = cc in absurd y
faulty_end g w ws false false (Some j) h q k p r = let y : j ≡ k = cc in ap (λ (i : UsageKind). Some (Faulty (fault i w))) y

help_end : (g : List Occurrence) (w : List ℕ) (ws : List (List ℕ)) (v e : Bool) (f : Option UsageKind) (h q : Bool)
    → (not v && not e) ≡ true → f ≡ None → h ≡ true → end_of g w ws v e f h q ≡ Some Helps
help_end g w ws true e f h q p r t = let y : ⊥ = cc in absurd y
help_end g w ws false true f h q p r t = let y : ⊥ = cc in absurd y
help_end g w ws false false (Some j) h q p r t = let y : ⊥ = cc in absurd y
help_end g w ws false false None true q p r t = refl
help_end g w ws false false None false q p r t = let y : ⊥ = cc in absurd y

version_end : (g : List Occurrence) (w : List ℕ) (ws : List (List ℕ)) (v e : Bool) (f : Option UsageKind) (h q : Bool)
    → (not v && not e) ≡ true → f ≡ None → h ≡ false → q ≡ true → end_of g w ws v e f h q ≡ Some Versions
version_end g w ws true e f h q p r t u = let y : ⊥ = cc in absurd y
version_end g w ws false true f h q p r t u = let y : ⊥ = cc in absurd y
version_end g w ws false false (Some j) h q p r t u = let y : ⊥ = cc in absurd y
version_end g w ws false false None true q p r t u = let y : ⊥ = cc in absurd y
version_end g w ws false false None false true p r t u = refl
version_end g w ws false false None false false p r t u = let y : ⊥ = cc in absurd y

value_end : (g : List Occurrence) (w : List ℕ) (ws : List (List ℕ)) (v e : Bool) (f : Option UsageKind) (h q : Bool) → v ≡ true → end_of g w ws v e f h q ≡ Some (Split g (w ∷ ws))
value_end g w ws true e f h q p = refl
value_end g w ws false e f h q p = let y : ⊥ = cc in absurd y

-- the word that ends the options is no value
delimited_end : (g : List Occurrence) (w : List ℕ) (ws : List (List ℕ)) (v e : Bool) (f : Option UsageKind) (h q : Bool) → v ≡ false → e ≡ true → end_of g w ws v e f h q ≡ Some (Split g ws)
delimited_end g w ws true e f h q p r = let y : ⊥ = cc in absurd y
delimited_end g w ws false true f h q p r = refl
delimited_end g w ws false false f h q p r = let y : ⊥ = cc in absurd y

no_value : (w : List ℕ) → ends_options w ≡ true → is_value w ≡ false
no_value w e = ap is_value ((bytes_eq-Decides w (codes "--")).0 e)

-- ---- what an end means

abbrev refusal_of : Option (List ℕ) → Option (List ℕ) → Option (List ℕ) → Option Usage
refusal_of (Some v) c m = Some (fault usage.BadValue v)
refusal_of None (Some w) m = Some (fault usage.Conflict w)
refusal_of None None (Some w) = Some (fault usage.Requires w)
refusal_of None None None = None

abbrev TellsOf : Pairs → List Occurrence → List (List ℕ) → Option Usage → Result Read Usage → Type 0
TellsOf environ g p (Some u) r = r ≡ Err u
TellsOf environ g p None r = (a : Arguments) × (r ≡ Ok (read.Go a)) × AreArguments (filled environ g) p a

abbrev Tells : Pairs → End → Result Read Usage → Type 0
Tells environ (Split g p) r = TellsOf environ g p (refusal_of (first_ill environ g table) (conflict g p) (missing g (filled environ g))) r
Tells environ (Faulty u) r = r ≡ Err u
Tells environ Helps r = r ≡ Ok read.Help
Tells environ Versions r = r ≡ Ok read.Version

same_refusal : (u v : Usage) (r s : Result Read Usage) → u ≡ v → r ≡ Err u → s ≡ Err v → IsSame r s
same_refusal u v (Err x) (Err y) e p q = cc
same_refusal u v (Err x) (Ok y) e p q = let z : ⊥ = cc in absurd z
same_refusal u v (Ok x) s e p q = let z : ⊥ = cc in absurd z

same_go : (f : List Occurrence) (p : List (List ℕ)) (a b : Arguments) (r s : Result Read Usage) → r ≡ Ok (read.Go a) → s ≡ Ok (read.Go b) → AreArguments f p a → AreArguments f p b → IsSame r s
same_go f p a b r s x y h k =
    subst (λ (t : Result Read Usage). IsSame t s) (sym x) (subst (λ (t : Result Read Usage). IsSame (Ok (read.Go a)) t) (sym y) (f, p, h, k))

one_telling_of : (environ : Pairs) (g : List Occurrence) (p : List (List ℕ)) (o : Option Usage) (r s : Result Read Usage) → TellsOf environ g p o r → TellsOf environ g p o s → IsSame r s
one_telling_of environ g p (Some u) r s h k = same_refusal u u r s refl h k
one_telling_of environ g p None r s h k = same_go (filled environ g) p h.0 k.0 r s h.1 k.1 h.2 k.2

one_telling : (environ : Pairs) (e : End) (r s : Result Read Usage) → Tells environ e r → Tells environ e s → IsSame r s
one_telling environ (Split g p) r s h k = one_telling_of environ g p (refusal_of (first_ill environ g table) (conflict g p) (missing g (filled environ g))) r s h k
one_telling environ (Faulty u) r s h k = same_refusal u u r s refl h k
one_telling environ Helps r s h k = subst (λ (t : Result Read Usage). IsSame t s) (sym h) (subst (λ (t : Result Read Usage). IsSame (Ok read.Help) t) (sym k) tt)
one_telling environ Versions r s h k = subst (λ (t : Result Read Usage). IsSame t s) (sym h) (subst (λ (t : Result Read Usage). IsSame (Ok read.Version) t) (sym k) tt)

-- ---- what the words mean, by where their options end

record IsTold (words : List (List ℕ)) (environ : Pairs) (r : Result Read Usage) : Type 0 where
  turns : ℕ
  state : State
  end : End
  runs : run turns ([], words) ≡ Some state
  ends : end_at state ≡ Some end
  tells : Tells environ end r

told : (words : List (List ℕ)) (environ : Pairs) (r : Result Read Usage) (given : List Occurrence) (rest : List (List ℕ)) (e : End)
    → AreOptions words given rest → end_at (given, rest) ≡ Some e → Tells environ e r → IsTold words environ r
told words environ r given rest e a h k = let p = reached words given rest a in record { turns = p.0; state = (given, rest); end = e; runs = p.1; ends = h; tells = k }

told_split : (words : List (List ℕ)) (environ : Pairs) (r : Result Read Usage) (given : List Occurrence) (positional : List (List ℕ)) → AreSplit words given positional
    → Tells environ (Split given positional) r → IsTold words environ r
told_split words environ r given positional (ended a e) k = told words environ r given [] (Split given positional) a (ap (λ (t : List (List ℕ)). Some (Split given t)) (sym e)) k
told_split words environ r given positional (delimited w a e) k =
    told words environ r given (w ∷ positional) (Split given positional) a
    (delimited_end given w positional (is_value w) (ends_options w) (fault_of given (parsed_options w positional)) (list_any asks_for_help (parsed_options w positional)) (list_any asks_for_version (parsed_options w positional)) (no_value w e) e) k
told_split words environ r given positional (began w ws a v e) k =
    told words environ r given (w ∷ ws) (Split given positional) a
    (value_end given w ws (is_value w) (ends_options w) (fault_of given (parsed_options w ws)) (list_any asks_for_help (parsed_options w ws)) (list_any asks_for_version (parsed_options w ws)) v
    ∙ ap (λ (t : List (List ℕ)). Some (Split given t)) (sym e)) k

tells_ill : (environ : Pairs) (g : List Occurrence) (p : List (List ℕ)) (a b c : Option (List ℕ)) (v : List ℕ) → a ≡ Some v → TellsOf environ g p (refusal_of a b c) (Err (fault usage.BadValue v))
tells_ill environ g p None b c v e = let f : ⊥ = cc in absurd f
tells_ill environ g p (Some x) b c v e = let f : v ≡ x = cc in ap (λ (t : List ℕ). Err (fault usage.BadValue t)) f

tells_conflict : (environ : Pairs) (g : List Occurrence) (p : List (List ℕ)) (a b c : Option (List ℕ)) (v : List ℕ) → a ≡ None → b ≡ Some v
    → TellsOf environ g p (refusal_of a b c) (Err (fault usage.Conflict v))
tells_conflict environ g p (Some x) b c v d e = let f : ⊥ = cc in absurd f
tells_conflict environ g p None None c v d e = let f : ⊥ = cc in absurd f
tells_conflict environ g p None (Some x) c v d e = let f : v ≡ x = cc in ap (λ (t : List ℕ). Err (fault usage.Conflict t)) f

tells_missing : (environ : Pairs) (g : List Occurrence) (p : List (List ℕ)) (a b c : Option (List ℕ)) (v : List ℕ) → a ≡ None → b ≡ None → c ≡ Some v
    → TellsOf environ g p (refusal_of a b c) (Err (fault usage.Requires v))
tells_missing environ g p (Some x) b c v d e h = let f : ⊥ = cc in absurd f
tells_missing environ g p None (Some x) c v d e h = let f : ⊥ = cc in absurd f
tells_missing environ g p None None None v d e h = let f : ⊥ = cc in absurd f
tells_missing environ g p None None (Some x) v d e h = let f : v ≡ x = cc in ap (λ (t : List ℕ). Err (fault usage.Requires t)) f

tells_go : (environ : Pairs) (g : List Occurrence) (p : List (List ℕ)) (a b c : Option (List ℕ)) (x : Arguments) → a ≡ None → b ≡ None → c ≡ None → AreArguments (filled environ g) p x
    → TellsOf environ g p (refusal_of a b c) (Ok (read.Go x))
tells_go environ g p (Some y) b c x d e h k = let f : ⊥ = cc in absurd f
tells_go environ g p None (Some y) c x d e h k = let f : ⊥ = cc in absurd f
tells_go environ g p None None (Some y) x d e h k = let f : ⊥ = cc in absurd f
tells_go environ g p None None None x d e h k = (x, refl, k)

told_word : (words : List (List ℕ)) (environ : Pairs) (r : Result Read Usage) (given : List Occurrence) (w : List ℕ) (ms : List ParsedOption) (e : End) (at : IsNext words given w ms)
    → end_at (given, (w ∷ at.behind)) ≡ Some e → Tells environ e r → IsTold words environ r
told_word words environ r given w ms e at h k = told words environ r given (w ∷ at.behind) e at.before h k

means_told : (words : List (List ℕ)) (environ : Pairs) (r : Result Read Usage) → Means words environ r → IsTold words environ r
means_told words environ _ (single k w f) =
    let n = f.at.behind in
    told words environ (Err (fault k w)) f.given (w ∷ n) (Faulty (fault k w)) f.at.before
    (faulty_end f.given w n (is_value w) (ends_options w) (fault_of f.given (parsed_options w n)) (list_any asks_for_help (parsed_options w n)) (list_any asks_for_version (parsed_options w n)) k f.at.has
    (subst (λ (t : List ParsedOption). fault_of f.given t ≡ Some k) f.at.are f.fault)) refl
means_told words environ _ (help q) =
    let n = q.at.behind in
    told words environ (Ok read.Help) q.given (q.w ∷ n) Helps q.at.before
    (help_end q.given q.w n (is_value q.w) (ends_options q.w) (fault_of q.given (parsed_options q.w n)) (list_any asks_for_help (parsed_options q.w n)) (list_any asks_for_version (parsed_options q.w n)) q.at.has
    (subst (λ (t : List ParsedOption). fault_of q.given t ≡ None) q.at.are q.sound)
    (subst (λ (t : List ParsedOption). list_any asks_for_help t ≡ true) q.at.are q.asked)) refl
means_told words environ _ (version q) =
    let n = q.at.behind in
    let v : list_any asks_for_version (parsed_options q.w n) ≡ true = subst (λ (t : List ParsedOption). list_any asks_for_version t ≡ true) q.at.are q.asked in
    told words environ (Ok read.Version) q.given (q.w ∷ n) Versions q.at.before
    (version_end q.given q.w n (is_value q.w) (ends_options q.w) (fault_of q.given (parsed_options q.w n)) (list_any asks_for_help (parsed_options q.w n)) (list_any asks_for_version (parsed_options q.w n)) q.at.has
    (subst (λ (t : List ParsedOption). fault_of q.given t ≡ None) q.at.are q.sound) (one_question q.w n v) v) refl
means_told words environ _ (variable g p v s f) =
    told_split words environ (Err (fault usage.BadValue v)) g p s (tells_ill environ g p (first_ill environ g table) (conflict g p) (missing g (filled environ g)) v f)
means_told words environ _ (conflicts g p v s f c) =
    told_split words environ (Err (fault usage.Conflict v)) g p s (tells_conflict environ g p (first_ill environ g table) (conflict g p) (missing g (filled environ g)) v f c)
means_told words environ _ (requires_other g p v s f c m) =
    told_split words environ (Err (fault usage.Requires v)) g p s (tells_missing environ g p (first_ill environ g table) (conflict g p) (missing g (filled environ g)) v f c m)
means_told words environ _ (sound g p a s f c m k) =
    told_split words environ (Ok (read.Go a)) g p s (tells_go environ g p (first_ill environ g table) (conflict g p) (missing g (filled environ g)) a f c m k)

-- the words mean one thing
pub one_meaning : (words : List (List ℕ)) (environ : Pairs) (r s : Result Read Usage) → Means words environ r → Means words environ s → IsSame r s
one_meaning words environ r s h k =
    let a = means_told words environ r h in
    let b = means_told words environ s k in
    let e : a.state ≡ b.state = one_end a.turns b.turns ([], words) a.state b.state a.runs (no_turn a.state a.end a.ends) b.runs (no_turn b.state b.end b.ends) in
    let f : end_at a.state ≡ Some b.end = subst (λ (x : State). end_at x ≡ Some b.end) (sym e) b.ends in
    let p : a.end ≡ b.end = cc (a.ends, f) in
    one_telling environ b.end r s (subst (λ (x : End). Tells environ x r) p a.tells) b.tells
