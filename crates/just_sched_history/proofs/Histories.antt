-- How a legal history, and a match, go on by one event.
use Rattle.std.proofs.Common.{List, [], ◌∷◌, ◌++◌, refl, ap, sym, ◌∙◌, subst, append_assoc, append-nil}
use Rattle.just_host_record.specs.declared.entry.Entry.{Entry}
use Rattle.just_sched_history.specs.declared.event.Event.{Event}
use Rattle.just_sched_history.specs.Legal.{Run, May, LegalFrom, IsLegal}
use Rattle.just_sched_history.specs.Match.{StandsFor, MatchesFrom, Matches}

-- legal events go on by one, behind those before
legal_from_more : (s : Run) (before h : List Event) (e : Event) → LegalFrom s before h → May s (before ++ h) e → LegalFrom s before (h ++ e ∷ [])
legal_from_more s before [] e l m = (subst (λ k. May s k e) (append-nil before) m, tt)
legal_from_more s before (x ∷ h) e l m = (l.0, legal_from_more s (before ++ x ∷ []) h e l.1 (subst (λ k. May s k e) (sym (append_assoc before (x ∷ []) h)) m))

-- a legal history goes on by an event that may come behind it
pub legal_more : (s : Run) (h : List Event) (e : Event) → IsLegal s h → May s h e → IsLegal s (h ++ e ∷ [])
legal_more s h e l m = legal_from_more s [] h e l m

-- what each legal event keeps holds behind more events
legal_from : (s : Run) (P : List Event → Type 0) → ((h : List Event) (e : Event) → IsLegal s h → P h → May s h e → P (h ++ e ∷ [])) → (before h : List Event) → IsLegal s before → P before → LegalFrom s before h → P (before ++ h)
legal_from s P step before [] legal p l = subst P (sym (append-nil before)) p
legal_from s P step before (x ∷ h) legal p l =
    subst P (append_assoc before (x ∷ []) h) (legal_from s P step (before ++ x ∷ []) h (legal_more s before x legal l.0) (step before x legal p l.0) l.1)

-- what holds of the empty history, and goes on by each event that may come, holds of each legal history
pub legal_holds : (s : Run) (P : List Event → Type 0) → P [] → ((h : List Event) (e : Event) → IsLegal s h → P h → May s h e → P (h ++ e ∷ [])) → (h : List Event) → IsLegal s h → P h
legal_holds s P none step h l = legal_from s P step [] h tt none l

-- matched events go on by one, behind those before
matches_from_more : (s : Run) (before h : List Event) (e : Event) (es fs : List Entry) → MatchesFrom s before h es → StandsFor s (before ++ h) e fs → MatchesFrom s before (h ++ e ∷ []) (es ++ fs)
matches_from_more s before [] e es fs m stands =
    (fs, [], ap (λ k. k ++ fs) m ∙ sym (append-nil fs), subst (λ k. StandsFor s k e fs) (append-nil before) stands, refl)
matches_from_more s before (x ∷ h) e es fs m stands =
    (m.0, m.1 ++ fs, ap (λ k. k ++ fs) m.2 ∙ append_assoc m.0 m.1 fs, m.3, matches_from_more s (before ++ x ∷ []) h e m.1 fs m.4 (subst (λ k. StandsFor s k e fs) (sym (append_assoc before (x ∷ []) h)) stands))

-- a match goes on by an event and the entries that it stands for
pub matches_more : (s : Run) (h : List Event) (e : Event) (es fs : List Entry) → Matches s h es → StandsFor s h e fs → Matches s (h ++ e ∷ []) (es ++ fs)
matches_more s h e es fs m stands = matches_from_more s [] h e es fs m stands
