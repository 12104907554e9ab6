-- The text of a history tells it.
use Rattle.std.proofs.Common.{◌≡◌, ℕ, ◌<◌, List, [], ◌∷◌, ◌++◌, length, drop, refl, sym, ap, ◌∙◌, append_assoc, length-append, arith}
use Rattle.std.proofs.lemmas.List.{append_cancel_left}
use Rattle.just_sched_history.specs.declared.event.Event.{Event}
use Rattle.just_sched_lines.specs.Lines.{line_of, history_text}
use Rattle.just_sched_lines.specs.Fitting.{AreFitting}
use Rattle.just_sched_lines.proofs.Reading.{event_in}
use Rattle.just_sched_lines.proofs.Back.{read_back}

-- the first line, its newline and the others
parted : (e : Event) (h : List Event) → history_text (e ∷ h) ≡ line_of e ++ (10 ∷ history_text h)
parted e h = append_assoc (line_of e) (10 ∷ []) (history_text h)

-- a line takes a byte at least
filled : (e : Event) (h : List Event) → 0 < length (history_text (e ∷ h))
filled e h =
    omega (arith, ap (λ (t : List ℕ). length t) (parted e h), length-append (line_of e) (10 ∷ history_text h))

-- one text is that of one history
pub tells : (h k : List Event) → AreFitting h → AreFitting k → history_text h ≡ history_text k → k ≡ h
tells [] [] p q same = refl
tells [] (f ∷ k) p q same = absurd (omega (arith, ap (λ (t : List ℕ). length t) same, filled f k))
tells (e ∷ h) [] p q same = absurd (omega (arith, ap (λ (t : List ℕ). length t) same, filled e h))
tells (e ∷ h) (f ∷ k) p q same =
    let lines : line_of e ++ (10 ∷ history_text h) ≡ line_of f ++ (10 ∷ history_text k)
    = sym (parted e h) ∙ same ∙ parted f k in
    let events : f ≡ e
    = sym (read_back f (history_text k) q.0) ∙ ap (λ (t : List ℕ). event_in t) (sym lines) ∙ read_back e (history_text h) p.0 in
    let others : history_text h ≡ history_text k
    = ap (λ (t : List ℕ). drop 1 t) (append_cancel_left (line_of e) (10 ∷ history_text h) (10 ∷ history_text k)
    (lines ∙ ap (λ (g : Event). line_of g ++ (10 ∷ history_text k)) events)) in
    let behind : k ≡ h = tells h k p.1 q.1 others in
    λ i. events i ∷ behind i
