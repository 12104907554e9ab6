-- In the run of so many recipes there are as many bodies and as many children.
use Rattle.std.proofs.Common.{◌≡◌, ℕ, ◌+◌, zero, suc, Bool, ◌++◌, refl, ap₂, ◌∙◌, cond, arith}
use Rattle.std.proofs.lemmas.List.Sums.{sum_by-append}
use Rattle.std.specs.Prelude.{count_by, flat_map}
use Rattle.std.specs.List.{range_with_len}
use Rattle.just_sched_history.specs.declared.event.Event.{Event}
use Rattle.just_sched_lines.specs.Lines.{history_text}
use Rattle.just_cli_vectors.specs.Vectors.{body_events, run_events, is_begin, is_start, report_text, report_of, vectors_text}

-- one of each body's events passes a test, so as many do as there are bodies
one_each : (p : Event → Bool) → ((n : ℕ) → count_by p (body_events n) ≡ 1) → (a n : ℕ) → count_by p (flat_map body_events (range_with_len a n)) ≡ n
one_each p each a zero = refl
one_each p each a (suc n) =
    let rest = flat_map body_events (range_with_len (a + 1) n) in
    let both : count_by p (body_events a ++ rest) ≡ count_by p (body_events a) + count_by p rest = sum_by-append (λ x. cond (p x) 1 0) (body_events a) rest in
    let sum : count_by p (body_events a) + count_by p rest ≡ suc n = omega (arith, each a, one_each p each (a + 1) n) in
    both ∙ sum

-- what is told of that run
pub reported : (n : ℕ) → report_of (run_events n) ≡ vectors_text n
reported n = ap₂ (λ b c. report_text b c (history_text (run_events n))) (one_each is_begin (λ k. refl) 0 n) (one_each is_start (λ k. refl) 0 n)
