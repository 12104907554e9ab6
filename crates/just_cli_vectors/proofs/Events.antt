-- Events that are tested to be those of a body are.
use Rattle.std.proofs.Common.{◌≡◌, ℕ, ◌-◌, ◌==◌, ◌≤◌, ◌&&◌, ◌++◌, Bool, true, false, true≢false, List, [], ◌∷◌, length, get_or, take, drop, refl, sym, ap, eqb-true, pos, arith}
use Rattle.std.proofs.lemmas.List.{take_all}
use Rattle.std.proofs.lemmas.Bool.Decides.{Decides-int_eq}
use Rattle.just_exec_work.specs.Steps.{is_code}
use Rattle.just_host_record.specs.declared.entry.Status.{Status}
use Rattle.just_host_record.specs.declared.entry.Status.TheVariants as status
use Rattle.just_sched_history.specs.declared.event.Event.{Event}
use Rattle.just_sched_history.specs.declared.event.Event.TheVariants as event
use Rattle.just_sched_history.specs.declared.event.Outcome.TheVariants as outcome
use Rattle.just_sched_history.specs.State.{takes, begins, concludes_well, gives}
use Rattle.just_cli_vectors.specs.Vectors.{starts_as, ends_as, are_of_body, body_events}

-- ---- tests that pass together pass each

three : (a b c : Bool) → (a && b && c) ≡ true → (a ≡ true) × (b ≡ true) × (c ≡ true)
three true true true q = (refl, refl, refl)
three true true false q = absurd (true≢false (sym q))
three true false c q = absurd (true≢false (sym q))
three false b c q = absurd (true≢false (sym q))

four : (a b c d : Bool) → (a && b && c && d) ≡ true → (a ≡ true) × (b ≡ true) × (c ≡ true) × (d ≡ true)
four true true true true q = (refl, refl, refl, refl)
four true true true false q = absurd (true≢false (sym q))
four true true false d q = absurd (true≢false (sym q))
four true false c d q = absurd (true≢false (sym q))
four false b c d q = absurd (true≢false (sym q))

six : (a b c d e f : Bool) → (a && b && c && d && e && f) ≡ true → (a ≡ true) × (b ≡ true) × (c ≡ true) × (d ≡ true) × (e ≡ true) × (f ≡ true)
six true true true true true true q = (refl, refl, refl, refl, refl, refl)
six true true true true true false q = absurd (true≢false (sym q))
six true true true true false f q = absurd (true≢false (sym q))
six true true true false e f q = absurd (true≢false (sym q))
six true true false d e f q = absurd (true≢false (sym q))
six true false c d e f q = absurd (true≢false (sym q))
six false b c d e f q = absurd (true≢false (sym q))

-- ---- each event by its test

took_is : (n : ℕ) (e : Event) → takes n e ≡ true → e ≡ event.Took n
took_is n (event.Took m) q = ap (λ k. event.Took k) (eqb-true m n q)
took_is n _ q = absurd (true≢false (sym q))

begun_is : (n : ℕ) (e : Event) → begins n e ≡ true → e ≡ event.Begun n
begun_is n (event.Begun m) q = ap (λ k. event.Begun k) (eqb-true m n q)
begun_is n _ q = absurd (true≢false (sym q))

started_is : (n : ℕ) (e : Event) → starts_as n e ≡ true → e ≡ event.Started n 0 n
started_is n (event.Started m i c) q =
    let all = three (m == n) (i == 0) (c == n) q in
    let node : m ≡ n = eqb-true m n all.0 in
    let place : i ≡ 0 = eqb-true i 0 all.1 in
    let child : c ≡ n = eqb-true c n all.2 in
    λ t. event.Started (node t) (place t) (child t)
started_is n _ q = absurd (true≢false (sym q))

code_is : (s : Status) → is_code (pos 0) s ≡ true → s ≡ status.Code (pos 0)
code_is (status.Code z) q = ap (λ k. status.Code k) ((Decides-int_eq z (pos 0)).0 q)
code_is (status.Signal z) q = absurd (true≢false (sym q))
code_is status.Unknown q = absurd (true≢false (sym q))

ended_is : (n : ℕ) (e : Event) → ends_as n e ≡ true → e ≡ event.Ended n 0 n (status.Code (pos 0))
ended_is n (event.Ended m i c s) q =
    let all = four (m == n) (i == 0) (c == n) (is_code (pos 0) s) q in
    let node : m ≡ n = eqb-true m n all.0 in
    let place : i ≡ 0 = eqb-true i 0 all.1 in
    let child : c ≡ n = eqb-true c n all.2 in
    let well : s ≡ status.Code (pos 0) = code_is s all.3 in
    λ t. event.Ended (node t) (place t) (child t) (well t)
ended_is n _ q = absurd (true≢false (sym q))

done_is : (n : ℕ) (e : Event) → concludes_well n e ≡ true → e ≡ event.Done n outcome.Well
done_is n (event.Done m outcome.Well) q = ap (λ k. event.Done k outcome.Well) (eqb-true m n q)
done_is n (event.Done m (outcome.Failed r)) q = absurd (true≢false (sym q))
done_is n _ q = absurd (true≢false (sym q))

gave_is : (n : ℕ) (e : Event) → gives n e ≡ true → e ≡ event.Gave n
gave_is n (event.Gave m) q = ap (λ k. event.Gave k) (eqb-true m n q)
gave_is n _ q = absurd (true≢false (sym q))

-- ---- the body

pub body_is : (n : ℕ) (a b c d e f : Event) (rest : List Event) → are_of_body n a b c d e f ≡ true → a ∷ b ∷ c ∷ d ∷ e ∷ f ∷ rest ≡ body_events n ++ rest
body_is n a b c d e f rest q =
    let all = six (takes n a) (begins n b) (starts_as n c) (ends_as n d) (concludes_well n e) (gives n f) q in
    let first : a ≡ event.Took n = took_is n a all.0 in
    let second : b ≡ event.Begun n = begun_is n b all.1 in
    let third : c ≡ event.Started n 0 n = started_is n c all.2 in
    let fourth : d ≡ event.Ended n 0 n (status.Code (pos 0)) = ended_is n d all.3 in
    let fifth : e ≡ event.Done n outcome.Well = done_is n e all.4 in
    let sixth : f ≡ event.Gave n = gave_is n f all.5 in
    λ t. first t ∷ second t ∷ third t ∷ fourth t ∷ fifth t ∷ sixth t ∷ rest

-- ---- the events of a list

-- a list of six items at least is these, and the others behind them
pub six_here : (xs : List Event) (a b c d e f : Event) → 6 ≤ length xs → a ≡ get_or xs 0 a → b ≡ get_or xs 1 b → c ≡ get_or xs 2 c → d ≡ get_or xs 3 d → e ≡ get_or xs 4 e → f ≡ get_or xs 5 f
    → xs ≡ a ∷ b ∷ c ∷ d ∷ e ∷ f ∷ take (length xs - 6) (drop 6 xs)
six_here [] a b c d e f l p q r s t u = absurd (omega (arith, l))
six_here (x0 ∷ []) a b c d e f l p q r s t u = absurd (omega (arith, l))
six_here (x0 ∷ x1 ∷ []) a b c d e f l p q r s t u = absurd (omega (arith, l))
six_here (x0 ∷ x1 ∷ x2 ∷ []) a b c d e f l p q r s t u = absurd (omega (arith, l))
six_here (x0 ∷ x1 ∷ x2 ∷ x3 ∷ []) a b c d e f l p q r s t u = absurd (omega (arith, l))
six_here (x0 ∷ x1 ∷ x2 ∷ x3 ∷ x4 ∷ []) a b c d e f l p q r s t u = absurd (omega (arith, l))
six_here (x0 ∷ x1 ∷ x2 ∷ x3 ∷ x4 ∷ x5 ∷ rest) a b c d e f l p q r s t u =
    let all : length rest ≤ length (x0 ∷ x1 ∷ x2 ∷ x3 ∷ x4 ∷ x5 ∷ rest) - 6 = omega arith in
    let behind : rest ≡ take (length (x0 ∷ x1 ∷ x2 ∷ x3 ∷ x4 ∷ x5 ∷ rest) - 6) rest = sym (take_all (length (x0 ∷ x1 ∷ x2 ∷ x3 ∷ x4 ∷ x5 ∷ rest) - 6) rest all) in
    let first : x0 ≡ a = sym p in
    let second : x1 ≡ b = sym q in
    let third : x2 ≡ c = sym r in
    let fourth : x3 ≡ d = sym s in
    let fifth : x4 ≡ e = sym t in
    let sixth : x5 ≡ f = sym u in
    λ i. first i ∷ second i ∷ third i ∷ fourth i ∷ fifth i ∷ sixth i ∷ behind i
