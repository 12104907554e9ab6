-- What the calls of a host gained stands for the event that a book notes behind them.
use Rattle.std.proofs.Common.{◌≡◌, ◌≢◌, ℕ, inl, inr, Bool, List, [], ◌∷◌, ◌++◌, Option, Some, MatchOption, Ok, Err, refl, ap, sym, ◌∙◌, subst, append-nil, arith}
use Rattle.just_host_record.specs.declared.entry.Call.TheVariants as call
use Rattle.just_host_record.specs.declared.entry.Entry.{Entry}
use Rattle.just_host_record.specs.declared.entry.Entry.TheVariants as entry
use Rattle.just_host_record.specs.Record.{script_folder}
use Rattle.just_sched_history.specs.declared.event.Event.{Event}
use Rattle.just_sched_history.specs.declared.event.Event.TheVariants as event
use Rattle.just_sched_history.specs.declared.event.Outcome.TheVariants as outcome
use Rattle.just_sched_history.specs.declared.event.Reason.{Reason}
use Rattle.just_sched_history.specs.declared.event.Reason.TheVariants as reason
use Rattle.just_exec_work.specs.declared.work.Command.{Command}
use Rattle.just_sched_book.specs.Gains.{TellGains, AskGains, StartRefusal, StartGains}
use Rattle.just_sched_history.specs.Legal.{Run, Asked, Begun, Started, IsDue, May, all_starts}
use Rattle.just_sched_history.specs.Match.{StandsFor, printed_entries, is_yes, started_entries}
use Rattle.just_sched_history.specs.Nodes.{prompt_at, banner_at, command_at}
use Rattle.just_sched_history.proofs.CachedMoves.{begun_of}
use Rattle.just_sched_history.proofs.OneMore.{all_starts_more}

-- a body may end for that reason, and its end stands for these entries
abbrev pub Fails : Run → List Event → ℕ → Reason → List Entry → Type 0
Fails s h n r es = May s h (event.Done n (outcome.Failed r)) × StandsFor s h (event.Done n (outcome.Failed r)) es

-- a banner that couldn't be printed ends the body so
pub begin_fails : (A : Type 0) (s : Run) (h : List Event) (n : ℕ) (r : Reason) (es : List Entry) → IsDue s h n Begun → TellGains {A = A} (banner_at s.nodes n) (Err r) es → Fails s h n r es
begin_fails A s h n (reason.Fault c) es due g =
    subst (λ k. Fails s h n (reason.Fault k) es) (sym g.1.0) (inl due, inl (due, g.0, begun_of s h n (λ made. es ≡ made ++ entry.Failed call.Print ∷ []) due.2 g.1.1))
begin_fails A s h n reason.NoMemory es due g =
    let banner = printed_entries (banner_at s.nodes n) in
    ((Begun, due, λ e. cc), (Begun, banner, banner, due, begun_of s h n (λ made. banner ≡ made ++ banner) due.2 refl, ap (λ x. x ++ banner) (sym g.1), g.0))
begin_fails A s h n (reason.Place c m) es due g = absurd g.1.1
begin_fails A s h n _ es due g = absurd g.1

-- an answer stands for its entry
pub ask_stands : (s : Run) (h : List Event) (n : ℕ) (p : List ℕ) (y : Bool) (es : List Entry) → prompt_at s.nodes n ≡ Some p → AskGains p (Ok y) es → StandsFor s h (event.Asked n y) es
ask_stands s h n p y es q g = subst (λ (o : Option (List ℕ)). MatchOption o ⊥ (λ t. (answer : List ℕ) × (is_yes answer ≡ y) × (es ≡ entry.Asked t answer ∷ []))) (sym q) g

-- a prompt that couldn't be asked ends its node so
pub ask_fails : (s : Run) (h : List Event) (n : ℕ) (p : List ℕ) (r : Reason) (es : List Entry) → IsDue s h n Asked → prompt_at s.nodes n ≡ Some p → AskGains p (Err r) es → Fails s h n r es
ask_fails s h n p (reason.Place c m) es due q g = subst (λ k. Fails s h n (reason.Place k m) es) (sym g.0) (due, g.1)
ask_fails s h n p (reason.Fault c) es due q g = subst (λ k. Fails s h n (reason.Fault k) es) (sym g.0) (due, g.1)
ask_fails s h n p reason.NoMemory es due q g =
    let all = subst (λ (o : Option (List ℕ)). MatchOption o ⊥ (λ t. (answer : List ℕ) × (entry.Asked p [] ∷ [] ≡ entry.Asked t answer ∷ []))) (sym q) ([], refl) in
    ((Asked, due, λ e. cc), (Asked, entry.Asked p [] ∷ [], entry.Asked p [] ∷ [], due, all, ap (λ x. x ++ entry.Asked p [] ∷ []) (sym g), λ e. cc))
ask_fails s h n p _ es due q g = absurd g

-- a list with a last item isn't empty
pub some_pushed : {A : Type 0} (xs : List A) (y : A) → xs ++ y ∷ [] ≢ []
some_pushed [] y e = cc
some_pushed (x ∷ xs) y e = cc

-- what holds of the command holds of the command at its place
at_command : (P : Command → Type 0) (o : Option Command) (c : Command) → o ≡ Some c → P c → MatchOption o ⊥ P
at_command P o c q p = subst (λ k. MatchOption k ⊥ P) (sym q) p

-- a started child stands for its entries
pub start_stands : (s : Run) (h : List Event) (n i child : ℕ) (c : Command) (es : List Entry) → command_at s.nodes n i ≡ Some c → es ≡ started_entries child c → StandsFor s h (event.Started n i child) es
start_stands s h n i child c es q e = at_command (λ d. es ≡ started_entries child d) (command_at s.nodes n i) c q e

module _ (s : Run) (h : List Event) (n i : ℕ) (c : Command) (due : IsDue s h n (Started i)) (at : command_at s.nodes n i ≡ Some c) where
  -- want of memory stands for the start
  memory_started : (es rest : List Entry) → started_entries 0 c ≡ es ++ rest → (rest ≢ []) → Fails s h n reason.NoMemory es
  memory_started es rest parts some =
      let all = at_command (λ d. (child : ℕ) × (started_entries 0 c ≡ started_entries child d)) (command_at s.nodes n i) c at (0, refl) in
      ((Started i, due, λ e. cc), (Started i, rest, started_entries 0 c, due, all, parts, some))

  -- an echo that couldn't be printed ends the body so
  echo_fails : (r : Reason) (es : List Entry) → TellGains {A = Unit {0}} c.echo (Err r) es → Fails s h n r es
  echo_fails (reason.Fault k) es g =
      subst (λ x. Fails s h n (reason.Fault x) es) (sym g.1.0) (inr (i, due), inr (i, due, at_command (λ d. printed_entries d.echo ≢ []) (command_at s.nodes n i) c at g.0, g.1.1))
  echo_fails reason.NoMemory es g =
      memory_started es (started_entries 0 c) (ap (λ x. x ++ started_entries 0 c) (sym g.1)) (some_pushed (printed_entries c.echo) (entry.Started 0 c.spec))
  echo_fails (reason.Place k m) es g = absurd g.1.1
  echo_fails _ es g = absurd g.1

  memory_behind : (es later : List Entry) → es ≡ printed_entries c.echo ++ later → later ≡ [] → Fails s h n reason.NoMemory es
  memory_behind es later are none =
      memory_started es (entry.Started 0 c.spec ∷ []) (ap (λ x. x ++ entry.Started 0 c.spec ∷ []) (sym (are ∙ ap (λ x. printed_entries c.echo ++ x) none ∙ append-nil (printed_entries c.echo)))) (λ e. cc)

  -- a child that couldn't be started behind its echo ends the body so
  child_fails : (r : Reason) (es later : List Entry) → es ≡ printed_entries c.echo ++ later → StartRefusal c r later → Fails s h n r es
  child_fails (reason.Fault k) es later are (inl g) =
      subst (λ x. Fails s h n (reason.Fault x) es) (sym g.0)
      ((i, due), (i, due, at_command (λ d. es ≡ printed_entries d.echo ++ entry.Failed call.Start ∷ []) (command_at s.nodes n i) c at (are ∙ ap (λ x. printed_entries c.echo ++ x) g.1)))
  child_fails (reason.Fault k) es later are (inr g) =
      subst (λ x. Fails s h n (reason.Fault x) es) (sym g.0)
      ((i, due), (i, due, at_command (λ d. es ≡ printed_entries d.echo ++ entry.Failed call.Temp ∷ []) (command_at s.nodes n i) c at (are ∙ ap (λ x. printed_entries c.echo ++ x) g.1)))
  child_fails (reason.Place k m) es later are (inl g) = absurd g.1
  child_fails (reason.Place k m) es later are (inr g) =
      subst (λ x. Fails s h n (reason.Place x m) es) (sym g.0)
      ((i, due), (i, due, at_command (λ d. es ≡ printed_entries d.echo ++ entry.Missed (script_folder d.spec) m ∷ []) (command_at s.nodes n i) c at (are ∙ ap (λ x. printed_entries c.echo ++ x) g.1)))
  child_fails reason.NoMemory es later are (inl g) = memory_behind es later are g
  child_fails reason.NoMemory es later are (inr g) = memory_behind es later are g
  child_fails _ es later are (inl g) = absurd g
  child_fails _ es later are (inr g) = absurd g

-- a start that broke ends the body so
pub start_fails : {C : Type 0} (number : C → ℕ) (s : Run) (h : List Event) (n i : ℕ) (c : Command) (r : Reason) (es : List Entry) → IsDue s h n (Started i) → command_at s.nodes n i ≡ Some c → StartGains number c (Err r) es → Fails s h n r es
start_fails number s h n i c r es due at (inl g) = echo_fails s h n i c due at r es g
start_fails number s h n i c r es due at (inr g) = child_fails s h n i c due at r es g.0 g.1 g.2

-- a history with a start has one
pub started_not_none : (h : List Event) (n i child : ℕ) → all_starts (h ++ event.Started n i child ∷ []) ≡ 0 → ⊥
started_not_none h n i child z = omega (arith, all_starts_more h (event.Started n i child))
