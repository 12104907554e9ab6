-- What is told of a plan, one text at a time.
use Rattle.std.proofs.Common.{◌≡◌, ◌==◌, ◌++◌, ◌+◌, inl, inr, true, false, ◌<◌, ◌≤◌, ℕ, List, [], ◌∷◌, length, drop, drop_of_length-le, get_or, Result, Ok, Err, refl, sym, ◌∙◌, ap, subst, append_assoc, append-nil, arith}
use Rattle.std.specs.List.{flat_map}
use Rattle.std.proofs.lemmas.List.{drop_more}
use Rattle.just_host_record.specs.World.{Moment}
use Rattle.just_host_record.specs.Record.{refused, IsOwnFault, IsNoMiss}
use Rattle.just_host_record.specs.declared.entry.Call.TheVariants as call
use Rattle.just_host_record.specs.declared.entry.Entry.{Entry}
use Rattle.just_host_record.specs.declared.entry.Entry.TheVariants as entry
use Rattle.just_host_record.specs.declared.entry.HostFault.{HostFault}
use Rattle.just_host_record.specs.declared.entry.HostFault.TheVariants as fault
use Rattle.just_host_record.specs.declared.entry.Stream.TheVariants as stream
use Rattle.just_exec_work.specs.declared.work.Command.{Command}
use Rattle.just_exec_work.specs.declared.work.Work.{Work}
use Rattle.just_exec_work.specs.declared.work.Work.TheVariants as work
use Rattle.just_exec_work.specs.Steps.{commands_of}
use Rattle.just_sched_history.specs.Match.{printed_entries}
use Rattle.just_exec.specs.declared.error.Error.{Error}
use Rattle.just_cli_children.specs.DryRuns.{echoed, Tells}
use Rattle.just_cli_children.specs.Faults.{entries_of, print_error, IsPrintError}

-- ---- texts one behind the other

-- there is none
pub tells_nothing : (m : Moment) → Tells [] m m (Ok tt)
tells_nothing m = Tells.all_told (sym (append-nil m.entries)) refl refl

-- one is told
pub tells_one : (x : Entry) (before after : Moment) → after.entries ≡ before.entries ++ x ∷ [] → after.world ≡ before.world → Tells (x ∷ []) before after (Ok tt)
tells_one x before after grew world = Tells.all_told grew world refl

-- a print that is refused is told as one, and has its entry
lost_so : (io : HostFault) (e : Error) → e ≡ print_error io → IsOwnFault call.Print io → IsNoMiss io → IsPrintError e × (entries_of e ≡ refused [] io)
lost_so (fault.Missed m) e is own never = absurd never
lost_so (fault.Failed c) e is own never = (inr (is ∙ ap (λ d. print_error (fault.Failed d)) own), ap (λ x. entries_of x) is)
lost_so fault.NoMemory e is own never = (inl is, ap (λ x. entries_of x) is)

pub tells_none : (x : Entry) (before after : Moment) (io : HostFault) (e : Error) → after.entries ≡ before.entries ++ refused [] io → after.world ≡ before.world → e ≡ print_error io → IsOwnFault call.Print io → IsNoMiss io
    → Tells (x ∷ []) before after (Err e)
tells_none x before after io e grew world is own never =
    let lost = lost_so io e is own never in
    Tells.cut_short e (record { front = []; next = x; behind = []; cut = refl; refused = lost.0; grew = grew ∙ ap (λ es. before.entries ++ es) (sym lost.1) }) world refl

-- a text that may be empty
pub empty_told : (text : List ℕ) (m : Moment) → (length text == 0) ≡ true → Tells (printed_entries text) m m (Ok tt)
empty_told [] m is = tells_nothing m
empty_told (b ∷ bs) m is = grind arith

pub text_told : (text : List ℕ) (before after : Moment) → (length text == 0) ≡ false → after.entries ≡ before.entries ++ entry.Printed stream.Err text ∷ [] → after.world ≡ before.world → Tells (printed_entries text) before after (Ok tt)
text_told [] before after is grew world = absurd (let no : ⊥ = cc in no)
text_told (b ∷ bs) before after is grew world = tells_one (entry.Printed stream.Err (b ∷ bs)) before after grew world

pub text_untold : (text : List ℕ) (before after : Moment) → (length text == 0) ≡ false → (io : HostFault) (e : Error) → after.entries ≡ before.entries ++ refused [] io → after.world ≡ before.world → e ≡ print_error io → IsOwnFault call.Print io → IsNoMiss io
    → Tells (printed_entries text) before after (Err e)
text_untold [] before after is io e grew world told own never = absurd (let no : ⊥ = cc in no)
text_untold (b ∷ bs) before after is io e grew world told own never = tells_none (entry.Printed stream.Err (b ∷ bs)) before after io e grew world told own never

-- the body of a node
pub lines_told : (x : Work) (commands : List Command) (before after : Moment) (r : Result (Unit {0}) Error) → x ≡ work.Lines commands → Tells (echoed commands) before after r → Tells (echoed (commands_of x)) before after r
lines_told x commands before after r is tells = subst (λ (k : Work). Tells (echoed (commands_of k)) before after r) (sym is) tells

pub script_told : (x : Work) (command : Command) (before after : Moment) (r : Result (Unit {0}) Error) → x ≡ work.Script command → Tells (printed_entries command.echo) before after r → Tells (echoed (commands_of x)) before after r
script_told x command before after r is tells =
    subst (λ (k : Work). Tells (echoed (commands_of k)) before after r) (sym is) (subst (λ l. Tells l before after r) (sym (append-nil (printed_entries command.echo))) tells)

pub nothing_told : (x : Work) (m : Moment) → x ≡ work.Empty → Tells (echoed (commands_of x)) m m (Ok tt)
nothing_told x m is = subst (λ (k : Work). Tells (echoed (commands_of k)) m m (Ok tt)) (sym is) (tells_nothing m)

-- whatever nothing is answered
any_ok : (all : List Entry) (before after : Moment) (x : Unit {0}) → Tells all before after (Ok x) → (after.entries ≡ before.entries ++ all) × (after.world ≡ before.world)
any_ok all before after x (Tells.all_told grew world is) = (grew, world)
any_ok all before after x (Tells.cut_short e cut world is) = absurd (let no : ⊥ = cc in no)

-- more is told behind some
pub tells_more : (all more : List Entry) (before between after : Moment) (x : Unit {0}) → Tells all before between (Ok x) → (r : Result (Unit {0}) Error) → Tells more between after r → Tells (all ++ more) before after r
tells_more all more before between after x first r (Tells.all_told grew world is) =
    let so = any_ok all before between x first in
    Tells.all_told (grew ∙ (ap (λ l. l ++ more) so.0 ∙ append_assoc before.entries all more)) (world ∙ so.1) is
tells_more all more before between after x first r (Tells.cut_short e cut world is) =
    let so = any_ok all before between x first in
    Tells.cut_short e
    (record {
      front = all ++ cut.front;
      next = cut.next;
      behind = cut.behind;
      cut = ap (λ l. all ++ l) cut.cut ∙ sym (append_assoc all cut.front (cut.next ∷ cut.behind));
      refused = cut.refused;
      grew =
          cut.grew ∙ (ap (λ l. l ++ (cut.front ++ entries_of e)) so.0
          ∙ (append_assoc before.entries all (cut.front ++ entries_of e) ∙ ap (λ l. before.entries ++ l) (sym (append_assoc all cut.front (entries_of e)))));
    }) (world ∙ so.1) is

-- none is told behind one that isn't
pub tells_less : (all more : List Entry) (before after : Moment) (e : Error) → Tells all before after (Err e) → Tells (all ++ more) before after (Err e)
tells_less all more before after e (Tells.all_told grew world is) = absurd (let no : ⊥ = cc in no)
tells_less all more before after e (Tells.cut_short d cut world is) =
    Tells.cut_short d
    (record {
      front = cut.front;
      next = cut.next;
      behind = cut.behind ++ more;
      cut = ap (λ l. l ++ more) cut.cut ∙ append_assoc cut.front (cut.next ∷ cut.behind) more;
      refused = cut.refused;
      grew = cut.grew;
    }) world is

-- ---- the texts of some things one behind the other

module _ {A : Type 0} (texts : A → List Entry) (xs : List A) (before : Moment) where
  -- whatever is told of those that are left is told of all
  abbrev pub Leads : Moment → List A → Type 0
  Leads now left = (after : Moment) (r : Result (Unit {0}) Error) → Tells (flat_map texts left) now after r → Tells (flat_map texts xs) before after r

  pub leads_first : Leads before (drop 0 xs)
  leads_first after r tells = tells

  module _ (now after : Moment) (i : ℕ) (x : A) (less : i < length xs) (here : x ≡ get_or xs i x) (leads : Leads now (drop i xs)) where
    left : drop i xs ≡ x ∷ drop (i + 1) xs
    left = drop_more xs i x less ∙ ap (λ y. y ∷ drop (i + 1) xs) (sym here)

    leads_so : Leads now (x ∷ drop (i + 1) xs)
    leads_so = subst (λ (l : List A). Leads now l) left leads

    -- one more is told
    pub leads_next : (u : Unit {0}) → Tells (texts x) now after (Ok u) → Leads after (drop (i + 1) xs)
    leads_next u tells last r more = leads_so last r (tells_more (texts x) (flat_map texts (drop (i + 1) xs)) now after last u tells r more)

    -- or isn't
    pub leads_lost : (e : Error) → Tells (texts x) now after (Err e) → Tells (flat_map texts xs) before after (Err e)
    leads_lost e tells = leads_so after (Err e) (tells_less (texts x) (flat_map texts (drop (i + 1) xs)) now after e tells)

  -- all are told
  pub leads_last : (now : Moment) (i : ℕ) → length xs ≤ i → Leads now (drop i xs) → Tells (flat_map texts xs) before now (Ok tt)
  leads_last now i last leads = subst (λ (l : List A). Leads now l) (drop_of_length-le xs last) leads now (Ok tt) (tells_nothing now)
