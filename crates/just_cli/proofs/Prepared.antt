-- What parts of a preparation answer and leave, from the answers of their calls.
use Rattle.std.proofs.Common.{◌≡◌, ◌++◌, inl, inr, ℕ, false, true≢false, List, [], ◌∷◌, Option, Result, Ok, Err, refl, sym, ◌∙◌, ap, subst, append_assoc, append-nil}
use Rattle.std.specs.Prelude.{MatchResult}
use Rattle.std.proofs.lemmas.List.Elements.{Contains-append_left, Contains-append_right}
use Rattle.just_host_record.specs.World.{World, Moment}
use Rattle.just_host_record.specs.declared.entry.Entry.{Entry}
use Rattle.just_host_record.specs.declared.entry.Entry.TheVariants as entry
use Rattle.just_host_record.specs.Record.{is_failed}
use Rattle.just_exec.specs.declared.error.Error.{Error}
use Rattle.just_exec.specs.declared.error.Error.TheVariants as error
use Rattle.just_cli_plan.specs.Own.{OrMemory, is_uncaptured}
use Rattle.just_search.specs.Removals.{with_entries}
use Rattle.just_cli.specs.Acts.{Act, entries_of_act, folders_in, captures_in, uncaptured_in, AreActs}
use Rattle.just_cli.specs.Altered.{IsAltered}
use Rattle.just_cli_plan.specs.Pairs.{entries_of as entries_in}
use Rattle.just_cli_children.specs.Faults.{entries_of}
use Rattle.just_cli.specs.Preparing.{AreMisses, EndsWith, LeavesActs, IsProgram, Leaves, Answers, UnlessUncaptured, Performs, Prepares}
use Rattle.just_cli.specs.Request.{ArePassed}
use Rattle.just_cli.proofs.Altering.{altered_same, altered_then, altered_more, quiet_first, quiet_rest}

-- ---- refusals of no call

-- such a refusal leaves nothing
pub left_nothing : (old : List Entry) (e : Error) → entries_of e ≡ [] → (es : List Entry) × (old ≡ old ++ es) × EndsWith [] e es
left_nothing old e silent = ([], sym (append-nil old), ([], tt, sym silent))

-- nor does it behind misses
pub left_misses : (old new : List Entry) (e : Error) → entries_of e ≡ [] → (es : List Entry) × (new ≡ old ++ es) × AreMisses es → (es : List Entry) × (new ≡ old ++ es) × EndsWith [] e es
left_misses old new e silent gains = (gains.0, gains.1, (gains.0, gains.2, sym (append-nil gains.0) ∙ ap (λ xs. gains.0 ++ xs) (sym silent)))

-- misses behind misses
pub all_misses : (xs ys : List Entry) → AreMisses xs → AreMisses ys → AreMisses (xs ++ ys)
all_misses [] ys h g = g
all_misses (x ∷ xs) ys h g = (h.0, all_misses xs ys h.1 g)

pub misses_then : (old middle new : List Entry) → (es : List Entry) × (middle ≡ old ++ es) × AreMisses es → (es : List Entry) × (new ≡ middle ++ es) × AreMisses es → (es : List Entry) × (new ≡ old ++ es) × AreMisses es
misses_then old middle new first second =
    (first.0 ++ second.0, second.1 ∙ (ap (λ xs. xs ++ second.0) first.1 ∙ append_assoc old first.0 second.0), all_misses first.0 second.0 first.2 second.2)

-- a refusal behind misses
pub ends_then : (old middle new : List Entry) (e : Error) → (es : List Entry) × (middle ≡ old ++ es) × AreMisses es → (es : List Entry) × (new ≡ middle ++ es) × EndsWith [] e es → (es : List Entry) × (new ≡ old ++ es) × EndsWith [] e es
ends_then old middle new e first second = (
  first.0 ++ second.0,
  second.1 ∙ (ap (λ xs. xs ++ second.0) first.1 ∙ append_assoc old first.0 second.0),
  (first.0 ++ second.2.0, all_misses first.0 second.2.0 first.2 second.2.1, ap (λ xs. first.0 ++ xs) second.2.2 ∙ sym (append_assoc first.0 second.2.0 (entries_of e))),
)

-- what follows misses, well or by a refusal
pub follows_misses : {A : Type 0} (r : Result A Error) (old middle new : List Entry) → (es : List Entry) × (middle ≡ old ++ es) × AreMisses es
    → (es : List Entry) × (new ≡ middle ++ es) × MatchResult r (λ _. AreMisses es) (λ e. EndsWith [] e es) → (es : List Entry) × (new ≡ old ++ es) × MatchResult r (λ _. AreMisses es) (λ e. EndsWith [] e es)
follows_misses (Ok x) old middle new first second = misses_then old middle new first second
follows_misses (Err e) old middle new first second = ends_then old middle new e first second

-- ---- acts and their entries

pub folders_append : (acts more : List Act) → folders_in (acts ++ more) ≡ folders_in acts ++ folders_in more
folders_append [] more = refl
folders_append (Act.made folder ∷ acts) more = ap (λ (fs : List (List ℕ)). folder ∷ fs) (folders_append acts more)
folders_append (Act.captured c ∷ acts) more = folders_append acts more
folders_append (Act.uncaptured program ∷ acts) more = folders_append acts more

uncaptured_append : (acts more : List Act) → uncaptured_in (acts ++ more) ≡ uncaptured_in acts ++ uncaptured_in more
uncaptured_append [] more = refl
uncaptured_append (Act.made folder ∷ acts) more = uncaptured_append acts more
uncaptured_append (Act.captured c ∷ acts) more = uncaptured_append acts more
uncaptured_append (Act.uncaptured program ∷ acts) more = ap (λ (ps : List (List ℕ)). program ∷ ps) (uncaptured_append acts more)

-- behind acts each of whose children was run to its end
uncaptured_behind : (acts more : List Act) (programs : List (List ℕ)) → uncaptured_in acts ≡ [] → uncaptured_in more ≡ programs → uncaptured_in (acts ++ more) ≡ programs
uncaptured_behind acts more programs none are = uncaptured_append acts more ∙ (ap (λ (ps : List (List ℕ)). ps ++ uncaptured_in more) none ∙ are)

program_behind : (acts more : List Act) (e : Error) (program : List ℕ) → uncaptured_in acts ≡ [] → IsProgram more e program → IsProgram (acts ++ more) e program
program_behind acts more e program none (inl never) = inl (uncaptured_behind acts more [] none never)
program_behind acts more e program none (inr (is, one)) = inr (is, uncaptured_behind acts more (program ∷ []) none one)

-- where the error tells of no child, each was
no_program : (acts : List Act) (e : Error) (program : List ℕ) → is_uncaptured e ≡ false → IsProgram acts e program → uncaptured_in acts ≡ []
no_program acts e program captured (inl none) = none
no_program acts e program captured (inr (is, one)) = absurd (true≢false (sym is ∙ captured))

-- where no child was run for both, none was for either
no_first : (acts more : List Act) → captures_in (acts ++ more) ≡ [] → captures_in acts ≡ []
no_first [] more none = refl
no_first (Act.made folder ∷ acts) more none = no_first acts more none
no_first (Act.captured c ∷ acts) more none = absurd (let no : ⊥ = cc in no)
no_first (Act.uncaptured program ∷ acts) more none = no_first acts more none

no_rest : (acts more : List Act) → captures_in (acts ++ more) ≡ [] → captures_in more ≡ []
no_rest [] more none = none
no_rest (Act.made folder ∷ acts) more none = no_rest acts more none
no_rest (Act.captured c ∷ acts) more none = absurd (let no : ⊥ = cc in no)
no_rest (Act.uncaptured program ∷ acts) more none = no_rest acts more none

pub acts_append : (acts more : List Act) (es fs : List Entry) → AreActs acts es → AreActs more fs → AreActs (acts ++ more) (es ++ fs)
acts_append acts more es fs AreActs.none b = b
acts_append acts more es fs (AreActs.a_miss path m some rest a) b = AreActs.a_miss path m (some ++ more) (rest ++ fs) (acts_append some more rest fs a b)
acts_append acts more es fs (AreActs.an_act x some rest a) b =
    subst (λ l. AreActs (x ∷ (some ++ more)) l) (sym (append_assoc (entries_of_act x) rest fs))
    (AreActs.an_act x (some ++ more) (rest ++ fs) (acts_append some more rest fs a b))

misses_acts : (es : List Entry) → AreMisses es → AreActs [] es
misses_acts [] h = AreActs.none
misses_acts (entry.Missed path m ∷ es) h = AreActs.a_miss path m [] es (misses_acts es h.1)
misses_acts (_ ∷ es) h = absurd (cc)

left_look : {A : Type 0} (r : Result A Error) (es : List Entry) → MatchResult r (λ _. AreMisses es) (λ e. EndsWith [] e es) → Leaves [] [] r es
left_look (Ok x) es left = (es, misses_acts es left, refl, refl)
left_look (Err e) es left = (left.0, [], misses_acts left.0 left.1, left.2, inl refl)

-- ---- what was begun

-- what was begun by some acts
abbrev pub BegunBy : Type 1
BegunBy = List Act → Option World → Type 0

-- what holds anyhow, and what follows
anyhow : {A : Type 0} (r : Result A Error) (claim : Type 0) → claim → UnlessUncaptured r claim
anyhow (Ok x) claim so = so
anyhow (Err e) claim so = λ captured. so

follows : {A : Type 0} (r : Result A Error) (claim more : Type 0) → (claim → more) → UnlessUncaptured r claim → UnlessUncaptured r more
follows (Ok x) claim more up so = up so
follows (Err e) claim more up so = λ captured. up (so captured)

-- ---- a part that only looks

module _ {A : Type 0} (gives : List Act → Option World → Result A Error → Type 0) (begins : BegunBy) (before after : Moment) (kept : List (List ℕ)) (world : after.world ≡ before.world) (begun : begins [] after.world) where
  looks_over : (r : Result A Error) (es : List Entry) → after.entries ≡ before.entries ++ es → Leaves [] [] r es → Answers (gives [] after.world) r → Performs gives begins before after kept kept r
  looks_over r es grew leaves answers = record {
    acts = [];
    entries = es;
    grew = grew;
    leaves = leaves;
    folders = sym (append-nil kept);
    answers = answers;
    begun = anyhow r (begins [] after.world) begun;
    still = λ none alone quiet. world;
    alters = λ nodes alone quiet. altered_same [] nodes before.world after.world world;
  }

  -- a refusal, or an answer
  pub performs_refusal : (e : Error) → (es : List Entry) × (after.entries ≡ before.entries ++ es) × EndsWith [] e es → OrMemory (λ x. gives [] after.world (Err x)) e → Performs gives begins before after kept kept (Err e)
  performs_refusal e gains why = looks_over (Err e) gains.0 gains.1 (left_look {A = A} (Err e) gains.0 gains.2) why

  pub performs_answer : (x : A) → (es : List Entry) × (after.entries ≡ before.entries ++ es) × AreMisses es → gives [] after.world (Ok x) → Performs gives begins before after kept kept (Ok x)
  performs_answer x gains is = looks_over (Ok x) gains.0 gains.1 (left_look (Ok x) gains.0 gains.2) is

  pub performs_either : (r : Result A Error) → (es : List Entry) × (after.entries ≡ before.entries ++ es) × MatchResult r (λ _. AreMisses es) (λ e. EndsWith [] e es) → Answers (gives [] after.world) r → Performs gives begins before after kept kept r
  performs_either (Ok x) gains answers = performs_answer x gains answers
  performs_either (Err e) gains answers = performs_refusal e gains answers

-- ---- one part behind another

nil_first : (xs ys : List (List ℕ)) → xs ++ ys ≡ [] → xs ≡ []
nil_first [] ys is = refl
nil_first (x ∷ xs) ys is = absurd (let no : ⊥ = cc in no)

nil_rest : (xs ys : List (List ℕ)) → xs ++ ys ≡ [] → ys ≡ []
nil_rest [] ys is = is
nil_rest (x ∷ xs) ys is = absurd (let no : ⊥ = cc in no)

leaves_then : {A : Type 0} (r : Result A Error) (acts more : List Act) (es fs : List Entry) → LeavesActs [] acts es → Leaves [] more r fs → Leaves [] (acts ++ more) r (es ++ fs)
leaves_then (Ok x) acts more es fs (xs, a, is, all) (ys, b, at, others) = (xs ++ ys, acts_append acts more xs ys a b, ap (λ l. l ++ fs) is ∙ ap (λ l. xs ++ l) at, uncaptured_behind acts more [] all others)
leaves_then (Err e) acts more es fs (xs, a, is, all) (ys, parent, b, at, program) = (
  xs ++ ys,
  parent,
  acts_append acts more xs ys a b,
  ap (λ l. l ++ fs) is ∙ (ap (λ l. xs ++ l) at ∙ sym (append_assoc xs ys (entries_in parent e))),
  program_behind acts more e parent all program,
)

pub performs_then : {A B : Type 0} (first : List Act → Option World → Result A Error → Type 0) (second gives : List Act → Option World → Result B Error → Type 0) (one two begins : BegunBy) (before between after : Moment) (kept keep keeps : List (List ℕ)) (x : A) (r : Result B Error)
    → Performs first one before between kept keep (Ok x) → Performs second two between after keep keeps r
    → ((acts more : List Act) → first acts between.world (Ok x) → Answers (second more after.world) r → Answers (gives (acts ++ more) after.world) r)
    → ((acts more : List Act) → first acts between.world (Ok x) → two more after.world → begins (acts ++ more) after.world)
    → Performs gives begins before after kept keeps r
performs_then first second gives one two begins before between after kept keep keeps x r p q both more_begun =
    let all = folders_append p.acts q.acts in
    record {
      acts = p.acts ++ q.acts;
      entries = p.entries ++ q.entries;
      grew = q.grew ∙ (ap (λ es. es ++ q.entries) p.grew ∙ append_assoc before.entries p.entries q.entries);
      leaves = leaves_then r p.acts q.acts p.entries q.entries p.leaves q.leaves;
      folders = q.folders ∙ (ap (λ fs. fs ++ folders_in q.acts) p.folders ∙ (append_assoc kept (folders_in p.acts) (folders_in q.acts) ∙ ap (λ fs. kept ++ fs) (sym all)));
      answers = both p.acts q.acts p.answers q.answers;
      begun = follows r (two q.acts after.world) (begins (p.acts ++ q.acts) after.world) (λ b. more_begun p.acts q.acts p.answers b) q.begun;
      still = λ none alone quiet.
          q.still (nil_rest (folders_in p.acts) (folders_in q.acts) (sym all ∙ none)) (no_rest p.acts q.acts alone) (quiet_rest is_failed p.entries q.entries quiet)
          ∙ p.still (nil_first (folders_in p.acts) (folders_in q.acts) (sym all ∙ none)) (no_first p.acts q.acts alone) (quiet_first is_failed p.entries q.entries quiet);
      alters = λ nodes alone quiet.
          subst (λ fs. IsAltered fs nodes before.world after.world) (sym all)
          (altered_then (folders_in p.acts ++ folders_in q.acts) nodes before.world between.world after.world
          (altered_more (folders_in p.acts) (folders_in p.acts ++ folders_in q.acts) (λ f has. Contains-append_left (folders_in p.acts) (folders_in q.acts) f has) nodes before.world between.world (p.alters nodes (no_first p.acts q.acts alone) (quiet_first is_failed p.entries q.entries quiet)))
          (altered_more (folders_in q.acts) (folders_in p.acts ++ folders_in q.acts) (λ f has. Contains-append_right (folders_in p.acts) (folders_in q.acts) f has) nodes between.world after.world (q.alters nodes (no_rest p.acts q.acts alone) (quiet_rest is_failed p.entries q.entries quiet))));
    }

-- a part behind which is only looked
pub performs_looking : {A B : Type 0} (first : List Act → Option World → Result A Error → Type 0) (gives : List Act → Option World → Result B Error → Type 0) (one begins : BegunBy) (before between after : Moment) (kept keeps : List (List ℕ)) (x : A) (r : Result B Error)
    → Performs first one before between kept keeps (Ok x) → after.world ≡ between.world
    → (es : List Entry) × (after.entries ≡ between.entries ++ es) × MatchResult r (λ _. AreMisses es) (λ e. EndsWith [] e es) → ((acts : List Act) → first acts between.world (Ok x) → Answers (gives acts after.world) r)
    → ((acts : List Act) → one acts between.world → begins acts after.world) → Performs gives begins before after kept keeps r
performs_looking first gives one begins before between after kept keeps x r p world (es, grew, left) more more_begun = record {
  acts = p.acts;
  entries = p.entries ++ es;
  grew = grew ∙ (ap (λ l. l ++ es) p.grew ∙ append_assoc before.entries p.entries es);
  leaves = subst (λ l. Leaves [] l r (p.entries ++ es)) (append-nil p.acts) (leaves_then r p.acts [] p.entries es p.leaves (left_look r es left));
  folders = p.folders;
  answers = more p.acts p.answers;
  begun = anyhow r (begins p.acts after.world) (more_begun p.acts p.begun);
  still = λ none alone quiet. world ∙ p.still none alone (quiet_first is_failed p.entries es quiet);
  alters = λ nodes alone quiet. subst (λ w. IsAltered (folders_in p.acts) nodes before.world w) (sym world) (p.alters nodes alone (quiet_first is_failed p.entries es quiet));
}

-- a part that keeps no folder, behind some that were kept
pub performs_behind : {A : Type 0} (gives : List Act → Option World → Result A Error → Type 0) (begins : BegunBy) (before after : Moment) (kept : List (List ℕ)) (r : Result A Error) → Performs gives begins before after [] [] r → Performs gives begins before after kept kept r
performs_behind gives begins before after kept r p =
    record { acts = p.acts; entries = p.entries; grew = p.grew; leaves = p.leaves; folders = sym (append-nil kept) ∙ ap (λ (fs : List (List ℕ)). kept ++ fs) p.folders; answers = p.answers; begun = p.begun; still = p.still; alters = p.alters }

-- the same acts for another answer
pub performs_as : {A B : Type 0} (first : List Act → Option World → Result A Error → Type 0) (gives : List Act → Option World → Result B Error → Type 0) (one begins : BegunBy) (before after : Moment) (kept keeps : List (List ℕ)) (x : A) (y : B)
    → Performs first one before after kept keeps (Ok x) → ((acts : List Act) → first acts after.world (Ok x) → gives acts after.world (Ok y)) → ((acts : List Act) → one acts after.world → begins acts after.world) → Performs gives begins before after kept keeps (Ok y)
performs_as first gives one begins before after kept keeps x y p more up =
    record { acts = p.acts; entries = p.entries; grew = p.grew; leaves = p.leaves; folders = p.folders; answers = more p.acts p.answers; begun = up p.acts p.begun; still = p.still; alters = p.alters }

pub performs_lost : {A B : Type 0} (first : List Act → Option World → Result A Error → Type 0) (gives : List Act → Option World → Result B Error → Type 0) (one begins : BegunBy) (before after : Moment) (kept keeps : List (List ℕ)) (e : Error)
    → Performs first one before after kept keeps (Err e) → ((acts : List Act) → OrMemory (λ x. first acts after.world (Err x)) e → OrMemory (λ x. gives acts after.world (Err x)) e)
    → ((acts : List Act) → one acts after.world → begins acts after.world) → Performs gives begins before after kept keeps (Err e)
performs_lost first gives one begins before after kept keeps e p more up =
    record { acts = p.acts; entries = p.entries; grew = p.grew; leaves = p.leaves; folders = p.folders; answers = more p.acts p.answers; begun = λ captured. up p.acts (p.begun captured); still = p.still; alters = p.alters }

-- an answer in the place of a refusal that is of no call
pub performs_instead : {A B : Type 0} (first : List Act → Option World → Result A Error → Type 0) (gives : List Act → Option World → Result B Error → Type 0) (one begins : BegunBy) (before after : Moment) (kept keeps : List (List ℕ)) (e : Error) (y : B)
    → ((parent : List ℕ) → entries_in parent e ≡ []) → is_uncaptured e ≡ false → Performs first one before after kept keeps (Err e) → ((acts : List Act) → OrMemory (λ x. first acts after.world (Err x)) e → gives acts after.world (Ok y))
    → ((acts : List Act) → one acts after.world → begins acts after.world) → Performs gives begins before after kept keeps (Ok y)
performs_instead first gives one begins before after kept keeps e y silent captured p more up = record {
  acts = p.acts;
  entries = p.entries;
  grew = p.grew;
  leaves = (p.leaves.0, p.leaves.2, p.leaves.3 ∙ (ap (λ xs. p.leaves.0 ++ xs) (silent p.leaves.1) ∙ append-nil p.leaves.0), no_program p.acts e p.leaves.1 captured p.leaves.4);
  folders = p.folders;
  answers = more p.acts p.answers;
  begun = up p.acts (p.begun captured);
  still = p.still;
  alters = p.alters;
}

-- want of memory behind an answer
pub performs_short : {A B : Type 0} (first : List Act → Option World → Result A Error → Type 0) (gives : List Act → Option World → Result B Error → Type 0) (begins : BegunBy) (before after : Moment) (kept keeps : List (List ℕ)) (x : A) (e : Error) → e ≡ error.NoMemory
    → Performs first begins before after kept keeps (Ok x) → Performs gives begins before after kept keeps (Err e)
performs_short first gives begins before after kept keeps x e is p = record {
  acts = p.acts;
  entries = p.entries;
  grew = p.grew;
  leaves = (p.leaves.0, [], p.leaves.1, p.leaves.2 ∙ (sym (append-nil p.leaves.0) ∙ ap (λ z. p.leaves.0 ++ entries_in [] z) (sym is)), inl p.leaves.3);
  folders = p.folders;
  answers = inl is;
  begun = λ captured. p.begun;
  still = p.still;
  alters = p.alters;
}

-- ---- behind listings

module _ {A : Type 0} (global : Type 0) (asks : List Entry → List Act → Option World → Result A Error → Type 0) (begins : List Entry → BegunBy) (before after : Moment) (kept : List (List ℕ)) where
  -- a refused call
  pub ends_call : (e : Error) → after.world ≡ before.world → begins [] [] after.world → after.entries ≡ before.entries ++ entries_of e → ((listings : List Entry) → OrMemory (λ x. asks listings [] after.world (Err x)) e)
      → Prepares global asks begins before after kept kept (Err e)
  ends_call e world begun grew why =
      ([], inl refl, performs_refusal (asks []) (begins []) (with_entries before []) after kept world begun e (entries_of e, grew ∙ ap (λ es. es ++ entries_of e) (sym (append-nil before.entries)), ([], tt, refl)) (why []))

  -- a refusal of no call leaves nothing
  pub ends_nothing : (e : Error) → after.world ≡ before.world → begins [] [] after.world → after.entries ≡ before.entries → entries_of e ≡ [] → ((listings : List Entry) → OrMemory (λ x. asks listings [] after.world (Err x)) e)
      → Prepares global asks begins before after kept kept (Err e)
  ends_nothing e world begun same silent why = ends_call e world begun (same ∙ (sym (append-nil before.entries) ∙ ap (λ es. before.entries ++ es) (sym silent))) why

  module _ (listings : List Entry) (passed : ArePassed global listings) where
    -- a refused search
    pub ends_search : (e : Error) → after.world ≡ before.world → begins listings [] after.world → after.entries ≡ before.entries ++ (listings ++ entries_of e) → OrMemory (λ x. asks listings [] after.world (Err x)) e
        → Prepares global asks begins before after kept kept (Err e)
    ends_search e world begun grew why =
        (listings, passed, performs_refusal (asks listings) (begins listings) (with_entries before listings) after kept world begun e (entries_of e, grew ∙ sym (append_assoc before.entries listings (entries_of e)), ([], tt, refl)) why)

-- ---- a preparation as one of more

module _ {A : Type 0} (global wider : Type 0) (asks more : List Entry → List Act → Option World → Result A Error → Type 0) (one begins : List Entry → BegunBy) (up : global → wider) (after : Moment) (over : (listings : List Entry) (acts : List Act) (r : Result A Error) → asks listings acts after.world r → more listings acts after.world r)
    (over_begun : (listings : List Entry) (acts : List Act) → one listings acts after.world → begins listings acts after.world) where
  passed_over : (listings : List Entry) → ArePassed global listings → ArePassed wider listings
  passed_over listings (inl none) = inl none
  passed_over listings (inr some) = inr (up some.0, some.1)

  or_over : (listings : List Entry) (acts : List Act) (e : Error) → OrMemory (λ x. asks listings acts after.world (Err x)) e → OrMemory (λ x. more listings acts after.world (Err x)) e
  or_over listings acts e (inl wants) = inl wants
  or_over listings acts e (inr why) = inr (over listings acts (Err e) why)

  answers_over : (listings : List Entry) (acts : List Act) (r : Result A Error) → Answers (asks listings acts after.world) r → Answers (more listings acts after.world) r
  answers_over listings acts (Ok x) asked = over listings acts (Ok x) asked
  answers_over listings acts (Err e) why = or_over listings acts e why

  -- begun at a moment that tells the same as the first
  pub prepares_over : (before now : Moment) (kept keeps : List (List ℕ)) (r : Result A Error) → now ≡ before → Prepares global asks one now after kept keeps r → Prepares wider more begins before after kept keeps r
  prepares_over before now kept keeps r same (listings, passed, p) =
      let world : now.world ≡ before.world = ap (λ (m : Moment). m.world) same in (
        listings,
        passed_over listings passed,
        record {
          acts = p.acts;
          entries = p.entries;
          grew = p.grew ∙ ap (λ (m : Moment). (m.entries ++ listings) ++ p.entries) same;
          leaves = p.leaves;
          folders = p.folders;
          answers = answers_over listings p.acts r p.answers;
          begun = follows r (one listings p.acts after.world) (begins listings p.acts after.world) (λ b. over_begun listings p.acts b) p.begun;
          still = λ none alone quiet. p.still none alone quiet ∙ world;
          alters = λ nodes alone quiet. subst (λ t. IsAltered (folders_in p.acts) nodes t after.world) world (p.alters nodes alone quiet);
        },
      )

-- ---- want of memory behind a preparation, which leaves the record and the world as they are

pub memory_behind : {A B : Type 0} (global : Type 0) (asks : List Entry → List Act → Option World → Result A Error → Type 0) (more : List Entry → List Act → Option World → Result B Error → Type 0) (begins : List Entry → BegunBy) (before after later : Moment) (kept keeps : List (List ℕ)) (x : A)
    → later ≡ after → Prepares global asks begins before after kept keeps (Ok x) → Prepares global more begins before later kept keeps (Err error.NoMemory)
memory_behind {A} {B} global asks more begins before after later kept keeps x same (listings, passed, p) =
    let short : Performs (more listings) (begins listings) (with_entries before listings) after kept keeps (Err error.NoMemory) = performs_short (asks listings) (more listings) (begins listings) (with_entries before listings) after kept keeps x error.NoMemory refl p in
    (listings, passed, subst (λ (m : Moment). Performs (more listings) (begins listings) (with_entries before listings) m kept keeps (Err error.NoMemory)) (sym same) short)
