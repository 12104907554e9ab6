-- The climb from justfile to justfile gives the answer of the first of those that are tried that doesn't lack what is asked for, or of the last; and that answer
-- is given by such a climb.
use Rattle.std.proofs.Common.{◌≡◌, ◌++◌, ◌⊎◌, inl, inr, Bool, true, false, List, [], ◌∷◌, Option, Some, None, Result, Ok, Err, refl, sym, ◌∙◌, ap, subst, append_assoc, append-nil}
use Rattle.std.specs.Prelude.{◌&&◌}
use Rattle.just_host_record.specs.World.{World}
use Rattle.just_env.specs.declared.search_error.SearchError.{SearchError}
use Rattle.just_search.specs.declared.location.Location.{Location}
use Rattle.just_search.specs.Fallback.{FallsBack}
use Rattle.just_exec.specs.Refusals.{error_of_search}
use Rattle.just_exec.specs.declared.error.Error.{Error}
use Rattle.just_cli.specs.Replies.{Reply}
use Rattle.just_cli.specs.Acts.{Act}
use Rattle.just_cli.specs.Options.{is_lacking, lacks}
use Rattle.just_cli.specs.Words.{ConfigRequest}
use Rattle.just_cli.specs.Request.{AnswersAt, at_place, Item, Tried, IsTried, item_found, StandsBehind, ComesTo, acts_of, IsFirstAnswer}
use Rattle.just_cli.specs.Taken.{TriesFrom}

-- of an answer beside which nothing is tried: it lacks nothing, or sets no fallback
pub beside_none : (lack fallback : Bool) → (lack && fallback) ≡ false → (lack ≡ false) ⊎ (fallback ≡ false)
beside_none true fallback stays = inr stays
beside_none false fallback stays = inl refl

not_both : (lack fallback : Bool) → fallback ≡ false → (lack && fallback) ≡ false
not_both true fallback none = none
not_both false fallback none = refl

same_place : (l location : Location) (item : Item) → item ≡ Ok l → item ≡ Ok location → l ≡ location
same_place l location item at is = cc

module _ (c : ConfigRequest) where
  -- ---- from the climb to the list

  first_or_nothing : (t : Tried) → (lacks t.answer && t.fallback) ≡ false → (lacks t.answer ≡ false) ⊎ StandsBehind c t None
  first_or_nothing t stays = either (beside_none (lacks t.answer) t.fallback stays)
    where
      either : (lacks t.answer ≡ false) ⊎ (t.fallback ≡ false) → (lacks t.answer ≡ false) ⊎ StandsBehind c t None
      either (inl stands) = inl stands
      either (inr none) = inr (StandsBehind.nothing none refl)

  pub first_of_climb : (told : Option World) (acts : List Act) (after : Option World) (location : Location) (r : Result Reply Error) → TriesFrom c told acts after location r → IsFirstAnswer c told acts after location r
  first_of_climb told acts after location r (TriesFrom.stands t a xs l x f at stays) =
      let one : Tried = record { item = Ok l; told = t; acts = xs; after = a; answer = x; fallback = f } in
      record { before = []; it = one; comes = (refl, refl, at); acts_are = refl; after_is = refl; first_or_last = first_or_nothing one stays; answer = refl }
  first_of_climb told acts after location r (TriesFrom.highest t a xs l e at lack none) =
      let one : Tried = record { item = Ok l; told = t; acts = xs; after = a; answer = Err e; fallback = true } in
      record { before = []; it = one; comes = (refl, refl, at); acts_are = refl; after_is = refl; first_or_last = inr (StandsBehind.found l (Ok None) refl refl none refl); answer = refl }
  first_of_climb told acts after location r (TriesFrom.refused t a xs l e f at lack lost) =
      let one : Tried = record { item = Ok l; told = t; acts = xs; after = a; answer = Err e; fallback = true } in
      let last : Tried = record { item = Err f; told = a; acts = []; after = a; answer = Err (error_of_search f); fallback = false } in
      record {
        before = one ∷ [];
        it = last;
        comes = ((refl, refl, at), lack, (Err f, StandsBehind.found l (Err f) refl refl lost refl, (refl, refl, (refl, refl, refl, refl))));
        acts_are = sym (append-nil xs) ∙ sym (append-nil (xs ++ []));
        after_is = refl;
        first_or_last = inr (StandsBehind.nothing refl refl);
        answer = refl;
      }
  first_of_climb told acts after location r (TriesFrom.falls t between a xs front back l next e x at lack next_is more split) =
      let one : Tried = record { item = Ok l; told = t; acts = front; after = between; answer = Err e; fallback = true } in
      let rest = first_of_climb between back a next x more in
      record {
        before = one ∷ rest.before;
        it = rest.it;
        comes = ((refl, refl, at), lack, (Ok next, StandsBehind.found l (Ok (Some next)) refl refl next_is refl, rest.comes));
        acts_are = split ∙ (ap (λ l. front ++ l) rest.acts_are ∙ sym (append_assoc front (acts_of rest.before) rest.it.acts));
        after_is = rest.after_is;
        first_or_last = rest.first_or_last;
        answer = rest.answer;
      }

  -- ---- from the list to the climb

  -- the answer from one on: of a refusal itself, and of a justfile by the climb
  abbrev FromItem : Option World → List Act → Option World → Item → Result Reply Error → Type 0
  FromItem told acts after (Ok location) r = TriesFrom c told acts after location r
  FromItem told acts after (Err e) r = (acts ≡ []) × (after ≡ told) × (r ≡ Err (error_of_search e))

  -- what is asked of a justfile that is tried, by the name of its world
  asked_at : (t : Tried) (told : Option World) (location : Location) → IsTried c t told (Ok location) → AnswersAt told t.acts t.after (at_place c location) t.answer t.fallback
  asked_at t told location (item, same, at) = subst (λ w. AnswersAt w t.acts t.after (at_place c location) t.answer t.fallback) same at

  module _ (told after : Option World) (acts : List Act) (location : Location) where
    lacking_or : (e : Error) (fallback : Bool) → fallback ≡ true → AnswersAt told acts after (at_place c location) (Err e) fallback → FallsBack after c.config location.working_directory (Ok None) → (b : Bool) → is_lacking e ≡ b → TriesFrom c told acts after location (Err e)
    lacking_or e fallback sets at none true lack = TriesFrom.highest told after acts location e (subst (λ f. AnswersAt told acts after (at_place c location) (Err e) f) sets at) lack none
    lacking_or e fallback sets at none false stands = TriesFrom.stands told after acts location (Err e) fallback at (ap (λ b. b && fallback) stands)

    nothing_higher : (x : Result Reply Error) (fallback : Bool) → fallback ≡ true → AnswersAt told acts after (at_place c location) x fallback → FallsBack after c.config location.working_directory (Ok None) → TriesFrom c told acts after location x
    nothing_higher (Ok o) fallback sets at none = TriesFrom.stands told after acts location (Ok o) fallback at refl
    nothing_higher (Err e) fallback sets at none = lacking_or e fallback sets at none (is_lacking e) refl

    none_found : (x : Result Reply Error) (fallback : Bool) (l : Location) (r : Result (Option Location) SearchError) → l ≡ location → fallback ≡ true → AnswersAt told acts after (at_place c location) x fallback → FallsBack after c.config l.working_directory r
        → ◌≡◌ {A = Option Item} None (item_found r) → TriesFrom c told acts after location x
    none_found x fallback l (Ok None) same sets at falls is = nothing_higher x fallback sets at (subst (λ (z : Location). FallsBack after c.config z.working_directory (Ok None)) same falls)
    none_found x fallback l (Ok (Some next)) same sets at falls is = absurd (let no : ⊥ = cc in no)
    none_found x fallback l (Err e) same sets at falls is = absurd (let no : ⊥ = cc in no)

  -- the last one
  last_of_climb : (it : Tried) (told : Option World) (item : Item) → IsTried c it told item → (lacks it.answer ≡ false) ⊎ StandsBehind c it None → FromItem told it.acts it.after item it.answer
  last_of_climb it told (Ok location) is (inl stands) = TriesFrom.stands told it.after it.acts location it.answer it.fallback (asked_at it told location is) (ap (λ b. b && it.fallback) stands)
  last_of_climb it told (Ok location) is (inr (StandsBehind.nothing none same)) = TriesFrom.stands told it.after it.acts location it.answer it.fallback (asked_at it told location is) (not_both (lacks it.answer) it.fallback none)
  last_of_climb it told (Ok location) is (inr (StandsBehind.found l r at sets falls same)) =
      none_found told it.after it.acts location it.answer it.fallback l r (same_place l location it.item at is.0) sets (asked_at it told location is) falls same
  last_of_climb it told (Err e) is way = (is.2.0, is.2.1 ∙ is.1, is.2.2)

  -- one behind which another is tried
  module _ (told between after : Option World) (front rest : List Act) (location : Location) (r : Result Reply Error) where
    fallen : (e : Error) (fallback : Bool) (l : Location) (found : Result (Option Location) SearchError) (next : Item) → AnswersAt told front between (at_place c location) (Err e) fallback → is_lacking e ≡ true → l ≡ location → fallback ≡ true
        → FallsBack between c.config l.working_directory found → Some next ≡ item_found found → FromItem between rest after next r → TriesFrom c told (front ++ rest) after location r
    fallen e fallback l (Ok None) next at lack same sets falls is more = absurd (let no : ⊥ = cc in no)
    fallen e fallback l (Ok (Some higher)) next at lack same sets falls is more =
        let place : next ≡ Ok higher = cc in
        TriesFrom.falls told between after (front ++ rest) front rest location higher e r (subst (λ f. AnswersAt told front between (at_place c location) (Err e) f) sets at) lack
        (subst (λ (z : Location). FallsBack between c.config z.working_directory (Ok (Some higher))) same falls) (subst (λ (z : Item). FromItem between rest after z r) place more) refl
    fallen e fallback l (Err f) next at lack same sets falls is more =
        let place : next ≡ Err f = cc in
        let ends : (rest ≡ []) × (after ≡ between) × (r ≡ Err (error_of_search f)) = subst (λ (z : Item). FromItem between rest after z r) place more in
        let lost : TriesFrom c told front between location (Err (error_of_search f)) =
        TriesFrom.refused told between front location e f (subst (λ b. AnswersAt told front between (at_place c location) (Err e) b) sets at) lack (subst (λ (z : Location). FallsBack between c.config z.working_directory (Err f)) same falls) in
        subst (λ x. TriesFrom c told (front ++ rest) after location x) (sym ends.2)
        (subst (λ w. TriesFrom c told (front ++ rest) w location (Err (error_of_search f))) (sym ends.1)
        (subst (λ l. TriesFrom c told l between location (Err (error_of_search f))) (sym (ap (λ l. front ++ l) ends.0 ∙ append-nil front)) lost))

    fallen_by : (x : Result Reply Error) (fallback : Bool) (l : Location) (found : Result (Option Location) SearchError) (next : Item) → AnswersAt told front between (at_place c location) x fallback → lacks x ≡ true → l ≡ location → fallback ≡ true
        → FallsBack between c.config l.working_directory found → Some next ≡ item_found found → FromItem between rest after next r → TriesFrom c told (front ++ rest) after location r
    fallen_by (Ok o) fallback l found next at lack same sets falls is more = absurd (let no : ⊥ = cc in no)
    fallen_by (Err e) fallback l found next at lack same sets falls is more = fallen e fallback l found next at lack same sets falls is more

  next_of_climb : (t : Tried) (told after : Option World) (rest : List Act) (item next : Item) (r : Result Reply Error) → IsTried c t told item → lacks t.answer ≡ true → StandsBehind c t (Some next) → FromItem t.after rest after next r → FromItem told (t.acts ++ rest) after item r
  next_of_climb t told after rest item next r is lack (StandsBehind.nothing none no_next) more = absurd (let no : ⊥ = cc in no)
  next_of_climb t told after rest (Ok location) next r is lack (StandsBehind.found l found at sets falls same) more =
      fallen_by told t.after after t.acts rest location r t.answer t.fallback l found next (asked_at t told location is) lack (same_place l location t.item at is.0) sets falls same more
  next_of_climb t told after rest (Err e) next r is lack (StandsBehind.found l found at sets falls same) more =
      let place : t.item ≡ Err e = is.0 in
      absurd (let no : ⊥ = cc in no)

  climbs : (before : List Tried) (it : Tried) (told : Option World) (item : Item) → ComesTo c (λ now one. IsTried c it now one) told item before → (lacks it.answer ≡ false) ⊎ StandsBehind c it None → FromItem told (acts_of before ++ it.acts) it.after item it.answer
  climbs [] it told item is way = last_of_climb it told item is way
  climbs (t ∷ ts) it told item (is, lack, (next, stands, more)) way =
      subst (λ l. FromItem told l it.after item it.answer) (sym (append_assoc t.acts (acts_of ts) it.acts))
      (next_of_climb t told it.after (acts_of ts ++ it.acts) item next it.answer is lack stands (climbs ts it t.after next more way))

  pub climb_of_first : (told : Option World) (acts : List Act) (after : Option World) (location : Location) (r : Result Reply Error) → IsFirstAnswer c told acts after location r → TriesFrom c told acts after location r
  climb_of_first told acts after location r k =
      subst (λ x. TriesFrom c told acts after location x) (sym k.answer)
      (subst (λ w. TriesFrom c told acts w location k.it.answer) (sym k.after_is)
      (subst (λ l. TriesFrom c told l k.it.after location k.it.answer) (sym k.acts_are) (climbs k.before k.it told (Ok location) k.comes k.first_or_last)))
