-- Over a told world, where no temporary folder is made, the answer of the justfiles that are tried is that of the first in the whole list that lacks nothing,
-- or of the last.
use Rattle.std.proofs.Common.{◌≡◌, ◌⊎◌, inl, inr, Bool, true, false, true≢false, List, [], ◌∷◌, Option, Some, None, Result, Ok, Err, refl, sym, ◌∙◌, ap, subst}
use Rattle.std.specs.Prelude.{◌&&◌}
use Rattle.std.specs.List.{AllByRecursion}
use Rattle.just_host_record.specs.World.{World}
use Rattle.just_env.specs.declared.search_error.SearchError.{SearchError}
use Rattle.just_cli_plan.specs.Loading.{tells_failure, IsOwn as IsOwnSearch}
use Rattle.just_search.specs.declared.location.Location.{Location}
use Rattle.just_search.specs.Fallback.{FallsBack, AreTried}
use Rattle.just_lang_types.specs.Modules.{settings_of}
use Rattle.just_exec.specs.Refusals.{error_of_search}
use Rattle.just_exec.specs.declared.error.Error.{Error}
use Rattle.just_config.specs.declared.config.Config.{Config}
use Rattle.just_cli_texts.specs.Laid.{LaidRequest}
use Rattle.just_cli.specs.Replies.{Reply, RepliesLoaded}
use Rattle.just_cli.specs.Acts.{Act, Behind}
use Rattle.just_cli_plan.specs.Own.{is_fault, IsOwn}
use Rattle.just_cli.specs.Options.{is_lacking, lacks}
use Rattle.just_cli.specs.Words.{ConfigRequest, LocatedRequest}
use Rattle.just_cli.specs.Request.{FindsProjectAt, RepliesTo, AnswersAt, at_place}
use Rattle.just_cli.specs.Taken.{TriesFrom}
use Rattle.just_cli.specs.Whole.{SetsFallback, Lacks, AnswersFirst, IsFound}
use Rattle.just_cli.proofs.Climbing.{beside_none}
use Rattle.just_cli.proofs.OneLocation.{falls_one}
use Rattle.just_cli.proofs.OneSearch.{own_search}
use Rattle.just_cli.proofs.OneTried.{own_lacking, found_or_refused, none_or_one, one_next, one_error}
use Rattle.just_cli.proofs.OnePairs.{own_refused, nil_front, nil_back, modules_still}
use Rattle.just_cli.proofs.Requests.{project_own}
use Rattle.just_cli.proofs.Taking.{takes_still}
use Rattle.just_cli_plan.proofs.Steps.{refused_or_found, same_found}

-- ---- where no act is taken, the world stays

project_still : (told after : Option World) (acts : List Act) (q : LocatedRequest) (r : Result LaidRequest Error) → FindsProjectAt told acts after q r → [] ≡ acts → after ≡ told
project_still told after acts q r (Behind.refused e p is) none = takes_still told after acts q (Err e) p (sym none)
project_still told after acts q r (Behind.both j front back between p (empty, world, finds) split) none = world ∙ takes_still told between front q (Ok j) p (nil_front front back (none ∙ split))

reply_still : (c : Config) (told after : Option World) (acts : List Act) (p : LaidRequest) (r : Result Reply Error) → RepliesTo c told acts after p r → IsOwn r → [] ≡ acts → after ≡ told
reply_still c told after acts p r replies own none = modules_still (RepliesLoaded c p) told after acts p r replies own none

answer_still : (told after : Option World) (acts : List Act) (q : LocatedRequest) (r : Result Reply Error) (fallback : Bool) → AnswersAt told acts after q r fallback → IsOwn r → [] ≡ acts → after ≡ told
answer_still told after acts q r fallback (AnswersAt.no_project e p is sets) own none = project_still told after acts q (Err e) p none
answer_still told after acts q r fallback (AnswersAt.of_project p front back between finds plans split sets) own none =
    reply_still q.config between after back p r plans own (sym (nil_back front back (none ∙ split))) ∙ project_still told between front q (Ok p) finds (sym (nil_front front back (none ∙ split)))

way_on : (lack : Bool) (fallback fb : Bool) (behind : List (Result Location SearchError)) → (lack ≡ false) ⊎ (fallback ≡ false) → fallback ≡ fb → (fb ≡ false → behind ≡ []) → (lack ≡ false) ⊎ (behind ≡ [])
way_on lack fallback fb behind (inl stays) same alone = inl stays
way_on lack fallback fb behind (inr none) same alone = inr (alone (sym same ∙ none))

-- one more before
more_before : (told : Option World) (c : ConfigRequest) (item : Result Location SearchError) (items : List (Result Location SearchError)) (r : Result Reply Error) → Lacks told c item → AnswersFirst told c items r → AnswersFirst told c (item ∷ items) r
more_before told c item items r lack (AnswersFirst.answers before behind it is all last way) = AnswersFirst.answers (item ∷ before) behind it (ap (λ xs. item ∷ xs) is) (lack, all) last way

module _ (w : World) (c : ConfigRequest) where
  abbrev Here : Location → Result Reply Error → Bool → Type 0
  Here location r fallback = AnswersAt (Some w) [] (Some w) (at_place c location) r fallback

  -- the same over another name of the world
  here : (told after : Option World) (acts : List Act) (location other : Location) (r : Result Reply Error) (fallback : Bool) → told ≡ Some w → [] ≡ acts → location ≡ other → IsOwn r → AnswersAt told acts after (at_place c location) r fallback → Here other r fallback
  here told after acts location other r fallback world none place own at =
      let still : after ≡ Some w = answer_still told after acts (at_place c location) r fallback at own none ∙ world in
      subst (λ (z : Location). Here z r fallback) place
      (subst (λ t. AnswersAt (Some w) [] t (at_place c location) r fallback) still (subst (λ l. AnswersAt (Some w) l after (at_place c location) r fallback) (sym none) (subst (λ t. AnswersAt t acts after (at_place c location) r fallback) world at)))

  -- a justfile sets fallback or doesn't
  setting_one : (location : Location) (r : Result Reply Error) (f g : Bool) → Here location r f → IsOwn r → SetsFallback (Some w) c location g → f ≡ g
  setting_one location r f g (AnswersAt.no_project e a is none) own (SetsFallback.of_project p b at) =
      absurd (refused_or_found e p (project_own w [] [] [] [] (Some w) (Some w) (at_place c location) (Err e) (Ok p) a (own_refused LaidRequest r e is own) b tt refl tt).same)
  setting_one location r f g (AnswersAt.no_project e a is none) own (SetsFallback.no_project d b other never) = none ∙ sym never
  setting_one location r f g (AnswersAt.of_project p front back between a plans split is) own (SetsFallback.of_project k b at) =
      is ∙ (ap (λ (z : LaidRequest). (settings_of z.laid.justfile).fallback) (same_found p k (project_own w front [] back [] between (Some w) (at_place c location) (Ok p) (Ok k) a tt b tt (sym split) tt).same) ∙ sym at)
  setting_one location r f g (AnswersAt.of_project p front back between a plans split is) own (SetsFallback.no_project d b other never) =
      absurd (refused_or_found d p (sym (project_own w front [] back [] between (Some w) (at_place c location) (Ok p) (Err d) a tt b other (sym split) tt).same))

  -- one behind which another is tried sets fallback
  sets_none : (location : Location) (e : Error) → Here location (Err e) true → is_lacking e ≡ true → SetsFallback (Some w) c location false → ⊥
  sets_none location e at lack sets = true≢false (setting_one location (Err e) true false at (own_lacking e lack) sets)

  -- the answer of the first stands, whatever is behind it
  stands_first : (location : Location) (r : Result Reply Error) → IsOwn r → (fallback : Bool) → Here location r fallback → (lacks r && fallback) ≡ false
      → (behind : List (Result Location SearchError)) (fb : Bool) → SetsFallback (Some w) c location fb → (fb ≡ false → behind ≡ []) → AnswersFirst (Some w) c (Ok location ∷ behind) r
  stands_first location r own fallback at stays behind fb sets alone =
      AnswersFirst.answers [] behind (Ok location) refl tt (fallback, at) (way_on (lacks r) fallback fb behind (beside_none (lacks r) fallback stays) (setting_one location r fallback fb at own sets) alone)

  -- one that lacks it is passed
  passed_first : (location : Location) (e : Error) → Here location (Err e) true → is_lacking e ≡ true → Lacks (Some w) c (Ok location)
  passed_first location e at lack = (e, (true, at), lack)

  -- a search that is the answer, or that is found
  search_of : (f : SearchError) → IsOwn {A = Reply} (Err (error_of_search f)) → tells_failure f ≡ false
  search_of f own = own_search f own.0

  own_item : (f : SearchError) → is_fault (error_of_search f) ≡ false → IsOwnSearch {A = Option Location} (Err f)
  own_item f own = own_search f own

  -- the justfile that is tried next is one
  falls_first : (world : Option World) → world ≡ Some w → (location other : Location) → location ≡ other → (r s : Result (Option Location) SearchError) → FallsBack world c.config location.working_directory r → IsOwnSearch r
      → FallsBack (Some w) c.config other.working_directory s → IsOwnSearch s → r ≡ s
  falls_first world at location other place r s p own q owned =
      falls_one w c.config location.working_directory r s (subst (λ t. FallsBack t c.config location.working_directory r) at p) own (subst (λ (z : Location). FallsBack (Some w) c.config z.working_directory s) (sym place) q) owned

  pub whole : (told : Option World) (acts : List Act) (after : Option World) (location : Location) (r : Result Reply Error) → TriesFrom c told acts after location r
      → (other : Location) (items : List (Result Location SearchError)) → AreTried (Some w) c.config (SetsFallback (Some w) c) other items → told ≡ Some w → [] ≡ acts → location ≡ other → IsOwn r → AllByRecursion IsFound items → AnswersFirst (Some w) c items r
  whole told acts after location r (TriesFrom.stands t a xs l x f at stays) other items (AreTried.alone m y) world none place own found =
      stands_first m x own f (here t a xs l m x f world none place own at) stays [] false y (λ no. refl)
  whole told acts after location r (TriesFrom.stands t a xs l x f at stays) other items (AreTried.highest m y q) world none place own found =
      stands_first m x own f (here t a xs l m x f world none place own at) stays [] true y (λ no. refl)
  whole told acts after location r (TriesFrom.stands t a xs l x f at stays) other items (AreTried.refused m g y q) world none place own found =
      stands_first m x own f (here t a xs l m x f world none place own at) stays (Err g ∷ []) true y (λ no. absurd (true≢false no))
  whole told acts after location r (TriesFrom.stands t a xs l x f at stays) other items (AreTried.behind m n js y q more) world none place own found =
      stands_first m x own f (here t a xs l m x f world none place own at) stays js true y (λ no. absurd (true≢false no))
  whole told acts after location r (TriesFrom.highest t a xs l e at lack p) other items (AreTried.alone m y) world none place own found = absurd (sets_none m e (here t a xs l m (Err e) true world none place (own_lacking e lack) at) lack y)
  whole told acts after location r (TriesFrom.highest t a xs l e at lack p) other items (AreTried.highest m y q) world none place own found =
      AnswersFirst.answers [] [] (Ok m) refl tt (true, here t a xs l m (Err e) true world none place (own_lacking e lack) at) (inr refl)
  whole told acts after location r (TriesFrom.highest t a xs l e at lack p) other items (AreTried.refused m f y q) world none place own found =
      absurd (found_or_refused f None (falls_first a (answer_still t a xs (at_place c l) (Err e) true at (own_lacking e lack) none ∙ world) l m place (Ok None) (Err f) p tt q (own_item f found.1.0)))
  whole told acts after location r (TriesFrom.highest t a xs l e at lack p) other items (AreTried.behind m n js y q more) world none place own found =
      absurd (none_or_one n (falls_first a (answer_still t a xs (at_place c l) (Err e) true at (own_lacking e lack) none ∙ world) l m place (Ok None) (Ok (Some n)) p tt q tt))
  whole told acts after location r (TriesFrom.refused t a xs l e f at lack p) other items (AreTried.alone m y) world none place own found = absurd (sets_none m e (here t a xs l m (Err e) true world none place (own_lacking e lack) at) lack y)
  whole told acts after location r (TriesFrom.refused t a xs l e f at lack p) other items (AreTried.highest m y q) world none place own found =
      absurd (found_or_refused f None (sym (falls_first a (answer_still t a xs (at_place c l) (Err e) true at (own_lacking e lack) none ∙ world) l m place (Err f) (Ok None) p (search_of f own) q tt)))
  whole told acts after location r (TriesFrom.refused t a xs l e f at lack p) other items (AreTried.refused m g y q) world none place own found =
      AnswersFirst.answers (Ok m ∷ []) [] (Err g) refl (passed_first m e (here t a xs l m (Err e) true world none place (own_lacking e lack) at) lack, tt)
      (ap (λ z. Err (error_of_search z)) (one_error f g (falls_first a (answer_still t a xs (at_place c l) (Err e) true at (own_lacking e lack) none ∙ world) l m place (Err f) (Err g) p (search_of f own) q (own_item g found.1.0)))) (inr refl)
  whole told acts after location r (TriesFrom.refused t a xs l e f at lack p) other items (AreTried.behind m n js y q more) world none place own found =
      absurd (found_or_refused f (Some n) (sym (falls_first a (answer_still t a xs (at_place c l) (Err e) true at (own_lacking e lack) none ∙ world) l m place (Err f) (Ok (Some n)) p (search_of f own) q tt)))
  whole told acts after location r (TriesFrom.falls t between a xs front back l o e x at lack p rest split) other items (AreTried.alone m y) world none place own found =
      absurd (sets_none m e (here t between front l m (Err e) true world (sym (nil_front front back (none ∙ split))) place (own_lacking e lack) at) lack y)
  whole told acts after location r (TriesFrom.falls t between a xs front back l o e x at lack p rest split) other items (AreTried.highest m y q) world none place own found =
      absurd (none_or_one o (sym (falls_first between (answer_still t between front (at_place c l) (Err e) true at (own_lacking e lack) (sym (nil_front front back (none ∙ split))) ∙ world) l m place (Ok (Some o)) (Ok None) p tt q tt)))
  whole told acts after location r (TriesFrom.falls t between a xs front back l o e x at lack p rest split) other items (AreTried.refused m f y q) world none place own found =
      absurd (found_or_refused f (Some o) (falls_first between (answer_still t between front (at_place c l) (Err e) true at (own_lacking e lack) (sym (nil_front front back (none ∙ split))) ∙ world) l m place (Ok (Some o)) (Err f) p tt q (own_item f found.1.0)))
  whole told acts after location r (TriesFrom.falls t between a xs front back l o e x at lack p rest split) other items (AreTried.behind m n js y q more) world none place own found =
      let still : between ≡ Some w = answer_still t between front (at_place c l) (Err e) true at (own_lacking e lack) (sym (nil_front front back (none ∙ split))) ∙ world in
      more_before (Some w) c (Ok m) js x (passed_first m e (here t between front l m (Err e) true world (sym (nil_front front back (none ∙ split))) place (own_lacking e lack) at) lack)
      (whole between back a o x rest n js more still (sym (nil_back front back (none ∙ split))) (one_next o n (falls_first between still l m place (Ok (Some o)) (Ok (Some n)) p tt q tt)) own found.1)
