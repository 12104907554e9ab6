-- Over a told world and the same acts the justfiles that are tried from a place on give one answer at most, where each of them does, and each search for the next.
use Rattle.std.proofs.Common.{◌≡◌, ◌++◌, Bool, true, false, true≢false, List, Option, Some, None, Result, Ok, Err, refl, sym, ◌∙◌, ap, subst}
use Rattle.std.specs.Prelude.{◌&&◌, if◌then◌else◌}
use Rattle.just_host_record.specs.World.{World}
use Rattle.just_env.specs.declared.search_error.SearchError.{SearchError}
use Rattle.just_cli_plan.specs.Loading.{tells_failure, IsOwn as IsOwnSearch}
use Rattle.just_config.specs.declared.config.Config.{Config}
use Rattle.just_search.specs.declared.location.Location.{Location}
use Rattle.just_search.specs.Fallback.{FallsBack}
use Rattle.just_exec.specs.Refusals.{error_of_search}
use Rattle.just_exec.specs.declared.error.Error.{Error}
use Rattle.just_exec.specs.declared.error.Error.TheVariants as error
use Rattle.just_cli.specs.Replies.{Reply}
use Rattle.just_cli.specs.Acts.{Act, AreToldBehind}
use Rattle.just_cli_plan.specs.Own.{IsOwn}
use Rattle.just_cli.specs.Options.{is_lacking, lacks, is_missing, empty_outline, allowed}
use Rattle.just_cli.specs.Words.{ConfigRequest, LocatedRequest}
use Rattle.just_cli.specs.Request.{AnswersAt, at_place}
use Rattle.just_cli.specs.Taken.{TriesFrom}
use Rattle.just_cli.proofs.Acting.{Agrees, in_two, told_later}
use Rattle.just_cli.proofs.OneLocation.{falls_one}
use Rattle.just_cli.proofs.OneSearch.{own_search}

-- a justfile that lacks what is asked for does so by the world's own answer, and so does one where a name is missing
pub own_lacking : (e : Error) → is_lacking e ≡ true → IsOwn {A = Reply} (Err e)
own_lacking (error.UnknownRecipe recipe) is = (refl, refl, refl)
own_lacking (error.UnknownSubmodule path) is = (refl, refl, refl)
own_lacking _ is = absurd (cc)

own_unless : (allow : Bool) (o : Reply) (e : Error) → IsOwn {A = Reply} (if allow && is_missing e then Ok o else Err e) → IsOwn {A = Reply} (Err e)
own_unless allow o (error.UnknownRecipe recipe) own = (refl, refl, refl)
own_unless allow o (error.UnknownSubmodule path) own = (refl, refl, refl)
own_unless allow o (error.ModuleAbsent m) own = (refl, refl, refl)
own_unless true o _ own = own
own_unless false o _ own = own

own_allowed : (c : Config) (x : Result Reply Error) → IsOwn (allowed c x) → IsOwn x
own_allowed c (Ok o) own = tt
own_allowed c (Err e) own = own_unless c.allow_missing (Reply.runs (empty_outline c)) e own

pub own_answer : (c : Config) (x r : Result Reply Error) → r ≡ allowed c x → IsOwn r → IsOwn x
own_answer c x r is own = own_allowed c x (subst (λ (z : Result Reply Error). IsOwn z) is own)

-- what a search answers is one thing
pub found_or_refused : {A : Type 0} (e : SearchError) (x : A) → ◌≡◌ {A = Result A SearchError} (Ok x) (Err e) → ⊥
found_or_refused e x is = let no : ⊥ = cc in no

pub none_or_one : (l : Location) → ◌≡◌ {A = Result (Option Location) SearchError} (Ok None) (Ok (Some l)) → ⊥
none_or_one l is = let no : ⊥ = cc in no

pub one_next : (k l : Location) → ◌≡◌ {A = Result (Option Location) SearchError} (Ok (Some k)) (Ok (Some l)) → k ≡ l
one_next k l is = cc

pub one_error : (e f : SearchError) → ◌≡◌ {A = Result (Option Location) SearchError} (Err e) (Err f) → e ≡ f
one_error e f is = cc

and_true : (b : Bool) → (b && true) ≡ b
and_true true = refl
and_true false = refl

-- two answers of a justfile are one, and it sets fallback or doesn't
pub record AnswersSame (r s : Result Reply Error) (f g : Bool) (rest left : List Act) (after later : Option World) : Type 0 where
  pub answer : Agrees {R = Result Reply Error} r s rest left after later
  pub fallback : f ≡ g

abbrev pub AnswersOne : Type 0
AnswersOne =
    (w : World) (acts more rest left : List Act) (after later : Option World) (q : LocatedRequest) (r s : Result Reply Error) (f g : Bool) → AnswersAt (Some w) acts after q r f → IsOwn r → AnswersAt (Some w) more later q s g → IsOwn s → acts ++ rest ≡ more ++ left
    → AreToldBehind (more ++ left) → AnswersSame r s f g rest left after later

module _ (c : ConfigRequest) (one_answer : AnswersOne) where
  abbrev At : Option World → List Act → Option World → Location → Result Reply Error → Bool → Type 0
  At told acts after location r fallback = AnswersAt told acts after (at_place c location) r fallback

  -- a refusal of the search that is the answer
  pub search_of : (f : SearchError) → IsOwn {A = Reply} (Err (error_of_search f)) → tells_failure f ≡ false
  search_of f own = own_search f own.0

  -- one that answers isn't one behind which another is tried
  pub stands_or_lacks : (r : Result Reply Error) (fallback : Bool) (e : Error) → r ≡ Err e → fallback ≡ true → (lacks r && fallback) ≡ false → is_lacking e ≡ true → ⊥
  stands_or_lacks r fallback e same sets stays lack = true≢false (sym lack ∙ (sym (and_true (is_lacking e)) ∙ (ap (λ b. is_lacking e && b) (sym sets) ∙ (ap (λ x. lacks x && fallback) (sym same) ∙ stays))))

  module _ (w : World) (told also : Option World) (told_is : told ≡ Some w) (also_is : also ≡ Some w) (location other : Location) (place : location ≡ other) where
    same_at : (acts more rest left : List Act) (after later : Option World) (r s : Result Reply Error) (f g : Bool) → At told acts after location r f → IsOwn r → At also more later other s g → IsOwn s → acts ++ rest ≡ more ++ left → AreToldBehind (more ++ left) → AnswersSame r s f g rest left after later
    same_at acts more rest left after later r s f g a own b owned all behind =
        one_answer w acts more rest left after later (at_place c location) r s f g (subst (λ t. At t acts after location r f) told_is a) own
        (subst (λ (z : Location). At (Some w) more later z s g) (sym place) (subst (λ t. At t more later other s g) also_is b)) owned all behind

  -- the justfile that is tried next is one
  one_fall : (v : World) (after later : Option World) → after ≡ Some v → later ≡ Some v → (location other : Location) → location ≡ other → (r s : Result (Option Location) SearchError) → FallsBack after c.config location.working_directory r → IsOwnSearch r
      → FallsBack later c.config other.working_directory s → IsOwnSearch s → r ≡ s
  one_fall v after later is at location other place r s p own q owned =
      falls_one v c.config location.working_directory r s (subst (λ t. FallsBack t c.config location.working_directory r) is p) own
      (subst (λ (z : Location). FallsBack (Some v) c.config z.working_directory s) (sym place) (subst (λ t. FallsBack t c.config other.working_directory s) at q)) owned

  pub tries_one : (told : Option World) (acts : List Act) (after : Option World) (location : Location) (r : Result Reply Error) → TriesFrom c told acts after location r
      → (also : Option World) (more : List Act) (later : Option World) (other : Location) (s : Result Reply Error) → TriesFrom c also more later other s
      → (w : World) → told ≡ Some w → also ≡ Some w → location ≡ other → (rest left : List Act) → acts ++ rest ≡ more ++ left → AreToldBehind (more ++ left) → IsOwn r → IsOwn s → Agrees {R = Result Reply Error} r s rest left after later
  tries_one told acts after location r (TriesFrom.stands t a xs l x f at stays) also more later other s (TriesFrom.stands u b ys m y g by none) w ti ui place rest left all told_so own owned =
      (same_at w t u ti ui l m place xs ys rest left a b x y f g at own by owned all told_so).answer
  tries_one told acts after location r (TriesFrom.stands t a xs l x f at stays) also more later other s (TriesFrom.highest u b ys m d by lack q) w ti ui place rest left all told_so own owned =
      let k = same_at w t u ti ui l m place xs ys rest left a b x (Err d) f true at own by (own_lacking d lack) all told_so in absurd (stands_or_lacks x f d k.answer.same k.fallback stays lack)
  tries_one told acts after location r (TriesFrom.stands t a xs l x f at stays) also more later other s (TriesFrom.refused u b ys m d g by lack q) w ti ui place rest left all told_so own owned =
      let k = same_at w t u ti ui l m place xs ys rest left a b x (Err d) f true at own by (own_lacking d lack) all told_so in absurd (stands_or_lacks x f d k.answer.same k.fallback stays lack)
  tries_one told acts after location r (TriesFrom.stands t a xs l x f at stays) also more later other s (TriesFrom.falls u v b ys front back m n d y by lack q further split) w ti ui place rest left all told_so own owned =
      let k = same_at w t u ti ui l m place xs front rest (back ++ left) a v x (Err d) f true at own by (own_lacking d lack) (all ∙ in_two ys front back left split) (subst (λ z. AreToldBehind z) (in_two ys front back left split) told_so) in absurd (stands_or_lacks x f d k.answer.same k.fallback stays lack)
  tries_one told acts after location r (TriesFrom.highest t a xs l e at lack p) also more later other s (TriesFrom.stands u b ys m y g by none) w ti ui place rest left all told_so own owned =
      let k = same_at w t u ti ui l m place xs ys rest left a b (Err e) y true g at (own_lacking e lack) by owned all told_so in absurd (stands_or_lacks y g e (sym k.answer.same) (sym k.fallback) none lack)
  tries_one told acts after location r (TriesFrom.highest t a xs l e at lack p) also more later other s (TriesFrom.highest u b ys m d by wants q) w ti ui place rest left all told_so own owned =
      (same_at w t u ti ui l m place xs ys rest left a b (Err e) (Err d) true true at own by owned all told_so).answer
  tries_one told acts after location r (TriesFrom.highest t a xs l e at lack p) also more later other s (TriesFrom.refused u b ys m d g by wants q) w ti ui place rest left all told_so own owned =
      let k = (same_at w t u ti ui l m place xs ys rest left a b (Err e) (Err d) true true at own by (own_lacking d wants) all told_so).answer in
      absurd (found_or_refused g None (one_fall k.world a b k.told k.also l m place (Ok None) (Err g) p tt q (search_of g owned)))
  tries_one told acts after location r (TriesFrom.highest t a xs l e at lack p) also more later other s (TriesFrom.falls u v b ys front back m n d y by wants q further split) w ti ui place rest left all told_so own owned =
      let k = (same_at w t u ti ui l m place xs front rest (back ++ left) a v (Err e) (Err d) true true at own by (own_lacking d wants) (all ∙ in_two ys front back left split) (subst (λ z. AreToldBehind z) (in_two ys front back left split) told_so)).answer in
      absurd (none_or_one n (one_fall k.world a v k.told k.also l m place (Ok None) (Ok (Some n)) p tt q tt))
  tries_one told acts after location r (TriesFrom.refused t a xs l e f at lack p) also more later other s (TriesFrom.stands u b ys m y g by none) w ti ui place rest left all told_so own owned =
      let k = same_at w t u ti ui l m place xs ys rest left a b (Err e) y true g at (own_lacking e lack) by owned all told_so in absurd (stands_or_lacks y g e (sym k.answer.same) (sym k.fallback) none lack)
  tries_one told acts after location r (TriesFrom.refused t a xs l e f at lack p) also more later other s (TriesFrom.highest u b ys m d by wants q) w ti ui place rest left all told_so own owned =
      let k = (same_at w t u ti ui l m place xs ys rest left a b (Err e) (Err d) true true at (own_lacking e lack) by owned all told_so).answer in
      absurd (found_or_refused f None (sym (one_fall k.world a b k.told k.also l m place (Err f) (Ok None) p (search_of f own) q tt)))
  tries_one told acts after location r (TriesFrom.refused t a xs l e f at lack p) also more later other s (TriesFrom.refused u b ys m d g by wants q) w ti ui place rest left all told_so own owned =
      let k = (same_at w t u ti ui l m place xs ys rest left a b (Err e) (Err d) true true at (own_lacking e lack) by (own_lacking d wants) all told_so).answer in
      record { same = ap (λ z. Err (error_of_search z)) (one_error f g (one_fall k.world a b k.told k.also l m place (Err f) (Err g) p (search_of f own) q (search_of g owned))); rests = k.rests; world = k.world; told = k.told; also = k.also }
  tries_one told acts after location r (TriesFrom.refused t a xs l e f at lack p) also more later other s (TriesFrom.falls u v b ys front back m n d y by wants q further split) w ti ui place rest left all told_so own owned =
      let k = (same_at w t u ti ui l m place xs front rest (back ++ left) a v (Err e) (Err d) true true at (own_lacking e lack) by (own_lacking d wants) (all ∙ in_two ys front back left split) (subst (λ z. AreToldBehind z) (in_two ys front back left split) told_so)).answer in
      absurd (found_or_refused f (Some n) (sym (one_fall k.world a v k.told k.also l m place (Err f) (Ok (Some n)) p (search_of f own) q tt)))
  tries_one told acts after location r (TriesFrom.falls t between a xs fore hind l o e x at lack p behind cut) also more later other s (TriesFrom.stands u b ys m y g by none) w ti ui place rest left all told_so own owned =
      let k = same_at w t u ti ui l m place fore ys (hind ++ rest) left between b (Err e) y true g at (own_lacking e lack) by owned (sym (in_two xs fore hind rest cut) ∙ all) told_so in
      absurd (stands_or_lacks y g e (sym k.answer.same) (sym k.fallback) none lack)
  tries_one told acts after location r (TriesFrom.falls t between a xs fore hind l o e x at lack p behind cut) also more later other s (TriesFrom.highest u b ys m d by wants q) w ti ui place rest left all told_so own owned =
      let k = (same_at w t u ti ui l m place fore ys (hind ++ rest) left between b (Err e) (Err d) true true at (own_lacking e lack) by owned (sym (in_two xs fore hind rest cut) ∙ all) told_so).answer in
      absurd (none_or_one o (sym (one_fall k.world between b k.told k.also l m place (Ok (Some o)) (Ok None) p tt q tt)))
  tries_one told acts after location r (TriesFrom.falls t between a xs fore hind l o e x at lack p behind cut) also more later other s (TriesFrom.refused u b ys m d g by wants q) w ti ui place rest left all told_so own owned =
      let k = (same_at w t u ti ui l m place fore ys (hind ++ rest) left between b (Err e) (Err d) true true at (own_lacking e lack) by (own_lacking d wants) (sym (in_two xs fore hind rest cut) ∙ all) told_so).answer in
      absurd (found_or_refused g (Some o) (one_fall k.world between b k.told k.also l m place (Ok (Some o)) (Err g) p tt q (search_of g owned)))
  tries_one told acts after location r (TriesFrom.falls t between a xs fore hind l o e x at lack p behind cut) also more later other s (TriesFrom.falls u v b ys front back m n d y by wants q further split) w ti ui place rest left all told_so own owned =
      let k = (same_at w t u ti ui l m place fore front (hind ++ rest) (back ++ left) between v (Err e) (Err d) true true at (own_lacking e lack) by (own_lacking d wants)
      (sym (in_two xs fore hind rest cut) ∙ (all ∙ in_two ys front back left split)) (subst (λ z. AreToldBehind z) (in_two ys front back left split) told_so)).answer in
      tries_one between hind a o x behind v back b n y further k.world k.told k.also (one_next o n (one_fall k.world between v k.told k.also l m place (Ok (Some o)) (Ok (Some n)) p tt q tt)) rest left k.rests (told_later front (back ++ left) (subst (λ z. AreToldBehind z) (in_two ys front back left split) told_so)) own owned

  pub from_one : (w : World) (acts more rest left : List Act) (after later : Option World) (location : Location) (r s : Result Reply Error) → TriesFrom c (Some w) acts after location r → IsOwn r → TriesFrom c (Some w) more later location s → IsOwn s
      → acts ++ rest ≡ more ++ left → AreToldBehind (more ++ left) → Agrees {R = Result Reply Error} r s rest left after later
  from_one w acts more rest left after later location r s p own q owned all told = tries_one (Some w) acts after location r p (Some w) more later location s q w refl refl refl rest left all told own owned
