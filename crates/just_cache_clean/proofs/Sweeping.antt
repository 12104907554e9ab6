-- Entries are removed, one after the other.
use Rattle.std.proofs.Common.{◌≡◌, ℕ, suc, ◌+◌, ◌<◌, ◌≤◌, true, false, List, [], ◌∷◌, ◌++◌, take, drop, length, get_or, refl, sym, ap, ◌∙◌, subst, arith}
use Rattle.std.specs.Prelude.{Option, Result, Ok, Err, IsErrAnd}
use Rattle.std.proofs.lemmas.List.{take-append-drop, take_all, take_more}
use Rattle.just_path.specs.Path.{pushed}
use Rattle.just_host_record.specs.World.{Moment}
use Rattle.just_lang_types.specs.declared.recipe.Modulepath.{Modulepath}
use Rattle.just_cache.specs.Errors.{entry_error}
use Rattle.just_cache.specs.declared.cache_error.CacheError.{CacheError}
use Rattle.just_cache.specs.declared.cache_error.CacheError.TheVariants as error
use Rattle.just_cache_clean.specs.EntryTexts.{IsEntryName}
use Rattle.just_cache_clean.specs.Told.{IsRead, IsRemoved}
use Rattle.just_cache_clean.specs.Sweeps.{Judges, one_more, Sweeps}
use Rattle.just_cache_clean.specs.Kept.{JudgesOr, RemovesOr}

-- so many, and those behind them
abbrev pub added : ℕ → Result ℕ CacheError → Result ℕ CacheError
added n (Ok k) = Ok (n + k)
added n (Err e) = Err e

added_none : (r : Result ℕ CacheError) → r ≡ added 0 r
added_none (Ok k) = ap Ok (omega arith)
added_none (Err e) = refl

more_added : (n : ℕ) (r : Result ℕ CacheError) → one_more (added n r) ≡ added (suc n) r
more_added n (Ok k) = ap Ok (omega arith)
more_added n (Err e) = refl

module _ (folder : List ℕ) (prefix : Option Modulepath) where
  -- ---- one name

  pub swept_other : (name : List ℕ) (m : Moment) → ((digest : List ℕ) → IsEntryName digest name → ⊥) → Sweeps folder prefix (name ∷ []) m m (Ok 0)
  swept_other name m h = Sweeps.other name [] m m (Ok 0) h (Sweeps.nothing m)

  pub swept_want : (name : List ℕ) (m : Moment) (r : Result ℕ CacheError) → IsErrAnd r (λ e. e ≡ error.NoMemory) → Sweeps folder prefix (name ∷ []) m m r
  swept_want name m (Ok b) memory = absurd memory
  swept_want name m (Err e) memory = subst (λ (x : CacheError). Sweeps folder prefix (name ∷ []) m m (Err x)) (sym memory) (Sweeps.want (name ∷ []) m)

  pub swept_unread : (name digest path : List ℕ) (m n : Moment) (e : CacheError) → IsEntryName digest name → path ≡ pushed folder name → JudgesOr prefix digest path m n (Err e) → Sweeps folder prefix (name ∷ []) m n (Err e)
  swept_unread name digest path m n e is at (f, read, off, told) =
      subst (λ (x : CacheError). Sweeps folder prefix (name ∷ []) m n (Err x)) (sym (told ∙ ap (λ (p : List ℕ). entry_error p f) at))
      (Sweeps.unread name digest [] m n f is (subst (λ (p : List ℕ). IsRead p m n (Err f)) at read) off)

  pub swept_stays : (name digest path : List ℕ) (m n : Moment) → IsEntryName digest name → path ≡ pushed folder name → JudgesOr prefix digest path m n (Ok false) → Sweeps folder prefix (name ∷ []) m n (Ok 0)
  swept_stays name digest path m n is at j = Sweeps.stays name digest [] m n n (Ok 0) is (subst (λ (p : List ℕ). Judges prefix digest p m n false) at j) (Sweeps.nothing n)

  pub swept_left : (name digest path : List ℕ) (m l n : Moment) (e : CacheError) → IsEntryName digest name → path ≡ pushed folder name → JudgesOr prefix digest path m l (Ok true) → RemovesOr path l n (Err e)
      → Sweeps folder prefix (name ∷ []) m n (Err e)
  swept_left name digest path m l n e is at j (f, removed, told) =
      subst (λ (x : CacheError). Sweeps folder prefix (name ∷ []) m n (Err x)) (sym (told ∙ ap (λ (p : List ℕ). entry_error p f) at))
      (Sweeps.left name digest [] m l n f is (subst (λ (p : List ℕ). Judges prefix digest p m l true) at j) (subst (λ (p : List ℕ). IsRemoved p l n (Err f)) at removed))

  pub swept_goes : (name digest path : List ℕ) (m l n : Moment) → IsEntryName digest name → path ≡ pushed folder name → JudgesOr prefix digest path m l (Ok true) → RemovesOr path l n (Ok tt)
      → Sweeps folder prefix (name ∷ []) m n (Ok 1)
  swept_goes name digest path m l n is at j removed =
      Sweeps.goes name digest [] m l n n (Ok 0) is (subst (λ (p : List ℕ). Judges prefix digest p m l true) at j) (subst (λ (p : List ℕ). IsRemoved p l n (Ok tt)) at removed) (Sweeps.nothing n)

  -- ---- names and others behind them

  swept_both : (xs ys : List (List ℕ)) (m l n : Moment) (q r : Result ℕ CacheError) (a : ℕ) → Sweeps folder prefix xs m l q → q ≡ Ok a → Sweeps folder prefix ys l n r → Sweeps folder prefix (xs ++ ys) m n (added a r)
  swept_both xs ys m l n q r a (Sweeps.nothing k) e s =
      let none : 0 ≡ a = cc in
      subst (λ (b : ℕ). Sweeps folder prefix ys m n (added b r)) none (subst (λ (t : Result ℕ CacheError). Sweeps folder prefix ys m n t) (added_none r) s)
  swept_both xs ys m l n q r a (Sweeps.other name names k o t h rest) e s = Sweeps.other name (names ++ ys) m n (added a r) h (swept_both names ys m l n t r a rest e s)
  swept_both xs ys m l n q r a (Sweeps.stays name digest names k i o t is j rest) e s = Sweeps.stays name digest (names ++ ys) m i n (added a r) is j (swept_both names ys i l n t r a rest e s)
  swept_both xs ys m l n q r a (Sweeps.goes name digest names k i p o t is j removed rest) e s = pick t refl (λ b same. swept_both names ys p l n t r b rest same s) e
    where
      pick : (u : Result ℕ CacheError) → t ≡ u → ((b : ℕ) → t ≡ Ok b → Sweeps folder prefix (names ++ ys) p n (added b r)) → one_more u ≡ Ok a → Sweeps folder prefix ((name ∷ names) ++ ys) m n (added a r)
      pick (Ok b) same more f =
          let so_many : suc b ≡ a = cc in
          subst (λ (c : ℕ). Sweeps folder prefix ((name ∷ names) ++ ys) m n (added c r)) so_many
          (subst (λ (w : Result ℕ CacheError). Sweeps folder prefix ((name ∷ names) ++ ys) m n w) (more_added b r)
          (Sweeps.goes name digest (names ++ ys) m i p n (added b r) is j removed (more b same)))
      pick (Err x) same more f = absurd (let no : ⊥ = cc in no)
  swept_both xs ys m l n q r a (Sweeps.unread name digest names k o f is read off) e s = absurd (let none : ⊥ = cc in none)
  swept_both xs ys m l n q r a (Sweeps.left name digest names k i o f is j removed) e s = absurd (let none : ⊥ = cc in none)
  swept_both xs ys m l n q r a (Sweeps.want names k) e s = absurd (let none : ⊥ = cc in none)

  -- behind a refusal there is nothing more
  stopped : (xs ys : List (List ℕ)) (m n : Moment) (q : Result ℕ CacheError) (e : CacheError) → Sweeps folder prefix xs m n q → q ≡ Err e → Sweeps folder prefix (xs ++ ys) m n (Err e)
  stopped xs ys m n q e (Sweeps.nothing k) h = absurd (let none : ⊥ = cc in none)
  stopped xs ys m n q e (Sweeps.other name names k o t other rest) h = Sweeps.other name (names ++ ys) m n (Err e) other (stopped names ys m n t e rest h)
  stopped xs ys m n q e (Sweeps.stays name digest names k i o t is j rest) h = Sweeps.stays name digest (names ++ ys) m i n (Err e) is j (stopped names ys i n t e rest h)
  stopped xs ys m n q e (Sweeps.goes name digest names k i p o t is j removed rest) h = pick t refl (λ same. stopped names ys p n t e rest same) h
    where
      pick : (u : Result ℕ CacheError) → t ≡ u → (t ≡ Err e → Sweeps folder prefix (names ++ ys) p n (Err e)) → one_more u ≡ Err e → Sweeps folder prefix ((name ∷ names) ++ ys) m n (Err e)
      pick (Ok b) same more f = absurd (let none : ⊥ = cc in none)
      pick (Err x) same more f = let one : x ≡ e = cc in Sweeps.goes name digest (names ++ ys) m i p n (Err e) is j removed (more (same ∙ ap Err one))
  stopped xs ys m n q e (Sweeps.unread name digest names k o f is read off) h =
      subst (λ (w : Result ℕ CacheError). Sweeps folder prefix ((name ∷ names) ++ ys) m n w) h (Sweeps.unread name digest (names ++ ys) m n f is read off)
  stopped xs ys m n q e (Sweeps.left name digest names k i o f is j removed) h =
      subst (λ (w : Result ℕ CacheError). Sweeps folder prefix ((name ∷ names) ++ ys) m n w) h (Sweeps.left name digest (names ++ ys) m i n f is j removed)
  stopped xs ys m n q e (Sweeps.want names k) h = subst (λ (w : Result ℕ CacheError). Sweeps folder prefix (xs ++ ys) m m w) h (Sweeps.want (xs ++ ys) m)

  -- ---- a loop over names

  pub swept_none : (names : List (List ℕ)) (m : Moment) → Sweeps folder prefix (take 0 names) m m (Ok 0)
  swept_none [] m = Sweeps.nothing m
  swept_none (x ∷ xs) m = Sweeps.nothing m

  take_here : (names : List (List ℕ)) (i : ℕ) (name : List ℕ) → i < length names → name ≡ get_or names i name → take (i + 1) names ≡ take i names ++ name ∷ []
  take_here names i name lt is = take_more names i name lt ∙ ap (λ (y : List ℕ). take i names ++ y ∷ []) (sym is)

  pub swept_more : (names : List (List ℕ)) (i : ℕ) (name : List ℕ) (m l n : Moment) (count more sum : ℕ) → i < length names → name ≡ get_or names i name
      → Sweeps folder prefix (take i names) m l (Ok count) → Sweeps folder prefix (name ∷ []) l n (Ok more) → sum ≡ count + more → Sweeps folder prefix (take (i + 1) names) m n (Ok sum)
  swept_more names i name m l n count more sum lt is s one told =
      let whole : Sweeps folder prefix (take i names ++ name ∷ []) m n (Ok (count + more)) = swept_both (take i names) (name ∷ []) m l n (Ok count) (Ok more) count s refl one in
      subst (λ (ns : List (List ℕ)). Sweeps folder prefix ns m n (Ok sum)) (sym (take_here names i name lt is)) (subst (λ (k : ℕ). Sweeps folder prefix (take i names ++ name ∷ []) m n (Ok k)) (sym told) whole)

  pub swept_stop : (names : List (List ℕ)) (i : ℕ) (name : List ℕ) (m l n : Moment) (count : ℕ) (e : CacheError) → i < length names → name ≡ get_or names i name
      → Sweeps folder prefix (take i names) m l (Ok count) → Sweeps folder prefix (name ∷ []) l n (Err e) → Sweeps folder prefix names m n (Err e)
  swept_stop names i name m l n count e lt is s one =
      let some : Sweeps folder prefix (take i names ++ name ∷ []) m n (Err e) = swept_both (take i names) (name ∷ []) m l n (Ok count) (Err e) count s refl one in
      let all : Sweeps folder prefix ((take i names ++ name ∷ []) ++ drop (i + 1) names) m n (Err e) = stopped (take i names ++ name ∷ []) (drop (i + 1) names) m n (Err e) e some refl in
      let parts : (take i names ++ name ∷ []) ++ drop (i + 1) names ≡ names = ap (λ (ns : List (List ℕ)). ns ++ drop (i + 1) names) (sym (take_here names i name lt is)) ∙ take-append-drop (i + 1) names in
      subst (λ (ns : List (List ℕ)). Sweeps folder prefix ns m n (Err e)) parts all

  pub swept_all : (names : List (List ℕ)) (i : ℕ) (m n : Moment) (count : ℕ) → length names ≤ i → Sweeps folder prefix (take i names) m n (Ok count) → Sweeps folder prefix names m n (Ok count)
  swept_all names i m n count le s = subst (λ (ns : List (List ℕ)). Sweeps folder prefix ns m n (Ok count)) (take_all i names le) s
