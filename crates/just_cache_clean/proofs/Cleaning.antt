-- A cache is cleaned by a sweep over the names of its folder.
use Rattle.std.proofs.Common.{◌≡◌, ℕ, suc, ◌<◌, ◌≤◌, List, [], ◌++◌, length, option_map, refl, sym, ap, ◌∙◌, subst, arith}
use denote.Ref.{Bor}
use Rattle.std.specs.Prelude.{Option, Some, None, option_copied, Result, Ok, Err, IfOk, IfSome, IsErrAnd}
use Rattle.just_path.specs.Host.{note_of, note_of_fault}
use Rattle.just_path.specs.View.{View, AreNamesInOrder, TellsNames}
use Rattle.just_path.specs.declared.host.PathCall.TheVariants as path_call
use Rattle.just_path.specs.declared.host.PathFault.{PathFault}
use Rattle.just_host_record.specs.Record.{noted}
use Rattle.just_host_record.specs.World.{Moment, view_of}
use Rattle.just_lang_types.specs.declared.recipe.Modulepath.{Modulepath}
use Rattle.just_cache.specs.declared.cache_error.CacheError.{CacheError}
use Rattle.just_cache.specs.declared.cache_error.CacheError.TheVariants as error
use Rattle.just_cache_clean.specs.declared.cleaned.Cleaned.{Cleaned}
use Rattle.just_cache_clean.specs.declared.cleaned.Cleaned.TheVariants as cleaned
use Rattle.just_cache_clean.specs.EntryTexts.{IsPath}
use Rattle.just_cache_clean.specs.Told.{IsListed}
use Rattle.just_cache_clean.specs.Sweeps.{one_more, Sweeps}
use Rattle.just_cache_clean.specs.Cleans.{unlisted, CleansListed, Cleans}
use Rattle.just_cache_clean.specs.Kept.{RemovesOr}

module _ (folder : List ℕ) (prefix : Option Modulepath) where
  -- no more are removed than there are
  few : (names : List (List ℕ)) (m n : Moment) (r : Result ℕ CacheError) (count : ℕ) → Sweeps folder prefix names m n r → r ≡ Ok count → count ≤ length names
  few names m n r count (Sweeps.nothing k) e = let none : 0 ≡ count = cc in omega (arith, none)
  few names m n r count (Sweeps.other name more k o t other rest) e = let le : count ≤ length more = few more m n t count rest e in omega (arith, le)
  few names m n r count (Sweeps.stays name digest more k i o t is j rest) e = let le : count ≤ length more = few more i n t count rest e in omega (arith, le)
  few names m n r count (Sweeps.goes name digest more k i p o t is j removed rest) e = pick t refl (λ b same. few more p n t b rest same) e
    where
      pick : (u : Result ℕ CacheError) → t ≡ u → ((b : ℕ) → t ≡ Ok b → b ≤ length more) → one_more u ≡ Ok count → count ≤ suc (length more)
      pick (Ok b) same fewer f = let so_many : suc b ≡ count = cc in let le : b ≤ length more = fewer b same in omega (arith, le, so_many)
      pick (Err x) same fewer f = absurd (let none : ⊥ = cc in none)
  few names m n r count (Sweeps.unread name digest more k o f is read off) e = absurd (let none : ⊥ = cc in none)
  few names m n r count (Sweeps.left name digest more k i o f is j removed) e = absurd (let none : ⊥ = cc in none)
  few names m n r count (Sweeps.want more k) e = absurd (let none : ⊥ = cc in none)

  all_swept : (names : List (List ℕ)) (m n : Moment) (count : ℕ) → Sweeps folder prefix names m n (Ok count) → length names ≤ count → count ≡ length names
  all_swept names m n count s ge = let le : count ≤ length names = few names m n (Ok count) count s refl in omega (arith, ge, le)

  pub stopped_so : (names : List (List ℕ)) (m n : Moment) (e : CacheError) → Sweeps folder prefix names m n (Err e) → CleansListed folder prefix names m n (Err e)
  stopped_so names m n e s = CleansListed.stopped m n e s

  pub remains_so : (names : List (List ℕ)) (m n : Moment) (count : ℕ) → Sweeps folder prefix names m n (Ok count) → count < length names → CleansListed folder prefix names m n (Ok (cleaned.Removed count))
  remains_so names m n count s less = CleansListed.remains m n count s less

  pub closed_well : (names : List (List ℕ)) (m l n : Moment) (count : ℕ) → Sweeps folder prefix names m l (Ok count) → length names ≤ count → RemovesOr folder l n (Ok tt) → CleansListed folder prefix names m n (Ok (cleaned.Removed count))
  closed_well names m l n count s ge removed =
      let is : count ≡ length names = all_swept names m l count s ge in
      subst (λ (c : ℕ). CleansListed folder prefix names m n (Ok (cleaned.Removed c))) (sym is)
      (CleansListed.closes m l n (Ok tt) (subst (λ (c : ℕ). Sweeps folder prefix names m l (Ok c)) is s) removed)

  pub closed_badly : (names : List (List ℕ)) (m l n : Moment) (count : ℕ) (e : CacheError) → Sweeps folder prefix names m l (Ok count) → length names ≤ count → RemovesOr folder l n (Err e) → CleansListed folder prefix names m n (Err e)
  closed_badly names m l n count e s ge (f, removed, told) =
      let is : count ≡ length names = all_swept names m l count s ge in
      subst (λ (x : CacheError). CleansListed folder prefix names m n (Err x)) (sym told)
      (CleansListed.closes m l n (Err f) (subst (λ (c : ℕ). Sweeps folder prefix names m l (Ok c)) is s) removed)

  pub cleans_want : (m : Moment) (r : Result Cleaned CacheError) → IsErrAnd r (λ e. e ≡ error.NoMemory) → Cleans folder prefix m m r
  cleans_want m (Ok c) memory = absurd memory
  cleans_want m (Err e) memory = subst (λ (x : CacheError). Cleans folder prefix m m (Err x)) (sym memory) (Cleans.want m)

  -- ---- by what the host told

  is_listed : (m n : Moment) (view : Option View) (answer : Result (List (List ℕ)) PathFault) → view ≡ option_map view_of m.world → n.entries ≡ m.entries ++ noted (note_of path_call.List folder answer) → n.world ≡ m.world
      → IfOk answer AreNamesInOrder → TellsNames view folder answer → IsListed folder m n answer
  is_listed m n view answer is grew stays order told = record {
    entries = grew;
    order = order;
    told = subst (λ (v : Option View). TellsNames v folder answer) is told;
    world = stays;
  }

  pub cleans_listed : (m l n : Moment) (view : Option View) (names same : List (List ℕ)) (r : Result Cleaned CacheError) → view ≡ option_map view_of m.world → l.entries ≡ m.entries ++ [] → l.world ≡ m.world → AreNamesInOrder names
      → TellsNames view folder (Ok names) → same ≡ names → CleansListed folder prefix same l n r → Cleans folder prefix m n r
  cleans_listed m l n view names same r is grew stays order told are cleans =
      Cleans.listed m l n names r (is_listed m l view (Ok names) is grew stays order told) (subst (λ (ns : List (List ℕ)). CleansListed folder prefix ns l n r) are cleans)

  pub cleans_not : (m n : Moment) (view : Option View) (f : PathFault) (named : List ℕ) (r : Result Cleaned CacheError) → view ≡ option_map view_of m.world → n.entries ≡ m.entries ++ noted (note_of_fault path_call.List folder f)
      → n.world ≡ m.world → TellsNames view folder (Err f) → named ≡ folder → r ≡ unlisted named f → Cleans folder prefix m n r
  cleans_not m n view f named r is grew stays told at answer_is =
      subst (λ (x : Result Cleaned CacheError). Cleans folder prefix m n x) (sym (answer_is ∙ ap (λ (p : List ℕ). unlisted p f) at)) (Cleans.refused m n f (is_listed m n view (Err f) is grew stays tt told))

-- ---- with a path or without one

module _ (folder : List ℕ) (o : Option (Bor Modulepath)) where
  pub cleans_none : (m n : Moment) (r : Result Cleaned CacheError) → o ≡ None → Cleans folder None m n r → Cleans folder (option_copied o) m n r
  cleans_none m n r none c = subst (λ (p : Option (Bor Modulepath)). Cleans folder (option_copied p) m n r) (sym none) c

  pub cleans_some : (path : Bor Modulepath) (m n : Moment) (r : Result Cleaned CacheError) → o ≡ Some path → Cleans folder (Some path.now) m n r → Cleans folder (option_copied o) m n r
  cleans_some path m n r some c = subst (λ (p : Option (Bor Modulepath)). Cleans folder (option_copied p) m n r) (sym some) c

pub path_some : (o : Option (Bor Modulepath)) (path : Bor Modulepath) → o ≡ Some path → IfSome o (λ p. IsPath p.now.components) → IsPath path.now.components
path_some o path some known = subst (λ (p : Option (Bor Modulepath)). IfSome p (λ q. IsPath q.now.components)) some known
