-- One entry is looked at, and removed.
use Rattle.std.proofs.Common.{◌≡◌, ◌↔◌, ℕ, Bool, true, false, not, List, append-nil, refl, sym, ap, ◌∙◌, subst, string_bytes}
use Rattle.std.specs.Prelude.{Option, Some, None, Result, Ok, Err, IsErrAnd, IsTrue}
use Rattle.std.specs.declared.alloc.Global.{Global}
use Rattle.std.specs.declared.string.String.{String}
use Rattle.just_host_record.specs.declared.entry.HostFault.{HostFault}
use Rattle.just_host_record.specs.declared.entry.HostFault.TheVariants as fault
use Rattle.just_host_record.specs.Folders.{Removes}
use Rattle.just_host_record.specs.World.{World, Moment, ReadTells}
use Rattle.just_lang_types.specs.declared.recipe.Modulepath.{Modulepath}
use Rattle.just_cache.specs.Errors.{entry_error}
use Rattle.just_cache.specs.Members.{path_text}
use Rattle.just_cache.specs.declared.cache_error.CacheError.{CacheError}
use Rattle.just_cache.specs.declared.cache_error.CacheError.TheVariants as error
use Rattle.just_cache_clean.specs.declared.wanted.Prefix.{Prefix}
use Rattle.just_cache_clean.specs.EntryTexts.{IsPath, Stays}
use Rattle.just_cache_clean.specs.PathTexts.{StaysText}
use Rattle.just_cache_clean.specs.Told.{IsRead, IsRemoved}
use Rattle.just_cache_clean.specs.Sweeps.{is_no_text, IsJudged}
use Rattle.just_cache_clean.specs.Kept.{path_of, given, IsKnown, JudgesOr, RemovesOr}
use Rattle.just_cache_clean.proofs.Staying.{stays_is}

-- ---- want of memory before the host is asked

nothing_read : (told : Option World) (path : List ℕ) → ReadTells told path (Err fault.NoMemory)
nothing_read None path = tt
nothing_read (Some w) path = tt

nothing_removed : (told : Option World) (path : List ℕ) → Removes {A = Unit {0}} told told path (Err fault.NoMemory)
nothing_removed None path = refl
nothing_removed (Some w) path = refl

pub judged_all : (o : Option Prefix) (digest path : List ℕ) (m : Moment) → o ≡ None → JudgesOr (given o) digest path m m (Ok true)
judged_all o digest path m none = subst (λ (p : Option Prefix). JudgesOr (given p) digest path m m (Ok true)) (sym none) (refl, refl)

pub judged_some : (o : Option Prefix) (wanted : Prefix) (digest path : List ℕ) (before after : Moment) (r : Result Bool CacheError) → o ≡ Some wanted → JudgesOr (Some (path_of wanted)) digest path before after r
    → JudgesOr (given o) digest path before after r
judged_some o wanted digest path before after r some j = subst (λ (p : Option Prefix). JudgesOr (given p) digest path before after r) (sym some) j

pub known_some : (o : Option Prefix) (wanted : Prefix) → o ≡ Some wanted → IsKnown o → IsKnown (Some wanted)
known_some o wanted some known = subst (λ (p : Option Prefix). IsKnown p) some known

pub known_both : (wanted : Prefix) → IsPath wanted.path.now.components → wanted.text.now ≡ path_text wanted.path.now.components → IsKnown (Some wanted)
known_both wanted path text = (path, text)

pub judged_unasked : (prefix : Option Modulepath) (digest path : List ℕ) (m : Moment) (r : Result Bool CacheError) → IsErrAnd r (λ e. e ≡ error.NoMemory) → JudgesOr prefix digest path m m r
judged_unasked prefix digest path m (Ok goes) memory = absurd memory
judged_unasked prefix digest path m (Err e) memory = (fault.NoMemory, record { entries = sym (append-nil m.entries); own = tt; told = nothing_read m.world path; world = refl }, refl, memory)

pub removed_unasked : (path : List ℕ) (m : Moment) (r : Result (Unit {0}) CacheError) → IsErrAnd r (λ e. e ≡ error.NoMemory) → RemovesOr path m m r
removed_unasked path m (Ok done) memory = absurd memory
removed_unasked path m (Err e) memory = (fault.NoMemory, record { entries = sym (append-nil m.entries); own = tt; world = nothing_removed m.world path }, memory)

-- ---- what the host answered

judged : (prefix : List (List ℕ)) (digest : List ℕ) (s : String Global) (b : Bool) → (b ≡ true → Stays prefix digest (string_bytes s)) → (Stays prefix digest (string_bytes s) → b ≡ true) → IsJudged prefix digest (Ok s) (not b)
judged prefix digest s true there back = there refl
judged prefix digest s false there back = λ h. let t : false ≡ true = back h in absurd (let f : ⊥ = cc in f)

pub judged_read : (prefix : Modulepath) (digest path front text : List ℕ) (before after : Moment) (s : String Global) (b : Bool) → IsPath prefix.components → front ≡ path_text prefix.components → text ≡ string_bytes s
    → (IsTrue b ↔ StaysText front digest text) → IsRead path before after (Ok s) → JudgesOr (Some prefix) digest path before after (Ok (not b))
judged_read prefix digest path front text before after s b known front_is text_is h read =
    let same : StaysText (path_text prefix.components) digest (string_bytes s) ↔ Stays prefix.components digest (string_bytes s) = stays_is prefix.components digest (string_bytes s) known in
    let told : IsTrue b ↔ StaysText (path_text prefix.components) digest (string_bytes s) =
    subst (λ (f : List ℕ). IsTrue b ↔ StaysText f digest (string_bytes s)) front_is (subst (λ (t : List ℕ). IsTrue b ↔ StaysText front digest t) text_is h) in
    (Ok s, read, judged prefix.components digest s b (λ t. same.0 (told.0 t)) (λ k. told.1 (same.1 k)))

pub judged_no_text : (prefix : Modulepath) (digest path : List ℕ) (before after : Moment) (f : HostFault) (b : Bool) → b ≡ is_no_text f → b ≡ true → IsRead path before after (Err f) → JudgesOr (Some prefix) digest path before after (Ok true)
judged_no_text prefix digest path before after f b is t read = (Err f, read, (sym is ∙ t, refl))

pub judged_refused : (prefix : Option Modulepath) (digest path named : List ℕ) (before after : Moment) (f : HostFault) (b : Bool) (e : CacheError) → b ≡ is_no_text f → b ≡ false → named ≡ path → e ≡ entry_error named f → IsRead path before after (Err f)
    → JudgesOr prefix digest path before after (Err e)
judged_refused prefix digest path named before after f b e is off at told read = (f, read, sym is ∙ off, told ∙ ap (λ (p : List ℕ). entry_error p f) at)

pub removed_refused : (path named : List ℕ) (before after : Moment) (f : HostFault) (e : CacheError) → named ≡ path → e ≡ entry_error named f → IsRemoved path before after (Err f) → RemovesOr path before after (Err e)
removed_refused path named before after f e at told removed = (f, removed, told ∙ ap (λ (p : List ℕ). entry_error p f) at)
