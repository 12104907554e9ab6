-- The paths of a module's files, one more.
use Rattle.std.proofs.Common.{◌≡◌, ℕ, ◌+◌, ◌<◌, List, [], ◌∷◌, ◌++◌, Bool, true, false, length, take, drop, get_or, map, refl, sym, ◌∙◌, ap, append-nil}
use Rattle.std.specs.Prelude.{if◌then◌else◌}
use Rattle.std.specs.List.{filter}
use Rattle.just_lang_layout.specs.Targets.{is_module_file}
use Rattle.just_lang_layout.specs.Laid.{ends_with_name}
use Rattle.just_lang_layout.proofs.Lists.{front_more}

abbrev Paths : Type 0
Paths = List (List ℕ)

-- a path put in front, where it is one of a module's
put : (name base x : List ℕ) (b : Bool) (us vs ws : Paths) → map (λ p. name ++ drop (length base) p) us ≡ map (λ p. name ++ drop (length base) p) vs ++ ws
    → map (λ p. name ++ drop (length base) p) (if b then x ∷ us else us) ≡ map (λ p. name ++ drop (length base) p) (if b then x ∷ vs else vs) ++ ws
put name base x true us vs ws h = ap (λ (ps : Paths). (name ++ drop (length base) x) ∷ ps) h
put name base x false us vs ws h = h

alone : (name base x : List ℕ) (b : Bool) → is_module_file base x ≡ b → ends_with_name (x ∷ []) base name ≡ (if b then (name ++ drop (length base) x) ∷ [] else [])
alone name base x true h = ap (λ (t : Bool). map (λ p. name ++ drop (length base) p) (if t then x ∷ [] else [])) h
alone name base x false h = ap (λ (t : Bool). map (λ p. name ++ drop (length base) p) (if t then x ∷ [] else [])) h

snoc : (name base : List ℕ) (ps : Paths) (x : List ℕ) → ends_with_name (ps ++ x ∷ []) base name ≡ ends_with_name ps base name ++ ends_with_name (x ∷ []) base name
snoc name base [] x = refl
snoc name base (p ∷ ps) x =
    put name base p (is_module_file base p) (filter (is_module_file base) (ps ++ x ∷ [])) (filter (is_module_file base) ps) (ends_with_name (x ∷ []) base name) (snoc name base ps x)

-- those of the paths so far, and the next
pub one_more : (name base : List ℕ) (ps : Paths) (i : ℕ) (x : List ℕ) → i < length ps → x ≡ get_or ps i x → is_module_file base x ≡ true
    → ends_with_name (take (i + 1) ps) base name ≡ ends_with_name (take i ps) base name ++ (name ++ drop (length base) x) ∷ []
one_more name base ps i x h e k =
    ap (λ (qs : Paths). ends_with_name qs base name) (sym (front_more ps i x h e))
    ∙ snoc name base (take i ps) x
    ∙ ap (λ (qs : Paths). ends_with_name (take i ps) base name ++ qs) (alone name base x true k)

-- those of the paths so far, where the next isn't one
pub no_more : (name base : List ℕ) (ps : Paths) (i : ℕ) (x : List ℕ) → i < length ps → x ≡ get_or ps i x → is_module_file base x ≡ false
    → ends_with_name (take (i + 1) ps) base name ≡ ends_with_name (take i ps) base name
no_more name base ps i x h e k =
    ap (λ (qs : Paths). ends_with_name qs base name) (sym (front_more ps i x h e))
    ∙ snoc name base (take i ps) x
    ∙ ap (λ (qs : Paths). ends_with_name (take i ps) base name ++ qs) (alone name base x false k)
    ∙ append-nil (ends_with_name (take i ps) base name)
