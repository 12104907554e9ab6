-- What one word gives, case by case.
use Rattle.std.proofs.Common.{◌≡◌, ℕ, Bool, true, false, List, [], length, Option, Some, None, Ok, Err, refl, sym, ap, ◌∙◌}
use Rattle.std.specs.Prelude.{if◌then◌else◌, ◌==◌, ◌&&◌, ◌||◌, not, bytes_eq}
use Rattle.std.specs.List.{list_any}
use Rattle.just_lang_types.specs.declared.recipe.Parameter.{Parameter}
use Rattle.just_lang_types.specs.declared.recipe.Recipe.{Recipe}
use Rattle.just_lang_types.specs.declared.switch.Switch.{Switch}
use Rattle.just_lang_types.specs.declared.switch.Switch.TheVariants as switch
use Rattle.just_lang_types.specs.declared.project.LangError.{LangError}
use Rattle.just_lang_types.specs.declared.project.LangError.TheVariants as error
use Rattle.just_eval_closure.specs.Answers.{Answer, and_then}
use Rattle.just_eval_words.specs.Parameters.{has_long, has_short, numbered_from, fixed_value}
use Rattle.just_eval_words.specs.Sorts.{Word, Sort, sort}
use Rattle.just_eval_words.specs.Switches.{Words, Awaited, Step, is_full, with_option, noted, then_any, option_taken, long_found, long_taken, letter_valued, letter_found, letter_taken, letters_taken, positional_taken, taken_of, sort_taken, word_taken}

module _ (r : Recipe) where
  -- ---- a value

  module _ (s : Switch) (n : ℕ) (p : Parameter) (t : Words) (v : Word) where
    pub note_again : is_full n p t ≡ true → noted r s n p t v ≡ Err (error.DuplicateOption r.name s)
    note_again h = ap (λ b. if b then Err (error.DuplicateOption r.name s) else Ok (with_option t n v)) h

    pub note_first : is_full n p t ≡ false → noted r s n p t v ≡ Ok (with_option t n v)
    note_first h = ap (λ b. if b then Err (error.DuplicateOption r.name s) else Ok (with_option t n v)) h

  -- ---- a long switch

  module _ (s : Switch) (t : Words) (n : ℕ) (p : Parameter) where
    pub flag_given : (f g : Word) → fixed_value p ≡ Some f → option_taken r s t n p (fixed_value p) (Some g) ≡ Err (error.FlagWithValue r.name s)
    flag_given f g h = ap (λ o. option_taken r s t n p o (Some g)) h

    pub flag_noted : (f : Word) (u : Words) → fixed_value p ≡ Some f → noted r s n p t f ≡ Ok u → option_taken r s t n p (fixed_value p) None ≡ Ok (u, Awaited.a_word false)
    flag_noted f u h k = ap (λ o. option_taken r s t n p o None) h ∙ ap (then_any r) k

    pub flag_refused : (f : Word) (e : LangError) → fixed_value p ≡ Some f → noted r s n p t f ≡ Err e → option_taken r s t n p (fixed_value p) None ≡ Err e
    flag_refused f e h k = ap (λ o. option_taken r s t n p o None) h ∙ ap (then_any r) k

    pub given_noted : (g : Word) (u : Words) → fixed_value p ≡ None → noted r s n p t g ≡ Ok u → option_taken r s t n p (fixed_value p) (Some g) ≡ Ok (u, Awaited.a_word false)
    given_noted g u h k = ap (λ o. option_taken r s t n p o (Some g)) h ∙ ap (then_any r) k

    pub given_refused : (g : Word) (e : LangError) → fixed_value p ≡ None → noted r s n p t g ≡ Err e → option_taken r s t n p (fixed_value p) (Some g) ≡ Err e
    given_refused g e h k = ap (λ o. option_taken r s t n p o (Some g)) h ∙ ap (then_any r) k

    pub option_waits : fixed_value p ≡ None → option_taken r s t n p (fixed_value p) None ≡ Ok (t, Awaited.a_value s n p)
    option_waits h = ap (λ o. option_taken r s t n p o None) h

    -- ---- a letter

    pub letter_noted : (last : Bool) (f : Word) (u : Words) → fixed_value p ≡ Some f → noted r s n p t f ≡ Ok u → letter_valued r s last t n p (fixed_value p) ≡ Ok (u, Awaited.a_word false)
    letter_noted last f u h k = ap (λ o. letter_valued r s last t n p o) h ∙ ap (then_any r) k

    pub letter_not_noted : (last : Bool) (f : Word) (e : LangError) → fixed_value p ≡ Some f → noted r s n p t f ≡ Err e → letter_valued r s last t n p (fixed_value p) ≡ Err e
    letter_not_noted last f e h k = ap (λ o. letter_valued r s last t n p o) h ∙ ap (then_any r) k

    pub letter_waits : (last : Bool) → last ≡ true → fixed_value p ≡ None → letter_valued r s last t n p (fixed_value p) ≡ Ok (t, Awaited.a_value s n p)
    letter_waits last k h = ap (λ b. letter_valued r s b t n p (fixed_value p)) k ∙ ap (λ o. letter_valued r s true t n p o) h

    pub letter_not_final : (last : Bool) → last ≡ false → fixed_value p ≡ None → letter_valued r s last t n p (fixed_value p) ≡ Err (error.NonFinalOptionWithValue r.name s)
    letter_not_final last k h = ap (λ b. letter_valued r s b t n p (fixed_value p)) k ∙ ap (λ o. letter_valued r s false t n p o) h

  -- ---- names

  module _ (w : Word) (name : List ℕ) (g : Option Word) (t : Words) where
    abbrev by_name : Bool → Answer Step
    by_name b = if b then Err (error.InvalidOption w) else long_found r (switch.Long name) t g (numbered_from (has_long name) 0 r.parameters)

    pub long_nameless : bytes_eq name [] ≡ true → long_taken r w name g t ≡ Err (error.InvalidOption w)
    long_nameless h = ap by_name h

    pub long_unknown : bytes_eq name [] ≡ false → numbered_from (has_long name) 0 r.parameters ≡ None → long_taken r w name g t ≡ Err (error.UnknownOption r.name (switch.Long name))
    long_unknown h k = ap by_name h ∙ ap (long_found r (switch.Long name) t g) k

    pub long_is : (n : ℕ) (p : Parameter) (x : Answer Step) → bytes_eq name [] ≡ false → numbered_from (has_long name) 0 r.parameters ≡ Some (n, p) → option_taken r (switch.Long name) t n p (fixed_value p) g ≡ x → long_taken r w name g t ≡ x
    long_is n p x h k l = ap by_name h ∙ ap (long_found r (switch.Long name) t g) k ∙ l

  module _ (c : ℕ) (last : Bool) (t : Words) where
    pub letter_unknown : numbered_from (has_short c) 0 r.parameters ≡ None → letter_taken r c last t ≡ Err (error.UnknownOption r.name (switch.Short c))
    letter_unknown h = ap (letter_found r (switch.Short c) last t) h

    pub letter_is : (n : ℕ) (p : Parameter) (x : Answer Step) → numbered_from (has_short c) 0 r.parameters ≡ Some (n, p) → letter_valued r (switch.Short c) last t n p (fixed_value p) ≡ x → letter_taken r c last t ≡ x
    letter_is n p x h k = ap (letter_found r (switch.Short c) last t) h ∙ k

  -- ---- words

  module _ (t : Words) (w : Word) where
    pub value_noted : (s : Switch) (n : ℕ) (p : Parameter) (u : Words) → noted r s n p t w ≡ Ok u → word_taken r (Awaited.a_value s n p) t w ≡ Ok (Some (u, Awaited.a_word false))
    value_noted s n p u h = ap (λ a. taken_of r (then_any r a)) h

    pub value_refused : (s : Switch) (n : ℕ) (p : Parameter) (e : LangError) → noted r s n p t w ≡ Err e → word_taken r (Awaited.a_value s n p) t w ≡ Err e
    value_refused s n p e h = ap (λ a. taken_of r (then_any r a)) h

    pub ended_is : (o : Option Step) → positional_taken r true t w ≡ o → word_taken r (Awaited.a_word true) t w ≡ Ok o
    ended_is o k = ap (λ x. Ok x) k

    pub sorted : (k : Sort) (x : Answer (Option Step)) → k ≡ sort w → sort_taken r t w k ≡ x → word_taken r (Awaited.a_word false) t w ≡ x
    sorted k x h is = ap (sort_taken r t w) (sym h) ∙ is

    -- ---- sorts of words

    pub positional_is : (o : Option Step) → positional_taken r false t w ≡ o → sort_taken r t w Sort.positional ≡ Ok o
    positional_is o k = ap (λ x. Ok x) k

    pub long_step : (name : List ℕ) (g : Option Word) (s : Step) → long_taken r w name g t ≡ Ok s → sort_taken r t w (Sort.long name g) ≡ Ok (Some s)
    long_step name g s k = ap (taken_of r) k

    pub long_refused : (name : List ℕ) (g : Option Word) (e : LangError) → long_taken r w name g t ≡ Err e → sort_taken r t w (Sort.long name g) ≡ Err e
    long_refused name g e k = ap (taken_of r) k

    pub letters_step : (cs : List ℕ) (s : Step) → letters_taken r cs (Ok (t, Awaited.a_word false)) ≡ Ok s → sort_taken r t w (Sort.letters cs) ≡ Ok (Some s)
    letters_step cs s k = ap (taken_of r) k

    pub letters_refused : (cs : List ℕ) (e : LangError) → letters_taken r cs (Ok (t, Awaited.a_word false)) ≡ Err e → sort_taken r t w (Sort.letters cs) ≡ Err e
    letters_refused cs e k = ap (taken_of r) k
