-- A word asks for the help or for the version, and not for both.
use Rattle.std.proofs.Common.{◌≡◌, ℕ, Bool, true, false, not, ◌&&◌, ◌||◌, if◌then◌else◌, List, [], ◌∷◌, refl, Option}
use Rattle.std.specs.Prelude.{Some, None}
use Rattle.std.specs.List.{list_any}
use Rattle.just_config_words.specs.declared.entry.Entry.{Entry}
use Rattle.just_config_words.specs.declared.entry.Kind.{Kind}
use Rattle.just_config_words.specs.declared.entry.Kind.TheVariants as kind
use Rattle.just_config_words.specs.declared.parsed.Attached.{Attached}
use Rattle.just_config_words.specs.declared.parsed.ParsedOption.{ParsedOption}
use Rattle.just_config_words.specs.Cuts.{behind_sign}
use Rattle.just_config_words.specs.Kinds.{is_help, is_version}
use Rattle.just_config_words.specs.Table.{entry_named, entry_lettered}
use Rattle.just_config_words.specs.Faults.{asks_for_help, asks_for_version}
use Rattle.just_config_words.specs.Parsed.{dash, parsed_options, behind_dash, letters, parsed_option, may_go_on, attached_to, takes_nothing, is_nothing, name_in, assigned_in}

one_kind : (k : Kind) → is_version k ≡ true → is_help k ≡ false
one_kind kind.Help e = let f : ⊥ = cc in absurd f
one_kind _ e = refl

-- one option of a word, and those of the letters behind it, where they may follow
with_letters : (any more help version : Bool) (rest : List ParsedOption) → (version ≡ true → help ≡ false)
    → (list_any asks_for_version rest ≡ true → list_any asks_for_help rest ≡ false)
    → (version || list_any asks_for_version (if any && more && not (help || version) then rest else [])) ≡ true
    → (help || list_any asks_for_help (if any && more && not (help || version) then rest else [])) ≡ false
with_letters true true false false rest h ih e = ih e
with_letters true false false false rest h ih e = let f : ⊥ = cc in absurd f
with_letters false more false false rest h ih e = let f : ⊥ = cc in absurd f
with_letters true true true false rest h ih e = let f : ⊥ = cc in absurd f
with_letters true false true false rest h ih e = let f : ⊥ = cc in absurd f
with_letters false more true false rest h ih e = let f : ⊥ = cc in absurd f
with_letters true true false true rest h ih e = refl
with_letters true false false true rest h ih e = refl
with_letters false more false true rest h ih e = refl
with_letters any more true true rest h ih e = let f : true ≡ false = h refl in let g : ⊥ = cc in absurd g

with_rest : (o : Option Entry) (a : Attached) (ws : List (List ℕ)) (rest : List ParsedOption)
    → (list_any asks_for_version rest ≡ true → list_any asks_for_help rest ≡ false)
    → list_any asks_for_version (parsed_option o a ws ∷ (if may_go_on o a then rest else [])) ≡ true
    → list_any asks_for_help (parsed_option o a ws ∷ (if may_go_on o a then rest else [])) ≡ false
with_rest None a ws rest ih e = refl
with_rest (Some o) a ws rest ih e = with_letters (takes_nothing o.values) (is_nothing a) (is_help o.kind) (is_version o.kind) rest (one_kind o.kind) ih e

of_letters : (t : List ℕ) (ws : List (List ℕ)) → list_any asks_for_version (letters t ws) ≡ true → list_any asks_for_help (letters t ws) ≡ false
of_letters [] ws e = refl
of_letters (c ∷ cs) ws e = with_rest (entry_lettered c) (attached_to (entry_lettered c) cs) ws (letters cs ws) (of_letters cs ws) e

of_kinds : (k : Kind) → (is_version k || false) ≡ true → (is_help k || false) ≡ false
of_kinds kind.Help e = let f : ⊥ = cc in absurd f
of_kinds _ e = refl

of_one : (o : Option Entry) (a : Attached) (ws : List (List ℕ)) → list_any asks_for_version (parsed_option o a ws ∷ []) ≡ true → list_any asks_for_help (parsed_option o a ws ∷ []) ≡ false
of_one None a ws e = refl
of_one (Some o) a ws e = of_kinds o.kind e

of_dash : (o : Option (List ℕ)) (t : List ℕ) (ws : List (List ℕ))
    → list_any asks_for_version (elim o [ None ↦ letters t ws | Some name ↦ parsed_option (entry_named (name_in name)) (assigned_in name) ws ∷ [] ]) ≡ true
    → list_any asks_for_help (elim o [ None ↦ letters t ws | Some name ↦ parsed_option (entry_named (name_in name)) (assigned_in name) ws ∷ [] ]) ≡ false
of_dash None t ws e = of_letters t ws e
of_dash (Some name) t ws e = of_one (entry_named (name_in name)) (assigned_in name) ws e

of_word : (o : Option (List ℕ)) (ws : List (List ℕ))
    → list_any asks_for_version (elim o [ None ↦ [] | Some t ↦ behind_dash t ws ]) ≡ true
    → list_any asks_for_help (elim o [ None ↦ [] | Some t ↦ behind_dash t ws ]) ≡ false
of_word None ws e = refl
of_word (Some t) ws e = of_dash (behind_sign dash t) t ws e

pub one_question : (w : List ℕ) (ws : List (List ℕ)) → list_any asks_for_version (parsed_options w ws) ≡ true → list_any asks_for_help (parsed_options w ws) ≡ false
one_question w ws e = of_word (behind_sign dash w) ws e
