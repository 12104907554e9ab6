-- What regular expressions' grammar reads, by the answers of the library.
use Rattle.std.proofs.Common.{◌≡◌, ◌≢◌, ℕ, ◌≤◌, ◌<◌, inl, inr, true, false, List, Option, Some, None, IsSomeAnd, IfSome, chars, refl, sym, subst, ap, arith}
use Rattle.std.specs.Prelude.{nat_le, map, option_map, string_bytes, Result, Ok, Err, IfOk, IfErr}
use Rattle.std.specs.Result.{result_err}
use Rattle.std.proofs.lemmas.Bool.Decides.{nat_tests}
use Rattle.regex.specs.Patterns.{default_config, Re}
use Rattle.regex_syntax.specs.Verdict.{Reads, Refuses}
use Rattle.regex.specs.Failures.{IsPattern, IsRightKind, IsOfParser}
use Rattle.regex.specs.Sources.{IsRefusal}
use Rattle.regex.specs.Strings.{regex_source, regex_config, IsReadFromSource}
use Rattle.regex.specs.declared.string.regex.Regex.{Regex}
use Rattle.regex.specs.declared.error.Error.{Error}
use Rattle.regex.specs.declared.error.Error.TheVariants as error
use Rattle.regex_syntax.specs.Brackets.{Nested}
use Rattle.regex_syntax.specs.Grammar.{Names, read}
use Rattle.regex_syntax.specs.declared.Config.{Config}
use Rattle.regex_syntax.specs.declared.Parsed.{Parsed}
use Rattle.regex_syntax.specs.declared.error.Error as parser
use Rattle.regex_syntax.specs.declared.error.ErrorKind.{ErrorKind}
use Rattle.regex_syntax.specs.declared.error.ErrorKind.TheVariants.{OutOfMemory}
use Rattle.just_path_text.specs.declared.memory.NoMemory.{NoMemory}
use Rattle.just_lang_rulebook.specs.declared.refusals.Refusal.{Refusal}
use Rattle.just_lang_rulebook.specs.Patterns.{is_shallow, is_pattern, refusal_by, IsOwnRefusal}

shallow : (m : ℕ) → m ≤ default_config.nest_limit → nat_le m default_config.nest_limit ≡ true
shallow m h = grind (arith, nat_tests)

deep : (m : ℕ) → default_config.nest_limit < m → nat_le m default_config.nest_limit ≡ false
deep m h = grind (arith, nat_tests)

shallow_read : (o : Option (Nested Re × Names)) (P : Nested Re × Names → Type 0) → ((x : Nested Re × Names) → P x → x.0.depth ≤ default_config.nest_limit) → IsSomeAnd o P → is_shallow o ≡ true
shallow_read None P f h = absurd h
shallow_read (Some x) P f h = shallow x.0.depth (f x h)

deep_read : (o : Option (Nested Re × Names)) (P : Nested Re × Names → Type 0) → ((x : Nested Re × Names) → P x → default_config.nest_limit < x.0.depth) → IfSome o P → is_shallow o ≡ false
deep_read None P f h = refl
deep_read (Some x) P f h = deep x.0.depth (f x h)

pub pattern_is : (source : List ℕ) → IsPattern default_config source → is_pattern source ≡ true
unfolding Reads is_pattern
pattern_is source h = shallow_read (read default_config (chars source)) _ (λ x q. q.0) h.2

pub regex_is : (r : Regex) (source : List ℕ) → regex_source r ≡ source → regex_config r ≡ default_config → IsReadFromSource r → is_pattern source ≡ true
regex_is r source s k h = pattern_is source (_, _, rw (s, k) at h)

pub refused_is : (source : List ℕ) (kind : ErrorKind) → kind ≢ OutOfMemory → Refuses default_config source kind → is_pattern source ≡ false
unfolding Refuses is_pattern
refused_is source kind n h =
    elim h [
      | inl e ↦ absurd (n e)
      | inr more ↦ elim more [
        | inl e ↦ ap is_shallow e
        | inr q ↦ deep_read (read default_config (chars source)) _ (λ x d. d) q.1
      ]
    ]

-- what is read, by the answer of the grammar's reader
pub parsed_is : (config : Config) (source : List ℕ) (parsed : Result Parsed parser.Error) → config ≡ default_config → IfOk parsed (λ p. Reads config source p.hir (map (option_map string_bytes) p.names.items)) → result_err parsed ≡ None → is_pattern source ≡ true
parsed_is config source (Ok p) same h e = pattern_is source (p.hir, map (option_map string_bytes) p.names.items, subst (λ (c : Config). Reads c source p.hir (map (option_map string_bytes) p.names.items)) same h)
parsed_is config source (Err x) same h e = absurd (let no : ⊥ = cc in no)

-- and what isn't
pub unparsed_is : (config : Config) (source : List ℕ) (parsed : Result Parsed parser.Error) (given : parser.Error) (told : Error) → config ≡ default_config → IfErr parsed (λ e. Refuses config source e.kind) → result_err parsed ≡ Some given
    → IsOfParser given told → told ≢ error.OutOfMemory → is_pattern source ≡ false
unparsed_is config source (Ok p) given told same h e of n = absurd (let no : ⊥ = cc in no)
unparsed_is config source (Err x) given told same h e of n =
    let is : x ≡ given = cc in
    refused_is source given.kind (λ k. n (of.0 k)) (subst (λ (g : parser.Error). Refuses default_config source g.kind) is (subst (λ (c : Config). Refuses c source x.kind) same h))

-- why a text isn't built, by what the library answers
pub refusal_by_is : (source : List ℕ) (built : Result Regex Error) (answer : Result (Option Refusal) NoMemory) → IfOk built (λ r. regex_source r ≡ source) → IfOk built (λ r. regex_config r ≡ default_config)
    → IfOk built IsReadFromSource → IfErr built (IsRefusal default_config source) → IfErr built (IsRightKind default_config source) → answer ≡ refusal_by built
    → IfOk answer (IsOwnRefusal (is_pattern source))
refusal_by_is source (Ok r) answer s k h g n e = subst (λ (a : Result (Option Refusal) NoMemory). IfOk a (IsOwnRefusal (is_pattern source))) (sym e) (regex_is r source s k h)
refusal_by_is source (Err (error.Syntax x)) answer s k h g n e =
    subst (λ (a : Result (Option Refusal) NoMemory). IfOk a (IsOwnRefusal (is_pattern source))) (sym e) (refused_is source x.kind n (g x refl))
refusal_by_is source (Err error.CompiledTooBig) answer s k h g n e =
    subst (λ (a : Result (Option Refusal) NoMemory). IfOk a (IsOwnRefusal (is_pattern source))) (sym e) (pattern_is source n)
refusal_by_is source (Err error.Internal) answer s k h g n e =
    subst (λ (a : Result (Option Refusal) NoMemory). IfOk a (IsOwnRefusal (is_pattern source))) (sym e) (pattern_is source n)
refusal_by_is source (Err error.OutOfMemory) answer s k h g n e =
    subst (λ (a : Result (Option Refusal) NoMemory). IfOk a (IsOwnRefusal (is_pattern source))) (sym e) tt
