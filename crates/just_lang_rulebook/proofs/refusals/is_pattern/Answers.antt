-- What is read is a pattern, and what is refused is none.
use Rattle.std.proofs.Common.{◌≡◌, ◌⊎◌, inl, inr, sym}
use Rattle.std.specs.Prelude.{◌≢◌}
use Rattle.regex.specs.declared.error.Error.{Error}
use Rattle.regex.specs.declared.error.Error.TheVariants as error
use Rattle.regex_syntax.specs.declared.error.Error as parser
use Rattle.just_lang_rulebook.proofs.ReadPatterns.{parsed_is, unparsed_is}
use Rattle.just_lang_rulebook.proofs.refusals.is_pattern.Goals as goal

is_other : (told : Error) → (((x : parser.Error) × (told ≡ error.Syntax x)) ⊎ ((told ≡ error.CompiledTooBig) ⊎ (told ≡ error.Internal))) → told ≢ error.OutOfMemory
is_other told (inl (x, h)) e = absurd (let no : ⊥ = cc in no)
is_other told (inr (inl h)) e = absurd (let no : ⊥ = cc in no)
is_other told (inr (inr h)) e = absurd (let no : ⊥ = cc in no)

pub returns-in-None : goal.returns-in-None
returns-in-None c = sym (parsed_is _ c.args.text.now c.parse.result c.default-config.ensures c.parse.ensures.ok (sym c.in-None.ensures.value))

pub returns-in-Syntax : goal.returns-in-Syntax
returns-in-Syntax c =
    let other : c.from.result ≢ error.OutOfMemory = is_other c.from.result c.in-Syntax.is in
    sym (unparsed_is _ c.args.text.now c.parse.result c.in-Some.error c.from.result c.default-config.ensures c.parse.ensures.err (sym c.in-Some.ensures.value) c.from.ensures other)
