-- What is no text.
use Rattle.std.proofs.Common.{rules, ◌≡◌, true, false, refl}
use Rattle.std.specs.Str.{is_utf8}
use Rattle.std.proofs.lemmas.Str.{IsUtf8-from_is_utf8}
use Rattle.just_path.specs.Path.{text_of}
use Rattle.just_env.specs.declared.env_error.EnvError.TheVariants as error
use Rattle.just_env.specs.declared.env_error.OutputError.TheVariants as output
use Rattle.just_env.proofs.Commanding.{printed_no_text}
use Rattle.just_env.proofs.command.pairs_of_output.Goals as goal

pub returns-in_ok-command-in-Err-clause-pairs : goal.returns-in_ok-command-in-Err-clause-pairs
returns-in_ok-command-in-Err-clause-pairs c =
    let none : is_utf8 c.args.output.now ≡ false = elim (is_utf8 c.args.output.now) as (λ b. is_utf8 c.args.output.now ≡ b → b ≡ false) [
      | true ↦ λ e. absurd (c.in-Err.ensures.cases.0 (IsUtf8-from_is_utf8 _ e))
      | false ↦ λ e. refl
    ] refl in
    printed_no_text c.args.environ.now.pairs (text_of c.args.folder) c.args.command.now c.args.ending c.args.output.now c.in_ok-command-in-Err.command
    (error.DotenvCommand c.in_ok-command-in-Err.command output.Utf8) (search rules) none (search rules) refl
