-- The text that was taken up to the quote is what the value means.
use Rattle.std.proofs.Common.{◌≡◌, Ok, ◌∙◌, sym, ap}
use Rattle.just_lang_read.specs.Place.{Place, past}
use Rattle.just_lang_read.specs.Reader.{expect}
use Rattle.just_dotenv.specs.Characters.{in_single_quotes, single_quote}
use Rattle.just_dotenv.proofs.Values.{single_reads}
use Rattle.just_dotenv.proofs.value.single_quoted_value.Goals as goal

pub returns : goal.returns
returns c =
    let e : expect single_quote (past in_single_quotes c.args.cursor.now) ≡ Ok (tt, c.expect.new.self) = ap (λ (p : Place). expect single_quote p) (sym c.in_ok-text.ensures.new) ∙ c.in_ok-expect.ensures in
    single_reads c.args.scope.now.environ.now.pairs c.args.scope.now.earlier.now c.args.cursor.now c.expect.new.self c.from.result e (c.from.ensures ∙ c.in_ok-text.ensures.text)
