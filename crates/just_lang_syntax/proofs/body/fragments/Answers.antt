-- A refusal within the loop is that of the whole.
use Rattle.std.proofs.Common.{◌≡◌, true, List, ap, sym, ◌∙◌, rules}
use Rattle.just_lang_syntax.specs.declared.ast.Fragment.{Fragment}
use Rattle.just_lang_syntax.specs.ItemReaders.{line_goes_on}
use Rattle.just_lang_syntax.proofs.Loops.{fragments_to_come, fragments_begin, fragments_wrong}
use Rattle.just_lang_syntax.proofs.body.fragments.Goals as goal

pub returns-in-Err : goal.returns-in-Err
returns-in-Err c = λ n.
    let more : line_goes_on c.fragments.cursor ≡ true = search rules in
    fragments_begin c.args.cursor.now ∙ (ap (λ (found : List Fragment). fragments_to_come found c.args.cursor.now) (sym c.new-found.ensures.items)
    ∙ (c.fragments.invariant ∙ fragments_wrong c.fragments.cursor c.fragments.found.items c.in-Err.refused more (c.in-Err.ensures n)))
