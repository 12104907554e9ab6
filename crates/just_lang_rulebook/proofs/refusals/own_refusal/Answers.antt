-- By what the library ensures.
use Rattle.just_lang_rulebook.proofs.ReadPatterns.{refusal_by_is}
use Rattle.just_lang_rulebook.proofs.refusals.own_refusal.Goals as goal

pub returns : goal.returns
returns c =
    refusal_by_is c.args.text.now c.new.result c.refusal_by.result c.new.ensures.source c.new.ensures.config c.new.ensures.read c.new.ensures.by_grammar c.new.ensures.kind
    c.refusal_by.ensures
