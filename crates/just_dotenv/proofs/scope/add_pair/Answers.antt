-- The pair is one more, and its value the last one of its name.
use Rattle.std.proofs.Common.{sym, subst}
use Rattle.just_dotenv.specs.Meaning.{Pairs}
use Rattle.just_dotenv.specs.LastValues.{AreLastValues}
use Rattle.just_dotenv.proofs.LastValues.{values_more}
use Rattle.just_dotenv.proofs.scope.add_pair.Goals as goal

pub returns-clause-values : goal.returns-clause-values
returns-clause-values c =
    subst (λ (l : Pairs). AreLastValues l c.insert.new.self) (sym c.in_ok-push.ensures.items)
    (values_more c.args.pairs.now.items c.args.values.now c.insert.new.self c.args.pair c.in_ok-name.name c.in_ok-value.value c.requires c.in_ok-insert.ensures.updates c.in_ok-name.ensures c.in_ok-value.ensures)
