-- What stands before the first other character is a run of name characters.
use Rattle.std.proofs.Common.{rules, sym, subst}
use Rattle.std.proofs.lemmas.Fn.{always_returns_same}
use Rattle.just_expand.specs.Pieces.{IsNameRun, BeginsWithoutName}
use Rattle.just_expand.proofs.Names.{is_other, name_run, without_name, without_name_nil}
use Rattle.just_expand.proofs.piece.split_name.Goals as goal

pub returns-in-Some-clause-name : goal.returns-in-Some-clause-name
returns-in-Some-clause-name c =
    let found = c.in-Some.ensures.cases.1 is_other (always_returns_same _ _ _ (λ a r f' k. search rules)) in
    subst IsNameRun (sym c.split_at.ensures.front) (name_run _ found.0)

pub returns-in-Some-clause-longest : goal.returns-in-Some-clause-longest
returns-in-Some-clause-longest c =
    let found = c.in-Some.ensures.cases.1 is_other (always_returns_same _ _ _ (λ a r f' k. search rules)) in
    subst BeginsWithoutName (sym c.split_at.ensures.back) (without_name _ _ _ found.1)

pub returns-in-None-clause-name : goal.returns-in-None-clause-name
returns-in-None-clause-name c =
    name_run _ (c.in-None.ensures.cases is_other (always_returns_same _ _ _ (λ a r f' k. search rules)))

pub returns-in-None-clause-longest : goal.returns-in-None-clause-longest
returns-in-None-clause-longest c = without_name_nil
