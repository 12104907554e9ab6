-- The words ask for keys, of which there is one alone where one alone is wanted; or for none.
use Rattle.just_cli_plan.proofs.Chain.{asked_within, asked_none}
use Rattle.just_cli_plan.proofs.keys.keys_of.Goals as goal

pub returns-in-Err-clause-refused : goal.returns-in-Err-clause-refused
returns-in-Err-clause-refused c = asked_none c.args.wanted.now c.args.justfile.now c.args.scopes.now c.as_slice.result.now c.as_slice.ensures c.in-Err.error c.in-Err.ensures.refused

pub returns-in-Ok-within_one-clause-keys : goal.returns-in-Ok-within_one-clause-keys
returns-in-Ok-within_one-clause-keys c =
    asked_within c.args.wanted.now c.args.justfile.now c.args.scopes.now c.as_slice.result.now c.as_slice.ensures c.in-Ok.keys _ c.in-Ok.ensures.keys c.in-Ok-within_one.ensures

pub returns-in-Err-within_one-clause-refused : goal.returns-in-Err-within_one-clause-refused
returns-in-Err-within_one-clause-refused c =
    λ _. asked_within c.args.wanted.now c.args.justfile.now c.args.scopes.now c.as_slice.result.now c.as_slice.ensures c.in-Ok.keys _ c.in-Ok.ensures.keys c.in-Err-within_one.ensures
