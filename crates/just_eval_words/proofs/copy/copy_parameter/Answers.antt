-- Each field is copied; where nothing was left out in the end, nothing was before.
use Rattle.std.proofs.Common.{rules, ◌≡◌, Option, Result, Ok, Err}
use Rattle.std.specs.Prelude.{IfOk}
use Rattle.just_path_text.specs.declared.memory.NoMemory.{NoMemory}
use Rattle.just_eval_words.proofs.copy.copy_parameter.Goals as goal

-- what is kept is what was copied
same : {A : Type 0} (from : Option A) (copied : Result (Option A) NoMemory) (copy : Option A) → copied ≡ Ok copy → IfOk copied (λ c. c ≡ from) → copy ≡ from
same from (Ok c) copy e h = cc
same from (Err refused) copy e h = absurd (cc)

pub returns-then-is_whole : goal.returns-then-is_whole
returns-then-is_whole c =
    let k5 = c.kept-5.ensures c.if-is_whole.true in
    let k4 = c.kept-4.ensures k5.0 in
    let k3 = c.kept-3.ensures k4.0 in
    let k2 = c.kept-2.ensures k3.0 in
    let k1 = c.kept.ensures k2.0 in
    let name = c.in_ok-name.ensures in
    let pattern = same c.args.parameter.now.pattern c.copy_pattern.result c.kept.result k1.1 c.copy_pattern.ensures in
    let long = same c.args.parameter.now.long c.try_clone-2.result c.kept-2.result k2.1 c.try_clone-2.ensures in
    let value = same c.args.parameter.now.value c.try_clone-3.result c.kept-3.result k3.1 c.try_clone-3.ensures in
    let help = same c.args.parameter.now.help c.try_clone-4.result c.kept-4.result k4.1 c.try_clone-4.ensures in
    let default = same c.args.parameter.now.default c.copy_default.result c.kept-5.result k5.1 c.copy_default.ensures in
    search (rules, name, pattern, long, value, help, default)
