-- By the length and the first two bytes.
use Rattle.std.proofs.Common.{sym, arith}
use Rattle.just_path.proofs.Leads.{when_nil, when_root, when_other, when_dot, when_dot_slash, when_dot_other}
use Rattle.just_path.proofs.scan.leading.Goals as goal

pub returns-then-is_empty : goal.returns-then-is_empty
returns-then-is_empty c = sym (when_nil c.args.text.now (grind arith))

pub returns-then-bytes-eq47 : goal.returns-then-bytes-eq47
returns-then-bytes-eq47 c = sym (when_root c.args.text.now (grind arith) (grind arith))

pub returns-then-bytes-ne46 : goal.returns-then-bytes-ne46
returns-then-bytes-ne46 c = sym (when_other c.args.text.now (grind arith) (λ e. grind arith) (λ e. grind arith))

pub returns-then-bytes-eq1 : goal.returns-then-bytes-eq1
returns-then-bytes-eq1 c = sym (when_dot c.args.text.now (grind arith) (grind arith))

pub returns-then-bytes-eq47-2 : goal.returns-then-bytes-eq47-2
returns-then-bytes-eq47-2 c = sym (when_dot_slash c.args.text.now (grind arith) (grind arith) (grind arith))

pub returns : goal.returns
returns c = sym (when_dot_other c.args.text.now (grind arith) (grind arith) (λ e. grind arith))
