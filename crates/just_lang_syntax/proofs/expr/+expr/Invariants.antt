-- Each level takes one of those that are left; within a level each call goes on to a further part.
use Rattle.std.proofs.Common.{◌+◌, ◌*◌}
use Rattle.just_lang_syntax.proofs.expr.+expr.Given as goal

abbrev pub decreases-inner : goal.decreases-inner
decreases-inner l = 8 * l.left

abbrev pub decreases-operand : goal.decreases-operand
decreases-operand l = 8 * l.left + 1

abbrev pub decreases-join : goal.decreases-join
decreases-join l = 8 * l.left + 2

abbrev pub decreases-concat : goal.decreases-concat
decreases-concat l = 8 * l.left + 2

abbrev pub decreases-alternative : goal.decreases-alternative
decreases-alternative l = 8 * l.left + 4

abbrev pub decreases-branches : goal.decreases-branches
decreases-branches l = 8 * l.left + 5

abbrev pub decreases-block : goal.decreases-block
decreases-block l = 8 * l.left + 2

abbrev pub decreases-condition : goal.decreases-condition
decreases-condition l = 8 * l.left + 1

abbrev pub decreases-default : goal.decreases-default
decreases-default l = 8 * l.left + 2

abbrev pub decreases-root : goal.decreases-root
decreases-root l = 8 * l.left + 2

abbrev pub decreases-group : goal.decreases-group
decreases-group l = 8 * l.left + 2

abbrev pub decreases-tail : goal.decreases-tail
decreases-tail l = 8 * l.left + 3

abbrev pub decreases-otherwise : goal.decreases-otherwise
decreases-otherwise l = 8 * l.left + 3

abbrev pub decreases-env : goal.decreases-env
decreases-env l = 8 * l.left + 3

abbrev pub decreases-conditional : goal.decreases-conditional
decreases-conditional l = 8 * l.left + 6

abbrev pub decreases-value : goal.decreases-value
decreases-value l = 8 * l.left + 4

abbrev pub decreases-expr : goal.decreases-expr
decreases-expr l = 8 * l.left + 7
