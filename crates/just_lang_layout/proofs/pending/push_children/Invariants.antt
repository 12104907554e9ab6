-- The modules left and those of the stack are all; each turn takes one.
use Rattle.std.proofs.Common.{◌≡◌, ◌++◌, map, vec_len}
use Rattle.just_lang_layout.specs.Modules.{child}
use Rattle.just_lang_layout.specs.Pending.{all_of, modules_left}
use Rattle.just_lang_layout.proofs.pending.push_children.Given as goal

abbrev pub invariant-declarations : goal.invariant-declarations
invariant-declarations l =
    all_of l.files l.table (map (child l.pending) l.left.items) ++ modules_left l.files l.table l.stack.items
    ≡ all_of l.files l.table (map (child l.pending) l.fn.declarations.items) ++ modules_left l.files l.table l.fn.stack.items

abbrev pub decreases-declarations : goal.decreases-declarations
decreases-declarations l = vec_len l.left
