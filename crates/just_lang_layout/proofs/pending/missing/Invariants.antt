-- Those found are those among the declarations so far.
use Rattle.std.proofs.Common.{◌≡◌, take, not, ◌&&◌}
use Rattle.std.specs.List.{filter, list_any}
use Rattle.just_lang_layout.specs.Modules.{is_there, has_name}
use Rattle.just_lang_layout.proofs.pending.missing.Given as goal

abbrev pub invariant-loop-declaration : goal.invariant-loop-declaration
invariant-loop-declaration l = l.found.items ≡ filter (λ d. not (is_there d) && not (list_any (has_name d.name) l.present)) (take l.declaration-index l.declarations)
