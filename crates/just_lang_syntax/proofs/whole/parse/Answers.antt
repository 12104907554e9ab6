-- A text that has a tree without a left-out name has no other answer than that tree.
use Rattle.std.proofs.Common.{◌≡◌, chars, Some, rules}
use Rattle.just_lang_syntax.specs.File.{IsFile, first_left_out}
use Rattle.just_lang_syntax.proofs.FileFaults.{only_memory, only_tree, only_left_out}
use Rattle.just_lang_syntax.proofs.whole.parse.Goals as goal

pub returns-in-Err-clause-only : goal.returns-in-Err-clause-only
returns-in-Err-clause-only c = only_memory (chars c.args.text.now) c.in-Err.refusal c.in-Err.ensures.refused

pub returns-in-Some-clause-only : goal.returns-in-Some-clause-only
returns-in-Some-clause-only c =
    let file : IsFile (chars c.args.text.now) c.in_ok-items.items = search rules in
    let first : first_left_out c.in_ok-items.items ≡ Some c.in-Some.name.now = search rules in
    only_left_out (chars c.args.text.now) c.in_ok-items.items c.in-Some.name.now file first

pub returns-in-None-clause-only : goal.returns-in-None-clause-only
returns-in-None-clause-only c =
    let file : IsFile (chars c.args.text.now) c.in_ok-items.items = search rules in
    only_tree (chars c.args.text.now) c.in_ok-items.items file
