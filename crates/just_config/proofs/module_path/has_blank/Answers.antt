-- What is left of the text tells the same as the whole.
use Rattle.std.proofs.Common.{rules, ◌≡◌, true, false}
use Rattle.std.specs.Char.{is_whitespace}
use Rattle.std.specs.Str.Iter.{chars_rest}
use Rattle.just_config.proofs.Pieces.{told_next, told_here, told_none}
use Rattle.just_config.proofs.module_path.has_blank.Goals as goal

pub returns-then-is_whitespace : goal.returns-then-is_whitespace
returns-then-is_whitespace c =
    let white : is_whitespace c.in-Some.character ≡ true = search rules in
    told_here c.in-Some.character (chars_rest c.next.new.self) c.characters.invariant c.in-Some.ensures.steps.0 white

pub characters-preserved : goal.characters-preserved
characters-preserved c =
    let other : is_whitespace c.in-Some.character ≡ false = search rules in
    told_next c.in-Some.character c.characters.invariant c.in-Some.ensures.steps.0 other

pub returns : goal.returns
returns c = told_none c.characters.invariant c.in-None.ensures.steps.0.0
