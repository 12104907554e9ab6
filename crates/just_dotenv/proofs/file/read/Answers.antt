-- A turn adds its line's pair; at the end, and at a line that isn't read, it is settled what the text gives.
use Rattle.std.proofs.Common.{◌≡◌, true, false, chars, Some, None, Ok, Err, sym, ◌∙◌, subst, rules}
use Rattle.just_lang_read.specs.Place.{is_end}
use Rattle.just_dotenv.specs.Meaning.{Pairs}
use Rattle.just_dotenv.specs.File.{Gives}
use Rattle.just_dotenv.specs.Readers.{as_line, line, ReadsLine}
use Rattle.just_dotenv.proofs.FileLaws.{UpTo, up_to_more, up_to_end, turn_shorter, one_gift, none_given, refused_for}
use Rattle.just_dotenv.proofs.file.read.Goals as goal

pub lines-preserved : goal.lines-preserved
lines-preserved c =
    let goes_on : is_end c.lines.cursor ≡ false = search rules in
    let read : as_line c.args.environ.now.pairs c.as_slice-in-lines.result.now line c.lines.cursor ≡ Ok (None, c.next_pair.new.cursor) = rw c.in-Ok-None.field-0-is at c.in-Ok-None.ensures in
    record {
      read = up_to_more (chars c.args.text.now) c.args.environ.now.pairs c.lines.pairs.items c.lines.cursor c.next_pair.new.cursor None c.lines.invariant.read goes_on
          (subst (λ (l : Pairs). as_line c.args.environ.now.pairs l line c.lines.cursor ≡ Ok (None, c.next_pair.new.cursor)) c.as_slice-in-lines.ensures.value read);
      at_hand = c.lines.invariant.at_hand;
    }

pub lines-preserved-in-Continue-branch-2 : goal.lines-preserved-in-Continue-branch-2
lines-preserved-in-Continue-branch-2 c =
    let goes_on : is_end c.lines.cursor ≡ false = search rules in
    let read : as_line c.args.environ.now.pairs c.as_slice-in-lines.result.now line c.lines.cursor ≡ Ok (Some c.in-Ok-Some.pair, c.next_pair.new.cursor) = rw c.in-Ok-Some.field-0-is at c.in-Ok-Some.ensures in
    let u = up_to_more (chars c.args.text.now) c.args.environ.now.pairs c.lines.pairs.items c.lines.cursor c.next_pair.new.cursor (Some c.in-Ok-Some.pair) c.lines.invariant.read goes_on
    (subst (λ (l : Pairs). as_line c.args.environ.now.pairs l line c.lines.cursor ≡ Ok (Some c.in-Ok-Some.pair, c.next_pair.new.cursor)) c.as_slice-in-lines.ensures.value read) in
    record {
      read = subst (λ (l : Pairs). UpTo (chars c.args.text.now) c.args.environ.now.pairs l c.next_pair.new.cursor) (sym c.in_ok-add_pair-in-Ok-Some.ensures.pairs) u;
      at_hand = c.in_ok-add_pair-in-Ok-Some.ensures.values;
    }

pub returns-clause-all : goal.returns-clause-all
returns-clause-all c = λ pairs g.
    let e : is_end c.lines.cursor ≡ true = search rules in
    c.from.ensures
    ∙ one_gift (chars c.args.text.now) c.args.environ.now.pairs c.lines.pairs.items pairs
    (up_to_end (chars c.args.text.now) c.args.environ.now.pairs c.lines.pairs.items c.lines.cursor c.lines.invariant.read e) g

pub returns-in-Err-clause-all : goal.returns-in-Err-clause-all
returns-in-Err-clause-all c = λ pairs g.
    let goes_on : is_end c.lines.cursor ≡ false = search rules in
    none_given (chars c.args.text.now) c.args.environ.now.pairs c.lines.pairs.items pairs c.lines.cursor c.next_pair.new.cursor c.in-Err.refusal c.lines.invariant.read goes_on
    (subst (λ (l : Pairs). ReadsLine (as_line c.args.environ.now.pairs l line c.lines.cursor) c.lines.cursor.line (Err c.in-Err.refusal) c.next_pair.new.cursor) c.as_slice-in-lines.ensures.value c.in-Err.ensures) g

pub lines-smaller : goal.lines-smaller
lines-smaller c =
    let goes_on : is_end c.lines.cursor ≡ false = search rules in
    let read : as_line c.args.environ.now.pairs c.as_slice-in-lines.result.now line c.lines.cursor ≡ Ok (None, c.next_pair.new.cursor) = rw c.in-Ok-None.field-0-is at c.in-Ok-None.ensures in
    turn_shorter c.args.environ.now.pairs c.as_slice-in-lines.result.now c.lines.cursor c.next_pair.new.cursor None goes_on read

pub lines-smaller-in-Continue-branch-2 : goal.lines-smaller-in-Continue-branch-2
lines-smaller-in-Continue-branch-2 c =
    let goes_on : is_end c.lines.cursor ≡ false = search rules in
    let read : as_line c.args.environ.now.pairs c.as_slice-in-lines.result.now line c.lines.cursor ≡ Ok (Some c.in-Ok-Some.pair, c.next_pair.new.cursor) = rw c.in-Ok-Some.field-0-is at c.in-Ok-Some.ensures in
    turn_shorter c.args.environ.now.pairs c.as_slice-in-lines.result.now c.lines.cursor c.next_pair.new.cursor (Some c.in-Ok-Some.pair) goes_on read

pub returns-clause-given : goal.returns-clause-given
returns-clause-given c =
    let e : is_end c.lines.cursor ≡ true = search rules in
    subst (λ (l : Pairs). Gives (chars c.args.text.now) c.args.environ.now.pairs l) (sym c.from.ensures)
    (up_to_end (chars c.args.text.now) c.args.environ.now.pairs c.lines.pairs.items c.lines.cursor c.lines.invariant.read e)

pub returns-in-Err-clause-refused : goal.returns-in-Err-clause-refused
returns-in-Err-clause-refused c =
    let goes_on : is_end c.lines.cursor ≡ false = search rules in
    refused_for (chars c.args.text.now) c.args.environ.now.pairs c.lines.pairs.items c.lines.cursor c.next_pair.new.cursor c.in-Err.refusal c.lines.invariant.read goes_on
    (subst (λ (l : Pairs). ReadsLine (as_line c.args.environ.now.pairs l line c.lines.cursor) c.lines.cursor.line (Err c.in-Err.refusal) c.next_pair.new.cursor) c.as_slice-in-lines.ensures.value c.in-Err.ensures)
