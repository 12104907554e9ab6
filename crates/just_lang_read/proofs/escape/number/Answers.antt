-- What the digits so far say of all of them.
use Rattle.std.proofs.Common.{◌≡◌, ℕ, ◌+◌, ◌*◌, Ok, subst, sym, arith}
use Rattle.just_lang_read.specs.Place.{Place}
use Rattle.just_lang_read.specs.Tokens as tokens
use Rattle.just_lang_read.proofs.Digits.{Counts, counts_more, number_done, number_odd, number_long, number_big}
use Rattle.just_lang_read.proofs.escape.number.Goals as goal

pub digits-preserved : goal.digits-preserved
digits-preserved c =
    subst (λ (q : Place). Counts c.args.cursor.now q (c.digits.number * 16 + c.in-Some.digit) (c.digits.count + 1)) (sym c.in-Some.ensures.2)
    (counts_more c.args.cursor.now c.digits.cursor c.digits.number c.digits.count c.in-Some.digit c.digits.invariant c.in-Some.ensures.0 c.in-Some.ensures.3
    (omega arith) (omega arith))

pub returns-then-count-gt6 : goal.returns-then-count-gt6
returns-then-count-gt6 c = λ _.
    number_long c.args.cursor.now c.digits.cursor c.digits.number c.digits.count c.digits.invariant c.in-Some.ensures.0 (omega arith)

pub returns-then-number-gt1114111 : goal.returns-then-number-gt1114111
returns-then-number-gt1114111 c = λ _.
    number_big c.args.cursor.now c.digits.cursor c.digits.number c.digits.count c.in-Some.digit c.digits.invariant c.in-Some.ensures.0 c.in-Some.ensures.3 (omega arith)

pub returns-in-Some-from_u32 : goal.returns-in-Some-from_u32
returns-in-Some-from_u32 c =
    let k = c.in-Some-from_u32.ensures.value in
    let e = c.in_default.ensures in
    subst (λ (q : Place). tokens.number c.args.cursor.now ≡ Ok (c.in-Some-from_u32.c, q)) (sym e.1)
    (subst (λ (n : ℕ). tokens.number c.args.cursor.now ≡ Ok (n, c.digits.cursor)) (sym k.1)
    (number_done c.args.cursor.now c.digits.cursor c.digits.number c.digits.count c.digits.invariant e.0 c.if-count-eq0.false k.0))

pub returns-in-None : goal.returns-in-None
returns-in-None c = λ _.
    number_odd c.args.cursor.now c.digits.cursor c.digits.number c.digits.count c.digits.invariant c.in_default.ensures.0 c.in-None.ensures.value
