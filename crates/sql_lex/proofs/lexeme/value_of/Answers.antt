use Rattle.std.proofs.Common.{◌<◌, ◌+◌, arith, get_or, length}
use Rattle.std.proofs.lemmas.Int.Digits.{digits_value_more}
use Rattle.std.proofs.lemmas.Str.Parse.{digits_value-take-le}
use Rattle.sql_lex.proofs.Digits.{digit_at, digit_of}
use Rattle.sql_lex.proofs.lexeme.value_of.Goals as goal

pub returns-then-value-ge1000000000000000000 : goal.returns-then-value-ge1000000000000000000
returns-then-value-ge1000000000000000000 c =
    let i = c.loop-digit.digit-index in
    let ds = c.args.digits.now in
    let inside : i < length ds = omega arith in
    let more = digits_value_more 10 ds i inside in
    let digit = digit_of (get_or ds i 0) (digit_at ds i inside c.requires) in
    let le = digits_value-take-le 10 ds (i + 1) (omega arith) in
    omega (arith, more, digit, le, c.loop-digit.invariant.value)

pub loop-digit-preserved : goal.loop-digit-preserved
loop-digit-preserved c =
    let i = c.loop-digit.digit-index in
    let ds = c.args.digits.now in
    let inside : i < length ds = omega arith in
    let more = digits_value_more 10 ds i inside in
    let digit = digit_of (get_or ds i 0) (digit_at ds i inside c.requires) in
    record { value = omega (arith, more, digit, c.loop-digit.invariant.value); small = omega arith }
