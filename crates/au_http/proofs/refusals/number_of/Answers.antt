use Rattle.std.proofs.Common.{◌<◌, ◌≤◌, refl, arith, get_or, length}
use Rattle.std.specs.Char.{is_ascii_digit}
use Rattle.std.proofs.lemmas.Int.Digits.{digits_value_more}
use Rattle.std.proofs.lemmas.List.Folds.{list_all_more}
use Rattle.au_http.proofs.Digits.{digit_of, more_small}
use Rattle.au_http.proofs.refusals.number_of.Goals as goal

pub loop-digit-preserved : goal.loop-digit-preserved
loop-digit-preserved c =
    let i = c.loop-digit.digit-index in
    let v = c.args.value.now in
    let inside : i < length v = omega arith in
    let b = get_or v i 0 in
    let low : 48 ≤ b = omega (arith, c.if-not-is_ascii_digit.ensures.cases) in
    let high : b ≤ 57 = omega (arith, c.if-not-is_ascii_digit.ensures.cases) in
    let digit = digit_of b low high in
    let more = digits_value_more 10 v i inside in
    let all = list_all_more is_ascii_digit v i 0 inside in
    record {
      number = rw (more, digit, c.loop-digit.invariant.number, c.from.ensures) refl;
      small = more_small c.loop-digit.number i c.from.result c.loop-digit.invariant.small (omega arith);
      digits = rw (all, c.loop-digit.invariant.digits, ← c.if-not-is_ascii_digit.ensures.value) refl;
      few = c.loop-digit.invariant.few;
    }
