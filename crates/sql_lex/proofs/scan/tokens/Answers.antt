use Rattle.std.proofs.Common.{◌<◌, length, refl, arith}
use Rattle.std.proofs.lemmas.Bool.Decides.{nat_tests}
use Rattle.sql_lex.specs.Tokens.{here}
use Rattle.sql_lex.proofs.Leading.{leads_gap, leads_token, gap_long, token_long, stuck}
use Rattle.sql_lex.proofs.scan.tokens.Goals as goal

pub loop-rest-init : goal.loop-rest-init
loop-rest-init c = record { leads = rw c.new-tokens.ensures.items here; whole = omega arith }

pub loop-rest-preserved-in-Some : goal.loop-rest-preserved-in-Some
loop-rest-preserved-in-Some c =
    let short = gap_long c.loop-rest.rest.now c.in-Some.behind.now c.in-Some.ensures in
    record {
      leads = leads_gap 0 _ _ _ _ c.loop-rest.invariant.leads _ _ c.in-Some.ensures (omega arith);
      whole = omega (arith, c.loop-rest.invariant.whole);
    }

pub loop-rest-smaller-in-Some : goal.loop-rest-smaller-in-Some
loop-rest-smaller-in-Some c = gap_long c.loop-rest.rest.now c.in-Some.behind.now c.in-Some.ensures

pub returns-in-None-2 : goal.returns-in-None-2
returns-in-None-2 c =
    let some : 0 < length c.loop-rest.rest.now = grind (arith, nat_tests) in
    stuck c.args.text.now _ _ _ c.loop-rest.invariant.leads some c.in-None.ensures (rw c.in-None-2.is at c.in_ok-kind-in-None.ensures)

pub loop-rest-preserved : goal.loop-rest-preserved
loop-rest-preserved c =
    let starts = rw c.in-Some-2.is at c.in_ok-kind-in-None.ensures in
    let short = token_long c.loop-rest.rest.now c.in-Some-2.kind c.in-Some-2.behind.now starts in
    record {
      leads = rw c.in_ok-push-in-Some-2.ensures.items (leads_token 0 _ _ _ _ c.loop-rest.invariant.leads _ _ c.in-None.ensures starts refl (omega arith));
      whole = omega (arith, c.loop-rest.invariant.whole);
    }

pub loop-rest-smaller : goal.loop-rest-smaller
loop-rest-smaller c =
    let starts = rw c.in-Some-2.is at c.in_ok-kind-in-None.ensures in token_long c.loop-rest.rest.now c.in-Some-2.kind c.in-Some-2.behind.now starts
