use Rattle.std.proofs.Common.{◌≤◌, arith}
use Rattle.au_grants.proofs.Holders.{given_so_far, given_to_end}
use Rattle.au_grants.proofs.holding.first_behind.Goals as goal

pub loop-at-preserved : goal.loop-at-preserved
loop-at-preserved c =
    let from : c.args.place ≤ c.loop-at.at = (let near = c.loop-at.auto.at in omega (arith, near)) in
    given_so_far _ c.args.rights.now _ _ _ _ _ from c.loop-at.invariant c.first_given-first.ensures

pub returns : goal.returns
returns c =
    let low : c.end_of_grants-end.result ≤ c.loop-at.at = (let end = c.loop-at-test.false in omega (arith, end)) in
    let high : c.loop-at.at ≤ c.end_of_grants-end.result = (let near = c.loop-at.auto.at-end in let some = c.end_of_grants-end.ensures.some in omega (arith, near, some)) in
    given_to_end _ _ c.args.rights.now _ _ _ _ _ c.role_grants.ensures.value c.requires.first c.end_of_grants-end.ensures low high c.loop-at.invariant
