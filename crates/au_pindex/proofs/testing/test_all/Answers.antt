use Rattle.std.proofs.Common.{◌∙◌, ◌<◌, ◌≤◌, List, ap, sym, filter, length, slice_index_or, arith}
use Rattle.std.proofs.lemmas.List.{length-map, take_all}
use Rattle.au_audit.specs.Conditions.{learnt, when_of}
use Rattle.au_entries.specs.declared.policy.AuditPolicy.{AuditPolicy}
use Rattle.au_entries.specs.Demand.{demanding}
use Rattle.au_policy.specs.Asking.{truth_now}
use Rattle.au_pindex.specs.Indexing.{condition_of}
use Rattle.au_pindex.specs.Naming.{is_named}
use Rattle.au_pindex.proofs.Placing.{as_many, found_within, is_kth, is_within, same_default, stands_there}
use Rattle.au_pindex.proofs.Tested.{named_demand, named_learn, next_names, next_results}
use Rattle.au_pindex.proofs.testing.test_all.Goals as goal

pub test_at-requires-clause-place : goal.test_at-requires-clause-place
test_at-requires-clause-place g c =
    let case = c.args.case in
    let i = c.loop-place.place-index in
    is_within (is_named case.grants.now case.catalog.now.enabled case.facts.now) case.catalog.now.policies c.args.places.now i (slice_index_or c.args.places.now i 0) c.requires.places c.loop-place-test.true
    (same_default c.args.places.now i 0 _ c.loop-place-test.true)

pub test_at-requires-clause-within : goal.test_at-requires-clause-within
test_at-requires-clause-within g c =
    let case = c.args.case in
    let i = c.loop-place.place-index in
    let within = is_within (is_named case.grants.now case.catalog.now.enabled case.facts.now) case.catalog.now.policies c.args.places.now i (slice_index_or c.args.places.now i 0) c.requires.places c.loop-place-test.true
    (same_default c.args.places.now i 0 _ c.loop-place-test.true) in
    omega (arith, within, ap length c.requires.conditions ∙ length-map case.catalog.now.policies condition_of)

pub loop-place-preserved : goal.loop-place-preserved
loop-place-preserved g c =
    let case = c.args.case in
    let session = case.session.now in
    let truth = truth_now session in
    let grants = case.grants.now in
    let enabled = case.catalog.now.enabled in
    let facts = case.facts.now in
    let policies = case.catalog.now.policies in
    let test = is_named grants enabled facts in
    let i = c.loop-place.place-index in
    let place = slice_index_or c.args.places.now i 0 in
    let its = same_default c.args.places.now i 0 place c.loop-place-test.true in
    let there = found_within policies place (is_within test policies c.args.places.now i place c.requires.places c.loop-place-test.true its) in
    let policy = there.0 in
    let within : i < length (filter test policies) = omega (arith, c.loop-place-test.true, ap length c.requires.places ∙ as_many test policies 0) in
    let kth = is_kth test policies c.args.places.now i place policy c.requires.places c.loop-place-test.true its (sym (stands_there policies place policy policy there.1)) in (
      next_names (when_of truth session.session case.kept.now) grants enabled (filter test policies) facts i policy c.loop-place.found.names _ within kth c.loop-place.invariant.0 (c.in_ok-test_at.ensures.names policy there.1),
      next_results truth session.session grants enabled case.kept.now (filter test policies) facts i policy c.loop-place.found.learnt _ within kth c.loop-place.invariant.1 (c.in_ok-test_at.ensures.learnt policy there.1),
      omega (arith, c.test_at.ensures.step, c.loop-place.invariant.2),
    )

pub returns-clause-names : goal.returns-clause-names
returns-clause-names g c =
    let case = c.args.case in
    let when = when_of (truth_now case.session.now) case.session.now.session case.kept.now in
    let test = is_named case.grants.now case.catalog.now.enabled case.facts.now in
    let all : length (filter test case.catalog.now.policies) ≤ c.loop-place.place-index = omega (arith, c.loop-place-test.false, ap length c.requires.places ∙ as_many test case.catalog.now.policies 0) in
    c.loop-place.invariant.0
    ∙ ap (λ (policies : List AuditPolicy). demanding when case.grants.now case.catalog.now.enabled policies case.facts.now)
    (take_all c.loop-place.place-index (filter test case.catalog.now.policies) all)
    ∙ named_demand case.grants.now case.catalog.now.enabled case.catalog.now.policies case.facts.now when

pub returns-clause-learnt : goal.returns-clause-learnt
returns-clause-learnt g c =
    let case = c.args.case in
    let truth = truth_now case.session.now in
    let number = case.session.now.session in
    let test = is_named case.grants.now case.catalog.now.enabled case.facts.now in
    let all : length (filter test case.catalog.now.policies) ≤ c.loop-place.place-index = omega (arith, c.loop-place-test.false, ap length c.requires.places ∙ as_many test case.catalog.now.policies 0) in
    c.loop-place.invariant.1
    ∙ ap (λ (policies : List AuditPolicy). learnt truth number case.grants.now case.catalog.now.enabled case.kept.now policies case.facts.now)
    (take_all c.loop-place.place-index (filter test case.catalog.now.policies) all)
    ∙ named_learn case.grants.now case.catalog.now.enabled case.catalog.now.policies case.facts.now truth number case.kept.now
