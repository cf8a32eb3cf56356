use Rattle.std.proofs.Common.{◌∙◌, ◌++◌, ◌∷◌, [], List, ap, get_or}
use Rattle.au_audit.specs.Conditions.{learnt, when_of}
use Rattle.au_entries.specs.declared.policy.AuditPolicy.{AuditPolicy}
use Rattle.au_entries.specs.Demand.{demanding}
use Rattle.au_policy.specs.Asking.{IsTruthOverNone, truth_now}
use Rattle.au_pindex.specs.Indexing.{condition_of}
use Rattle.au_pindex.proofs.Placing.{all_at, mapped_at, stands_there}
use Rattle.au_pindex.proofs.testing.test_at.Goals as goal

pub test_one-requires-clause-truth : goal.test_one-requires-clause-truth
test_one-requires-clause-truth g c =
    let x = c.index-policies-place.result in
    let is = c.index-policies-place.is ∙ ap (λ (ps : List AuditPolicy). get_or ps c.args.place x) c.as_slice-policies.ensures in
    all_at (λ (policy : AuditPolicy). IsTruthOverNone policy.when) c.args.case.catalog.now.policies c.args.place x c.requires.catalog.truths c.requires.place is

pub test_one-requires-clause-condition : goal.test_one-requires-clause-condition
test_one-requires-clause-condition g c =
    let x = c.index-policies-place.result in
    let is = c.index-policies-place.is ∙ ap (λ (ps : List AuditPolicy). get_or ps c.args.place x) c.as_slice-policies.ensures in
    mapped_at condition_of c.args.case.catalog.now.policies c.args.conditions.now c.args.place x c.index-conditions-place.result c.requires.conditions c.requires.place is c.index-conditions-place.is

pub returns-clause-names : goal.returns-clause-names
returns-clause-names g c policy stands =
    let x = c.index-policies-place.result in
    let is = c.index-policies-place.is ∙ ap (λ (ps : List AuditPolicy). get_or ps c.args.place x) c.as_slice-policies.ensures in
    let case = c.args.case in
    let when = when_of (truth_now case.session.now) case.session.now.session case.kept.now in
    c.in_ok-test_one.ensures.names
    ∙ ap (λ (p : AuditPolicy). c.args.found.now.names ++ demanding when case.grants.now case.catalog.now.enabled (p ∷ []) case.facts.now)
    (is ∙ stands_there case.catalog.now.policies c.args.place policy x stands)

pub returns-clause-learnt : goal.returns-clause-learnt
returns-clause-learnt g c policy stands =
    let x = c.index-policies-place.result in
    let is = c.index-policies-place.is ∙ ap (λ (ps : List AuditPolicy). get_or ps c.args.place x) c.as_slice-policies.ensures in
    let case = c.args.case in
    c.in_ok-test_one.ensures.learnt
    ∙ ap (λ (p : AuditPolicy). c.args.found.now.learnt ++ learnt (truth_now case.session.now) case.session.now.session case.grants.now case.catalog.now.enabled case.kept.now (p ∷ []) case.facts.now)
    (is ∙ stands_there case.catalog.now.policies c.args.place policy x stands)
