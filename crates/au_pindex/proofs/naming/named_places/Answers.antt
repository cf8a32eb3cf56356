use Rattle.std.proofs.Common.{◌∙◌, ap, length}
use Rattle.au_pindex.specs.Naming.{is_named}
use Rattle.au_pindex.proofs.Placing.{as_many}
use Rattle.au_pindex.proofs.Taken.{keys_listed, taken_named}
use Rattle.au_pindex.proofs.naming.named_places.Goals as goal

pub returns-clause-places : goal.returns-clause-places
returns-clause-places c =
    let grants = c.args.grants.now in
    let facts = c.args.facts.now in
    let enabled = c.args.catalog.now.enabled in
    let policies = c.args.catalog.now.policies in
    c.in_ok-places.ensures.value
    ∙ keys_listed (is_named grants enabled facts) policies c.in_ok-named.named c.in_ok-places.ensures.order
    (λ at. c.in_ok-named.ensures.taken at ∙ taken_named grants facts enabled policies c.args.buckets.now c.requires c.in_ok-named.ensures.order at)

pub returns-clause-count : goal.returns-clause-count
returns-clause-count c =
    let grants = c.args.grants.now in
    let facts = c.args.facts.now in
    let enabled = c.args.catalog.now.enabled in
    let policies = c.args.catalog.now.policies in
    ap length
    (c.in_ok-places.ensures.value
    ∙ keys_listed (is_named grants enabled facts) policies c.in_ok-named.named c.in_ok-places.ensures.order
    (λ at. c.in_ok-named.ensures.taken at ∙ taken_named grants facts enabled policies c.args.buckets.now c.requires c.in_ok-named.ensures.order at))
    ∙ as_many (is_named grants enabled facts) policies 0
