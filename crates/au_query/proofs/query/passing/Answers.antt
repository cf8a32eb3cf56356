use Rattle.std.proofs.Common.{◌≡◌, ◌∙◌, ◌≤◌, ◌<◌, ap, length, subst}
use Rattle.std.specs.Prelude.{MatchOption}
use Rattle.au_base.specs.Limits.{REPLY_ROWS}
use Rattle.au_query.specs.Combos.{combos, views}
use Rattle.au_query.specs.descent.Inside.{AreMetTogether, trees_in_tests}
use Rattle.au_query.proofs.Cuts.{same_combos}
use Rattle.au_query.proofs.query.passing.Goals as goal

pub returns : goal.returns
returns c =
    let same = ap (λ tests. combos c.args.session.now (trees_in_tests tests) (views c.args.sources.now)) c.as_slice-2.ensures.value
    ∙ same_combos c.args.session.now (trees_in_tests c.in_ok-tests.tests.items) c.args.plan.now.conditions.items
    (subst (AreMetTogether (trees_in_tests c.in_ok-tests.tests.items)) c.as_slice.ensures.value c.in_ok-tests.ensures.trees)
    (views c.args.sources.now) in
    subst (λ combinations. MatchOption c.in_ok-found.found (REPLY_ROWS < length combinations) (λ kept. (kept.items ≡ combinations) × (length combinations ≤ REPLY_ROWS))) same c.in_ok-found.ensures
