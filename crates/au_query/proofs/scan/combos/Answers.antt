use Rattle.au_query.specs.Combos.{passes, views}
use Rattle.au_query.specs.descent.Inside.{trees_in_tests}
use Rattle.au_query.proofs.Scans.{all_kept, too_many}
use Rattle.au_query.proofs.scan.combos.Goals as goal

pub returns-then-branch : goal.returns-then-branch
returns-then-branch c =
    all_kept (passes c.args.session.now (trees_in_tests c.args.tests.now)) (views c.args.sources.now) _ _ _ c.in_ok-front.ensures c.new-kept.ensures.items _ c.if-branch.true c.in_ok-scan.ensures.kept

pub returns : goal.returns
returns c =
    too_many (passes c.args.session.now (trees_in_tests c.args.tests.now)) (views c.args.sources.now) _ _ _ c.in_ok-front.ensures c.new-kept.ensures.items _ c.if-branch.false c.in_ok-scan.ensures.kept
