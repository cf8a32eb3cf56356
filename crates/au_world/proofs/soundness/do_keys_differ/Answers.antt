use Rattle.std.proofs.Common.{List, arith, sym, subst}
use Rattle.std.specs.List.{AllByRecursion, Contains}
use Rattle.std.proofs.lemmas.List.{drop_all}
use Rattle.au_query.specs.Combos.{Line, lines}
use Rattle.au_txn.specs.Desks.{key_of, open_of}
use Rattle.au_txn.specs.Rows.{Row}
use Rattle.au_txn.specs.Transactions.{laid_over, view}
use Rattle.au_world.specs.Inside.{IsAloneUnder}
use Rattle.au_world.proofs.KeyedCut.{line_seen}
use Rattle.au_world.proofs.SeenKeys.{none_under}
use Rattle.au_world.proofs.soundness.do_keys_differ.Goals as goal

pub returns : goal.returns
returns c = λ holds.
    let desk = c.args.desk.now in
    let client = c.args.client in
    let name = c.args.table.now.name in
    let rows = c.args.rows.now in
    let own = open_of desk client in
    let laid = laid_over desk.rows own in
    let all = c.loop-number.invariant (subst (λ rest. AllByRecursion (IsAloneUnder desk client name) (lines rest)) (sym (drop_all c.loop-number.number-index rows (omega (arith, c.loop-number-test.false)))) tt) in
    c.keys_differ_by_points.ensures.each (key_of name desk.tables) name laid
    (none_under desk client name (lines rows)
    (λ line at. subst (λ (seen : List Line). Contains seen line) (sym c.requires.rows)
    (line_seen name laid (view desk.rows own name) (λ (row : Row). (c.rows_stand_by_tables.ensures.viewed desk.rows own name row c.holds_together.ensures.rows).1) line at))
    all)
