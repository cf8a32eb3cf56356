use Rattle.std.proofs.Common.{◌≡◌, ◌∙◌, length, get_or, true, None, ap, sym, arith}
use Rattle.std.proofs.lemmas.List.Sums.{position_or_len_is}
use Rattle.au_rows.specs.Held.{is_named}
use Rattle.au_rows.proofs.tables.walked_number.Goals as goal

pub returns-then-is_named-clause-number : goal.returns-then-is_named-clause-number
returns-then-is_named-clause-number c =
    let d = c.index-tables-number.result in
    let here : is_named c.args.name.now (get_or c.args.tables.now c.loop-number.number d) ≡ true =
    ap (is_named c.args.name.now) (sym c.index-tables-number.is) ∙ (sym c.is_named.ensures ∙ c.if-is_named.true) in
    sym (position_or_len_is (is_named c.args.name.now) c.args.tables.now c.loop-number.number d (omega arith) (λ k lt. c.loop-number.invariant k d lt) (λ lt. here))

pub returns-clause-number : goal.returns-clause-number
returns-clause-number c =
    sym (position_or_len_is (is_named c.args.name.now) c.args.tables.now (length c.args.tables.now) None (omega arith)
    (λ k lt. c.loop-number.invariant k None (omega arith)) (λ lt. absurd (omega arith)))
