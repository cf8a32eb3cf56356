use Rattle.std.proofs.Common.{◌≡◌, ◌∙◌, ◌+◌, ◌-◌, ◌/◌, IfOk, Some, Option, sym, ap, subst, arith}
use Rattle.au_base.specs.declared.ask.Ask.{Ask}
use Rattle.au_gen.proofs.Sampled.{at_closing, at_rows}
use Rattle.au_gen.proofs.asking.ask.Goals as goal

pub returns-then-place-asks : goal.returns-then-place-asks
returns-then-place-asks c =
    ap Some c.in_ok-row_ask.ensures
    ∙ sym (at_rows c.args.seed c.args.rows c.args.n (c.args.n - 5)
    (let h = c.if-n-lt-OPENING.false in omega (arith, h))
    (let e = c.from-rows.ensures in let h = c.if-place-asks.true in omega (arith, e, h)))

pub returns : goal.returns
returns c =
    let place = c.args.n - 5 - (c.args.rows + c.args.rows / 100) in
    let there = at_closing c.args.seed c.args.rows c.args.n place
    (let low = c.if-n-lt-OPENING.false in let e = c.from-rows.ensures in let h = c.if-place-asks.false in omega (arith, low, e, h)) in
    subst (λ (found : Option Ask). IfOk c.closing_ask.result (λ given. given ≡ found)) (sym there) (rw c.from-rows.ensures at c.closing_ask.ensures)
