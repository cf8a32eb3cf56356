use Rattle.std.proofs.Common.{rules, ℕ, List, ◌∷◌, Some, sym, ap, ◌∙◌}
use Rattle.std.specs.declared.option.Option.{Option}
use Rattle.atomic_table.specs.Table.{rest}
use Rattle.au_turn.proofs.PassLemmas.{same_slots, pass_holding, held_by, same_pass}
use Rattle.au_turn.proofs.turn.Turn.take.Goals as goal

pub exchange-requires : goal.exchange-requires
exchange-requires g c =
    let got = rw c.if-grab.true at c.grab.ensures.got in
    let s = same_slots _ _ got.2 in
    let put : List (ℕ × Option g.row.T.Denot) → List (ℕ × Option g.row.T.Denot) = λ cs. (0, Some got.0) ∷ rest cs in
    (search rules, (Some got.0, s ∙ ap put (sym s)))

pub returns-then-grab-clause-own : goal.returns-then-grab-clause-own
returns-then-grab-clause-own g c =
    let got = rw c.if-grab.true at c.grab.ensures.got in
    let i = c.loop.invariant in
    let own = same_pass _ c.args.pass.now.seat c.loop.pass.seat c.requires.own (search rules) (search rules) in
    let m = held_by c.loop.pass.seat.me.0 c.grab.new.pass.seat.me c.exchange.new.seat.me got.1 got.0 got.2 c.exchange.ensures.3 in
    pass_holding _ c.loop.pass.seat _ got.1 own got.4 (search rules) m
