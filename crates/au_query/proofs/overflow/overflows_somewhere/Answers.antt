use Rattle.std.proofs.Common.{◌∙◌, sym, ap}
use Rattle.au_expr.specs.Placing.{value_at}
use Rattle.au_expr.specs.Values.{is_overflow}
use Rattle.au_query.specs.Combos.{views}
use Rattle.au_query.specs.descent.Inside.{names_in, overflows_in}
use Rattle.au_query.proofs.Anywhere.{everywhere, nowhere}
use Rattle.au_query.proofs.overflow.overflows_somewhere.Goals as goal

pub returns-then-not-can_overflow : goal.returns-then-not-can_overflow
returns-then-not-can_overflow c =
    sym (nowhere (views c.args.sources.now) c.requires.sound (λ rows. is_overflow (value_at rows c.args.session.now c.args.expr.now))
    (λ rows sound. c.no_overflow_where_none_can.ensures c.args.expr.now c.args.session.now rows (sym c.can_overflow.ensures ∙ c.if-not-can_overflow.true) sound))

pub returns : goal.returns
returns c =
    everywhere (overflows_in c.args.session.now c.args.expr.now) (names_in c.args.expr.now)
    (λ a b h. ap is_overflow (c.named_ranges_suffice.ensures c.args.expr.now c.args.session.now a b h))
    c.args.sources.now _ _ c.new-row.ensures c.search.ensures.found
