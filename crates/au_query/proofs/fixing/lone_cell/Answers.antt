use Rattle.std.proofs.Common.{◌≡◌, ◌∙◌, ◌<◌, [], length, ℕ, false, ap, sym}
use Rattle.au_expr.specs.Placing.{value_at}
use Rattle.au_expr.specs.Ranges.{names_range}
use Rattle.au_expr.specs.Resolving.{placed}
use Rattle.au_expr.specs.Values.{Is}
use Rattle.au_query.specs.descent.Inside.{IsAlways}
use Rattle.au_query.proofs.Cuts.{some_other}
use Rattle.au_query.proofs.Equalities.{always_so, none_named}
use Rattle.au_query.proofs.fixing.lone_cell.Goals as goal

pub returns-in_ok-found-in-Ok : goal.returns-in_ok-found-in-Ok
returns-in_ok-found-in-Ok c =
    let session = c.args.session.now in
    let ranges = c.args.ranges.now in
    let tree = placed ranges c.args.expr.now in
    let resolves = rw c.in-Ok.is at c.in_ok-resolved.ensures in
    let is = resolves.0.places in
    let below : (range : ℕ) → range < length ranges → names_range range tree ≡ false =
    λ range within. ap (names_range range) (sym is) ∙ c.names_one_of.ensures c.if-names_one_of.false range within in
    some_other (λ cell. value_at [] session c.in-Ok.resolved ≡ Is cell) (IsAlways session tree)
    (λ cell found. always_so c.named_ranges_suffice.ensures session tree cell
    (none_named tree (length ranges) (λ range named. c.later_ranges_dont_matter.ensures.there ranges range c.args.expr.now named) below)
    (ap (value_at [] session) (sym is) ∙ found))
    c.in_ok-found-in-Ok.found c.in_ok-found-in-Ok.ensures
