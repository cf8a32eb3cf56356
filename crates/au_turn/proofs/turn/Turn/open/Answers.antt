use Rattle.std.proofs.Common.{rules, ◌≡◌, [], ◌∷◌, Some, sym, ap, subst}
use Rattle.au_turn.specs.View.{newcomer}
use Rattle.au_turn.proofs.RuleLemmas.{opens}
use Rattle.au_turn.proofs.PassLemmas.{same_view, pass_new}
use Rattle.au_turn.proofs.turn.Turn.open.Goals as goal

pub new-requires : goal.new-requires
new-requires g c =
    let about = c.of-about.ensures in
    let items : c.push_reserved.new.self.items ≡ Some c.args.value ∷ [] = search rules in
    let stands : g.T.Held.stands c.args.value (g.T.Held.first c.of-about.result.value) = subst (λ x. g.T.Held.stands c.args.value (g.T.Held.first x)) (sym about) c.begin.ensures in
    rw items (opens _ c.args.value _ stands)

pub returns-in-Ok-clause-own : goal.returns-in-Ok-clause-own
returns-in-Ok-clause-own g c =
    let e = c.in-Ok.ensures.ok in
    let m : c.in-Ok.seat.me ≡ (newcomer (g.T.Held.first c.of-about.result.value), []) = e.4 in
    (pass_new _ _ _ e.2 m, ap (λ u. u.held) (same_view _ _ m))
