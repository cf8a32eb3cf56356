use Rattle.std.proofs.Common.{rules, sym, ap, subst}
use Rattle.au_turn.proofs.RuleLemmas.{releases}
use Rattle.au_turn.proofs.PassLemmas.{same_view, same_slots, filled, handed_over, pass_handed}
use Rattle.au_turn.proofs.turn.Turn.give_back.Goals as goal

pub fetch_add-requires : goal.fetch_add-requires
fetch_add-requires g c =
    let own = c.requires.own in
    let t = c.announce.ensures.told in
    let m = filled c.args.pass.now.seat.me c.announce.new.pass.seat.me c.exchange-rest.new.seat.me t.0 c.args.value own.slots c.requires.held t.2 c.exchange-rest.ensures.3 in
    let v = same_view _ _ m in (
      search rules,
      search rules,
      releases _ _ _ _ c.args.value (search rules) (ap (λ u. u.held) v) (ap (λ u. u.spent) v) (same_slots _ _ m) (subst (λ u. g.T.Held.stands c.args.value u.next) (sym v) t.1.1),
    )

pub returns-clause-own : goal.returns-clause-own
returns-clause-own g c =
    let own = c.requires.own in
    let t = c.announce.ensures.told in
    let m = filled c.args.pass.now.seat.me c.announce.new.pass.seat.me c.exchange-rest.new.seat.me t.0 c.args.value own.slots c.requires.held t.2 c.exchange-rest.ensures.3 in
    let f = handed_over c.args.pass.now.seat.me.0 c.exchange-rest.new.seat.me c.fetch_add.new.seat.me t.0 c.args.value m c.fetch_add.ensures.2.2 in
    let v = same_view _ _ f in
    pass_handed _ c.args.pass.now.seat _ t.0 own (search rules) f

pub returns-clause-value : goal.returns-clause-value
returns-clause-value g c =
    let own = c.requires.own in
    let t = c.announce.ensures.told in
    let m = filled c.args.pass.now.seat.me c.announce.new.pass.seat.me c.exchange-rest.new.seat.me t.0 c.args.value own.slots c.requires.held t.2 c.exchange-rest.ensures.3 in
    let f = handed_over c.args.pass.now.seat.me.0 c.exchange-rest.new.seat.me c.fetch_add.new.seat.me t.0 c.args.value m c.fetch_add.ensures.2.2 in
    let v = same_view _ _ f in
    subst (λ u. g.T.Held.stands c.args.value u.seen) (sym v) t.1.1

pub returns-clause-entries : goal.returns-clause-entries
returns-clause-entries g c =
    let own = c.requires.own in
    let t = c.announce.ensures.told in
    let m = filled c.args.pass.now.seat.me c.announce.new.pass.seat.me c.exchange-rest.new.seat.me t.0 c.args.value own.slots c.requires.held t.2 c.exchange-rest.ensures.3 in
    let f = handed_over c.args.pass.now.seat.me.0 c.exchange-rest.new.seat.me c.fetch_add.new.seat.me t.0 c.args.value m c.fetch_add.ensures.2.2 in
    let v = same_view _ _ f in
    (t.0, t.1.0, (ap (λ u. u.seen) v, ap (λ u. u.mine) v))
