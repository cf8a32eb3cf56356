use Rattle.std.proofs.Common.{rules, sym, ap, ◌∙◌, subst}
use Rattle.au_turn.specs.Entries.{StandsIn}
use Rattle.au_turn.specs.Pass.{mine, slots_of}
use Rattle.au_turn.proofs.EntriesLemmas.{stands_longer}
use Rattle.au_turn.proofs.RuleLemmas.{joins, meets}
use Rattle.au_turn.proofs.PassLemmas.{same_view, mixed_by, both_begin, pass_mixed}
use Rattle.au_turn.proofs.turn.Turn.join.Goals as goal

pub join_seat-requires : goal.join_seat-requires
join_seat-requires g c =
    let own = c.requires.own in
    let theirs = c.requires.other_own in
    (search rules, search rules, theirs.slots ∙ ap slots_of c.requires.other_idle, search rules, joins _ _ _ _ _ c.requires.idle c.requires.other_idle own.live theirs.live)

pub load-requires : goal.load-requires
load-requires g c =
    let v = same_view _ _ c.join_seat.ensures.2 in
    (search rules, search rules, meets _ _ _ _ (ap (λ u. u.held) v) (ap (λ u. u.spent) v))

pub returns-clause-own : goal.returns-clause-own
returns-clause-own g c =
    let own = c.requires.own in
    let w = c.args.other.seat.me.0 in
    let m = mixed_by c.args.pass.now.seat.me c.join_seat.new.seat.me c.load.new.seat.me w (own.slots ∙ ap slots_of c.requires.idle) c.join_seat.ensures.2 c.load.ensures.2.0 in
    let b = both_begin c.args.pass.now.seat.me c.join_seat.new.seat.me w c.join_seat.ensures.2 c.load.ensures.2.1 in
    pass_mixed _ c.args.pass.now.seat _ w own b.0 (search rules) m

pub returns-clause-other_mine : goal.returns-clause-other_mine
returns-clause-other_mine g c =
    let own = c.requires.own in
    let w = c.args.other.seat.me.0 in
    let m = mixed_by c.args.pass.now.seat.me c.join_seat.new.seat.me c.load.new.seat.me w (own.slots ∙ ap slots_of c.requires.idle) c.join_seat.ensures.2 c.load.ensures.2.0 in
    let b = both_begin c.args.pass.now.seat.me c.join_seat.new.seat.me w c.join_seat.ensures.2 c.load.ensures.2.1 in
    subst (λ u. StandsIn (mine c.args.other) u.seen) (sym (same_view _ _ m)) (stands_longer _ _ _ c.requires.other_own.stands b.1)
