use Rattle.std.proofs.Common.{◌≡◌, ◌++◌, ◌∷◌, [], inr, List, ℕ, sym, subst}
use Rattle.std.proofs.lemmas.Result.{err_from_is_err_and}
use Rattle.au_journal.specs.Journals.{disk_of, seat_of}
use Rattle.au_store.specs.Recovery.{GoesOnBy}
use Rattle.au_store.proofs.Frames.{replayed_push}
use Rattle.au_store.proofs.Reading.{body_damage, cannot_follow, replayable}
use Rattle.au_store.proofs.replaying.take_frame.Goals as goal

pub returns-in_err-next_body-clause-why : goal.returns-in_err-next_body-clause-why
returns-in_err-next_body-clause-why g c = λ told taken.
    let p = err_from_is_err_and c.from_residual.result c.from_residual.ensures.1 in
    rw (p.1, p.2) (c.in_err-next_body.ensures.why told taken.bodies taken.walked (replayable taken.bodies c.args.engine.now.state.kept taken.so))

pub returns-in_err-next_body-clause-cause : goal.returns-in_err-next_body-clause-cause
returns-in_err-next_body-clause-cause g c =
    let p = err_from_is_err_and c.from_residual.result c.from_residual.ensures.1 in
    rw (p.1, p.2) c.in_err-next_body.ensures.cause

pub returns-then-not-branch-clause-taken : goal.returns-then-not-branch-clause-taken
returns-then-not-branch-clause-taken g c = λ told taken. record {
  bodies = taken.bodies;
  settled = rw c.if-not-branch.true at (c.in_ok-next_body.ensures.next told taken.bodies taken.walked);
  so = taken.so;
}

pub returns-in_err-go_on_by-clause-why : goal.returns-in_err-go_on_by-clause-why
returns-in_err-go_on_by-clause-why g c = λ told taken.
    let p = err_from_is_err_and c.from_residual-in_err-go_on_by.result c.from_residual-in_err-go_on_by.ensures.1 in
    rw (p.1, p.2) tt

pub returns-in_err-go_on_by-clause-cause : goal.returns-in_err-go_on_by-clause-cause
returns-in_err-go_on_by-clause-cause g c =
    let p = err_from_is_err_and c.from_residual-in_err-go_on_by.result c.from_residual-in_err-go_on_by.ensures.1 in
    rw (p.1, p.2) c.in_ok-next_body.ensures.cause

pub returns-then-branch-clause-taken : goal.returns-then-branch-clause-taken
returns-then-branch-clause-taken g c = λ told taken.
    let kept = c.args.engine.now.state.kept in
    let next = c.go_on_by.new.engine.state.kept in
    let body = c.next_body.new.room.items in
    let is : c.deref.result.now ≡ body = cc in
    let walked = rw c.if-not-branch.false at (c.in_ok-next_body.ensures.next told taken.bodies taken.walked) in
    let goes = rw c.if-branch.true at c.in_ok-go_on_by.ensures.goes in
    let by = subst (λ (b : List ℕ). GoesOnBy kept b next) is goes in
    record { bodies = taken.bodies ++ body ∷ []; walked = walked; so = replayed_push taken.bodies kept next body taken.so by }

pub returns-else-branch-clause-why : goal.returns-else-branch-clause-why
returns-else-branch-clause-why g c = λ told taken.
    let meaning = g.D.Disk.meaning in
    let old = c.args.journal.now in
    let new = c.next_body.new.journal in
    let kept = c.args.engine.now.state.kept in
    let body = c.next_body.new.room.items in
    let is : c.deref.result.now ≡ body = cc in
    let walked = rw c.if-not-branch.false at (c.in_ok-next_body.ensures.next told taken.bodies taken.walked) in
    let never = rw c.if-branch.false at c.in_ok-go_on_by.ensures.goes in
    rw c.area-area.ensures (inr (body_damage c.frames_stand_in_a_row.ensures.pushed (meaning (disk_of old)) (meaning (disk_of new)) (seat_of old) (seat_of new) taken.bodies body c.next_body.ensures.stays.reads c.next_body.ensures.same.0 c.next_body.ensures.same.1
    taken.walked walked c.used-at.result c.used-at.ensures (replayable taken.bodies kept taken.so)
    (cannot_follow c.one_front.ensures taken.bodies kept body taken.so (λ next by. never next (subst (λ (b : List ℕ). GoesOnBy kept b next) (sym is) by)))))
