use Rattle.std.proofs.Common.{◌≡◌, ◌∙◌, inr, List, ℕ, length, Some, refl, sym, ap, subst, arith}
use Rattle.au_journal.specs.Journals.{disk_of, seat_of}
use Rattle.au_step.specs.State.{State, start}
use Rattle.rec_codec.specs.Frames.{framed}
use Rattle.au_step.specs.Returning.{start_frame}
use Rattle.au_store.specs.Steps.{IsMovedTo}
use Rattle.au_store.specs.descent.Making.{CarriesTo}
use Rattle.au_store.specs.Stored.{IsKeptOn, IsSound}
use Rattle.au_store.proofs.Begun.{no_cost, no_time, start_cost}
use Rattle.au_store.proofs.Sound.{settled_sound}
use Rattle.au_store.proofs.store.Store.begin.Goals as goal

pub returns-then-instance-ge-INSTANCES-clause-why : goal.returns-then-instance-ge-INSTANCES-clause-why
returns-then-instance-ge-INSTANCES-clause-why g c = omega (arith, c.if-instance-ge-INSTANCES.true, c.instance.ensures, c.lawful.ensures.kept.lawful.instance)

pub returns-then-instance-ge-INSTANCES-clause-time : goal.returns-then-instance-ge-INSTANCES-clause-time
returns-then-instance-ge-INSTANCES-clause-time g c =
    let laws = g.met.D.Disk g.world.𝓛 g.world.𝓜 g.world.𝓡 ((λ s x. x), (λ x. x), (λ x. x), λ x. x) in
    let meaning = g.D.Disk.meaning in
    let d = disk_of c.args.journal in
    rw c.shut.ensures (no_time (meaning d) (laws.counts_now d) (laws.only_now d))

pub returns-then-instance-ge-INSTANCES-clause-cost : goal.returns-then-instance-ge-INSTANCES-clause-cost
returns-then-instance-ge-INSTANCES-clause-cost g c =
    let meaning = g.D.Disk.meaning in
    let d = disk_of c.args.journal in
    rw c.shut.ensures (no_cost c.args.engine.state.kept 0 (meaning d).written (meaning d).written refl)

pub returns-then-instance-ge-INSTANCES-clause-cause : goal.returns-then-instance-ge-INSTANCES-clause-cause
returns-then-instance-ge-INSTANCES-clause-cause g c = ap g.D.Disk.faults c.shut.ensures

pub next_instance-requires-clause-fresh : goal.next_instance-requires-clause-fresh
next_instance-requires-clause-fresh g c = omega (arith, c.if-instance-ge-INSTANCES.false, c.instance.ensures)

pub returns-in-Err-clause-time : goal.returns-in-Err-clause-time
returns-in-Err-clause-time g c =
    let laws = g.met.D.Disk g.world.𝓛 g.world.𝓜 g.world.𝓡 ((λ s x. x), (λ x. x), (λ x. x), λ x. x) in
    let meaning = g.D.Disk.meaning in
    let d = disk_of c.args.journal in
    rw c.shut-in-Err.ensures (no_time (meaning d) (laws.counts_now d) (laws.only_now d))

pub returns-in-Err-clause-cost : goal.returns-in-Err-clause-cost
returns-in-Err-clause-cost g c =
    let meaning = g.D.Disk.meaning in
    let d = disk_of c.args.journal in
    rw c.shut-in-Err.ensures (no_cost c.args.engine.state.kept 0 (meaning d).written (meaning d).written refl)

pub returns-in-Err-clause-cause : goal.returns-in-Err-clause-cause
returns-in-Err-clause-cause g c = ap g.D.Disk.faults c.shut-in-Err.ensures

pub write_start-requires-clause-carries : goal.write_start-requires-clause-carries
write_start-requires-clause-carries g c = λ _ _.
    let j = c.args.journal in
    let kept = c.args.engine.state.kept in
    let next = (start kept c.now-reading.result).kept in
    let is : c.in-Ok.framed.items ≡ c.deref.result.now = sym c.deref.ensures.value in
    let carries = subst (λ (b : List ℕ). CarriesTo kept (Some b) next) is c.in-Ok.ensures.carries in
    (kept, next, carries)

pub invariant_of-result : goal.invariant_of-result
invariant_of-result g c =
    let meaning = g.D.Disk.meaning in
    let j = c.args.journal in
    let kept = c.args.engine.state.kept in
    let next = (start kept c.now-reading.result).kept in
    let is : c.in-Ok.framed.items ≡ c.deref.result.now = sym c.deref.ensures.value in
    let carries = subst (λ (b : List ℕ). CarriesTo kept (Some b) next) is c.in-Ok.ensures.carries in
    let n = c.write_start.new.journal in
    let wrote = c.in-Ok-write_start.ensures in
    subst (λ (s : State). IsSound g.D.Disk.told (meaning (disk_of n)) (seat_of n) s) (sym c.in-Ok.ensures.state)
    (settled_sound g.D.Disk.told (meaning (disk_of n)) (seat_of n) (start kept c.now-reading.result) wrote.ended wrote.gated wrote.settled c.requires.ends
    (λ told. wrote.kept told kept next (c.requires.read told) carries))

pub returns-in-Ok-write_start-clause-begun : goal.returns-in-Ok-write_start-clause-begun
returns-in-Ok-write_start-clause-begun g c = (omega (arith, c.if-instance-ge-INSTANCES.false, c.instance.ensures), c.in-Ok.ensures.state)

pub returns-in-Ok-write_start-clause-moved : goal.returns-in-Ok-write_start-clause-moved
returns-in-Ok-write_start-clause-moved g c =
    let kept = c.args.engine.state.kept in
    let is : c.deref.result.now ≡ framed (start_frame kept c.now-reading.result) = c.deref.ensures.value ∙ c.in-Ok.ensures.framed in
    subst (λ (b : List ℕ). IsMovedTo (length b) (seat_of c.args.journal) (seat_of c.write_start.new.journal)) is c.in-Ok-write_start.ensures.moved

pub returns-in-Ok-write_start-clause-kept : goal.returns-in-Ok-write_start-clause-kept
returns-in-Ok-write_start-clause-kept g c = λ told.
    let meaning = g.D.Disk.meaning in
    let j = c.args.journal in
    let kept = c.args.engine.state.kept in
    let next = (start kept c.now-reading.result).kept in
    let is : c.in-Ok.framed.items ≡ c.deref.result.now = sym c.deref.ensures.value in
    let carries = subst (λ (b : List ℕ). CarriesTo kept (Some b) next) is c.in-Ok.ensures.carries in
    let n = c.write_start.new.journal in
    subst (λ (s : State). IsKeptOn s.kept (meaning (disk_of n)) (seat_of n)) (sym c.in-Ok.ensures.state)
    (c.in-Ok-write_start.ensures.kept told kept next (c.requires.read told) carries)

pub returns-in-Ok-write_start-clause-any_moment : goal.returns-in-Ok-write_start-clause-any_moment
returns-in-Ok-write_start-clause-any_moment g c = λ told gated.
    let j = c.args.journal in
    let kept = c.args.engine.state.kept in
    let next = (start kept c.now-reading.result).kept in
    let is : c.in-Ok.framed.items ≡ c.deref.result.now = sym c.deref.ensures.value in
    let carries = subst (λ (b : List ℕ). CarriesTo kept (Some b) next) is c.in-Ok.ensures.carries in
    c.write_start.ensures.any_moment told kept next (c.requires.read told) carries gated

pub returns-in-Ok-write_start-clause-cost : goal.returns-in-Ok-write_start-clause-cost
returns-in-Ok-write_start-clause-cost g c =
    let meaning = g.D.Disk.meaning in
    let j = c.args.journal in
    let kept = c.args.engine.state.kept in
    let n = c.write_start.new.journal in
    let is : c.deref.result.now ≡ framed (start_frame kept c.now-reading.result) = c.deref.ensures.value ∙ c.in-Ok.ensures.framed in
    start_cost kept c.now-reading.result (meaning (disk_of j)).written (meaning (disk_of n)).written c.deref.result.now is c.write_start.ensures.cost

pub returns-in-Ok-write_start-clause-cause : goal.returns-in-Ok-write_start-clause-cause
returns-in-Ok-write_start-clause-cause g c = c.in-Ok-write_start.ensures.cause.done

pub returns-clause-time : goal.returns-clause-time
returns-clause-time g c = rw c.shut-in-Err-write_start.ensures c.write_start.ensures.time

pub returns-clause-cost : goal.returns-clause-cost
returns-clause-cost g c =
    let meaning = g.D.Disk.meaning in
    let j = c.args.journal in
    let kept = c.args.engine.state.kept in
    let n = c.write_start.new.journal in
    let is : c.deref.result.now ≡ framed (start_frame kept c.now-reading.result) = c.deref.ensures.value ∙ c.in-Ok.ensures.framed in
    rw c.shut-in-Err-write_start.ensures (start_cost kept c.now-reading.result (meaning (disk_of j)).written (meaning (disk_of n)).written c.deref.result.now is c.write_start.ensures.cost)

pub returns-clause-cause : goal.returns-clause-cause
returns-clause-cause g c =
    let cause = c.in-Err-write_start.ensures.cause in
    rw c.shut-in-Err-write_start.ensures (cause.never_falls, cause.failed refl)

pub returns-then-instance-ge-INSTANCES-clause-in_vain : goal.returns-then-instance-ge-INSTANCES-clause-in_vain
returns-then-instance-ge-INSTANCES-clause-in_vain g c = (refl, c.shut.ensures)

pub returns-in-Err-clause-in_vain : goal.returns-in-Err-clause-in_vain
returns-in-Err-clause-in_vain g c = (inr (c.now-reading.result, c.now-reading.ensures), c.shut-in-Err.ensures)

pub returns-clause-in_vain : goal.returns-clause-in_vain
returns-clause-in_vain g c = (
  c.now-reading.result,
  c.now-reading.ensures,
  λ told gated.
      let j = c.args.journal in
      let kept = c.args.engine.state.kept in
      let next = (start kept c.now-reading.result).kept in
      let is : c.in-Ok.framed.items ≡ c.deref.result.now = sym c.deref.ensures.value in
      let carries = subst (λ (b : List ℕ). CarriesTo kept (Some b) next) is c.in-Ok.ensures.carries in
      rw c.shut-in-Err-write_start.ensures (c.write_start.ensures.any_moment told kept next (c.requires.read told) carries gated),
)
