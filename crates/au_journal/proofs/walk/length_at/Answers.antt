use Rattle.std.proofs.Common.{◌≡◌, ◌⊎◌, inl, inr, ℕ, ◌+◌, ◌<◌, ◌≤◌, ◌∙◌, min, length, length-drop, drop, refl, sym, ap, arith}
use Rattle.au_io.specs.Areas.{area_of}
use Rattle.au_journal.proofs.Walking.{open_there, whole_read, has_frame, broken_there}
use Rattle.au_journal.proofs.walk.length_at.Goals as goal
use Rattle.au_journal.proofs.walk.length_at.Goals.{then-count-lt-FRAME_HEAD-via-then-count-lt-FRAME_HEAD, then-count-lt-FRAME_HEAD-via-else-count-lt-FRAME_HEAD+then-n-eq0, then-count-lt-FRAME_HEAD-via-else-count-lt-FRAME_HEAD+else-n-eq0+then-n-saturating_sub}

pub returns-then-count-lt-FRAME_HEAD-clause-why : goal.returns-then-count-lt-FRAME_HEAD-clause-why
returns-then-count-lt-FRAME_HEAD-clause-why g c = λ told sized.
    let area = area_of c.args.area (g.D.Disk.meaning c.args.disk.now).reads in
    let d = drop c.args.used area in
    let n = c.length_in-n.result in
    let some = c.in_ok-count.ensures.all told ∙ ap (λ (n : ℕ). min 9 n) (sym (length-drop c.args.used area)) in
    let bytes = c.in_ok-count.ensures.bytes told in
    let wrong : (c.in_ok-count.count < 9) ⊎ ((n ≡ 0) ⊎ (length d < 9 + n)) = elim c.then-count-lt-FRAME_HEAD.branch [
      | then-count-lt-FRAME_HEAD-via-then-count-lt-FRAME_HEAD w ↦ inl w.if-count-lt-FRAME_HEAD.true
      | then-count-lt-FRAME_HEAD-via-else-count-lt-FRAME_HEAD+then-n-eq0 w ↦ inr (inl w.if-n-eq0.true)
      | then-count-lt-FRAME_HEAD-via-else-count-lt-FRAME_HEAD+else-n-eq0+then-n-saturating_sub w ↦
          inr (inr (omega (arith, w.if-n-saturating_sub.true, w.saturating_sub-else-n-eq0.ensures, w.saturating_sub.ensures, sized, length-drop c.args.used area, w.if-count-lt-FRAME_HEAD.false, some)))
    ] in (
      refl,
      refl,
      broken_there d c.read.new.room _ c.in_ok-count.count n some refl bytes
          (omega (arith, sized, c.ranges.size.fits, length-drop c.args.used area)) c.length_in-n.type_inv c.length_in-n.ensures
          (open_there d c.read.new.room _ c.in_ok-count.count some bytes c.if-count-eq0.false c.if-room.false) wrong,
    )

pub returns-clause-next : goal.returns-clause-next
returns-clause-next g c = λ told sized.
    let area = area_of c.args.area (g.D.Disk.meaning c.args.disk.now).reads in
    let d = drop c.args.used area in
    let n = c.length_in-n.result in
    let some = c.in_ok-count.ensures.all told ∙ ap (λ (n : ℕ). min 9 n) (sym (length-drop c.args.used area)) in
    let nine : c.in_ok-count.count ≡ 9 = omega (arith, c.in_ok-count.ensures.count, c.if-count-lt-FRAME_HEAD.false) in
    let bytes = whole_read d c.read.new.room _ c.in_ok-count.count nine refl (c.in_ok-count.ensures.bytes told) in
    let inside : 9 + n ≤ length d =
    omega (arith, sized, c.if-n-saturating_sub.false, c.saturating_sub-else-n-eq0.ensures, c.saturating_sub.ensures, nine, some, length-drop c.args.used area) in
    has_frame d c.read.new.room n bytes c.if-room.false c.length_in-n.ensures inside (omega (arith, c.if-n-eq0.false))
