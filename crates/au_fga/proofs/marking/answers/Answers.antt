use Rattle.std.proofs.Common.{◌≡◌, ◌+◌, ◌∙◌, ◌++◌, ◌||◌, ℕ, suc, List, ap, arith, drop, length, take}
use Rattle.std.specs.Borrow.{Bor}
use Rattle.std.proofs.Math.Seq.{take-append_seam}
use Rattle.au_base.specs.declared.cell.Cell.{Cell}
use Rattle.au_fga.specs.declared.candidates.Candidate.{Candidate}
use Rattle.au_fga.specs.descent.Candidates.{answer, hits}
use Rattle.au_fga.specs.descent.Comparing.{passes}
use Rattle.au_fga.specs.descent.Rows.{some_of}
use Rattle.au_fga.proofs.Marked.{any_more, cleared, map_alike}
use Rattle.au_fga.proofs.marking.answers.Goals as goal

pub loop-table-init : goal.loop-table-init
loop-table-init c = cleared c.args.candidates.now c.resize.new.self.items _ _ _ c.in_ok-resize.ensures.items c.new-met.ensures.items (omega arith)

pub loop-table-preserved : goal.loop-table-preserved
loop-table-preserved c =
    let session = c.args.session.now in
    let i = c.loop-table.table-index in
    let entry = c.loop-table-item.result in
    let before = answer session (take i c.args.touched.now) in
    let len : c.loop-table.met.len ≡ length c.mark_in_pieces.new.met = omega (arith, ap length c.as_mut_slice.ensures.value) in
    let next : suc i ≡ i + 1 = omega arith in
    let new = c.mark_in_pieces.new.met in
    let past = drop (length new) c.loop-table.met.items in
    ap (λ (n : ℕ). take n (new ++ past)) len
    ∙ take-append_seam new past
    ∙ c.mark_in_pieces.ensures before (c.as_mut_slice.ensures.value ∙ c.loop-table.invariant)
    ∙ map_alike (λ (x : Candidate). before x || hits session entry.0 c.as_slice.result.now x) (answer session (take (i + 1) c.args.touched.now))
    (λ x. ap (λ (rows : List (Bor (List Cell))). before x || hits session entry.0 rows x) c.as_slice.ensures
    ∙ any_more (some_of (passes session x.test) x.name.now.table) c.args.touched.now i entry c.loop-table-test.true c.loop-table-item.is
    ∙ ap (λ (n : ℕ). answer session (take n c.args.touched.now) x) next)
    c.args.candidates.now
