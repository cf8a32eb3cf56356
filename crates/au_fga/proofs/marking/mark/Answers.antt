use Rattle.std.proofs.Common.{◌≡◌, ◌+◌, ◌∙◌, ◌++◌, ◌||◌, ℕ, suc, Bool, false, List, ap, arith, drop, get_or, map, set, take}
use Rattle.au_fga.specs.declared.candidates.Candidate.{Candidate}
use Rattle.au_fga.specs.descent.Candidates.{hits}
use Rattle.au_fga.proofs.Marked.{marked_all, marked_at, marked_next}
use Rattle.au_fga.proofs.marking.mark.Goals as goal

pub loop-place-preserved : goal.loop-place-preserved
loop-place-preserved c = λ before is.
    let after = λ (x : Candidate). before x || hits c.args.session.now c.args.table.now c.args.rows.now x in
    let candidates = c.args.candidates.now in
    let i = c.loop-place.place in
    let x = c.index-candidates-place.result in
    let so_far = c.loop-place.invariant before is in
    let here : get_or c.loop-place.met i false ≡ before x =
    ap (λ (met : List Bool). get_or met i false) so_far ∙ marked_at before after candidates i x false c.loop-place-test.true c.index-candidates-place.is in
    let next : suc i ≡ i + 1 = omega arith in
    ap (λ (met : List Bool). set met i c.is_marked.result) so_far
    ∙ marked_next before after candidates i x c.is_marked.result c.loop-place-test.true c.index-candidates-place.is
    (c.is_marked.ensures ∙ ap (λ (b : Bool). b || hits c.args.session.now c.args.table.now c.args.rows.now x) here)
    ∙ ap (λ (n : ℕ). map after (take n candidates) ++ map before (drop n candidates)) next

pub returns : goal.returns
returns c = λ before is.
    c.loop-place.invariant before is
    ∙ marked_all before (λ (x : Candidate). before x || hits c.args.session.now c.args.table.now c.args.rows.now x) c.args.candidates.now c.loop-place.place c.loop-place-test.false
