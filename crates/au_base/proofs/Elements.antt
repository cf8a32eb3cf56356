-- A list all of whose elements are written over is what was written.
use Rattle.std.proofs.Common.{◌≡◌, List, ◌++◌, length, take, drop, ap, sym, ◌∙◌}
use Rattle.std.proofs.Math.Seq.{take-append_seam}
use Rattle.au_base.specs.Elements.{rewritten}

pub rewritten_whole : {X : Type 0} (elements written : List X) → length written ≡ length elements → rewritten elements written ≡ written
rewritten_whole elements written same = ap (λ n. take n (written ++ drop (length written) elements)) (sym same) ∙ take-append_seam written (drop (length written) elements)
