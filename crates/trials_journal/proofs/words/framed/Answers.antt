use Rattle.std.proofs.Common.{◌≡◌, ◌+◌, ◌∷◌, ◌++◌, [], List, ℕ, length, append_assoc, ap, arith, refl, ◌∙◌}
use Rattle.std.specs.Int.{w64, to_be_bytes}
use Rattle.au_journal.specs.Frames.{spelled}
use Rattle.au_journal.specs.Seats.{IsFramed}
use Rattle.trials_journal.proofs.words.framed.Goals as goal

parts_framed : (bytes : List ℕ) (n kind : ℕ) (rest : List ℕ) → n ≡ length rest + 1
    → bytes ≡ ((([] ++ to_be_bytes w64 n) ++ kind ∷ []) ++ rest) ++ 0 ∷ [] → IsFramed bytes (kind ∷ rest)
unfolding spelled
parts_framed bytes n kind rest size is =
    let same : n ≡ length (kind ∷ rest) = omega arith in
    record { is = is ∙ ap (λ (m : ℕ). ((([] ++ to_be_bytes w64 m) ++ kind ∷ []) ++ rest) ++ 0 ∷ []) same ∙ simp append_assoc; some = omega arith }

joined_parts : (x0 x1 x2 x3 x4 eight bytes rest : List ℕ) (kind : ℕ) → x0 ≡ [] → x1 ≡ x0 ++ eight → eight ≡ bytes → x2 ≡ x1 ++ kind ∷ []
    → x3 ≡ x2 ++ rest → x4 ≡ x3 ++ 0 ∷ [] → x4 ≡ ((([] ++ bytes) ++ kind ∷ []) ++ rest) ++ 0 ∷ []
joined_parts x0 x1 x2 x3 x4 eight bytes rest kind a b e c d f = cc

pub returns : goal.returns
returns c =
    let n = length c.args.rest.now + 1 in (
      c.args.first ∷ c.args.rest.now,
      parts_framed _ n c.args.first c.args.rest.now refl
          (joined_parts c.new-bytes.result.items c.extend_from_slice.new.self.items c.push.new.self.items c.extend_from_slice-2.new.self.items c.push-2.new.self.items
          c.to_be_bytes.result (to_be_bytes w64 n) c.args.rest.now c.args.first c.new-bytes.ensures.items c.in_ok-extend_from_slice.ensures.items
          c.to_be_bytes.ensures c.in_ok-push.ensures.items c.in_ok-extend_from_slice-2.ensures.items c.in_ok-push-2.ensures.items),
    )
