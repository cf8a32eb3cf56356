-- What a torn write leaves of an area, and what a whole one makes of it.
use Rattle.std.proofs.Common.{◌≡◌, ℕ, ◌+◌, ◌-◌, ◌<◌, ◌≤◌, List, [], ◌∷◌, ◌++◌, length, take, drop, get_or, sym, ◌∙◌, ap, arith, append_assoc, length-append, length-drop, length-take, take-append-drop, drop-drop}
use Rattle.std.proofs.lemmas.List.{take_at, drop_at, drop_more, append-nil}
use Rattle.au_io.specs.Areas.{overwritten, Torn}
use Rattle.au_journal.specs.Images.{Closed, Staged, Doubted, TornEnd}

snoc_split : (front : List ℕ) (gate : ℕ) (tail : List ℕ) → front ++ gate ∷ tail ≡ (front ++ gate ∷ []) ++ tail
snoc_split front gate tail = sym (append_assoc front (gate ∷ []) tail)

length_snoc : (front : List ℕ) (gate : ℕ) → length (front ++ gate ∷ []) ≡ length front + 1
length_snoc front gate = length-append front (gate ∷ [])

module _ (front : List ℕ) (used : ℕ) (place : used ≡ length front) where
  take_gate : (c : List ℕ) (gate : ℕ) (tail : List ℕ) → c ≡ front ++ gate ∷ tail → take (used + 1) c ≡ front ++ gate ∷ []
  take_gate c gate tail split = ap (λ (l : List ℕ). take (used + 1) l) (split ∙ snoc_split front gate tail) ∙ take_at (front ++ gate ∷ []) tail (used + 1) (omega (arith, place, length_snoc front gate))

  drop_gate : (c : List ℕ) (gate : ℕ) (tail : List ℕ) → c ≡ front ++ gate ∷ tail → drop (used + 1) c ≡ tail
  drop_gate c gate tail split = ap (λ (l : List ℕ). drop (used + 1) l) (split ∙ snoc_split front gate tail) ∙ drop_at (front ++ gate ∷ []) tail (used + 1) (omega (arith, place, length_snoc front gate))

  take_front : (c : List ℕ) (gate : ℕ) (tail : List ℕ) → c ≡ front ++ gate ∷ tail → take used c ≡ front
  take_front c gate tail split = ap (λ (l : List ℕ). take used l) split ∙ take_at front (gate ∷ tail) used (sym place)

  pub within : (c : List ℕ) (gate : ℕ) (tail : List ℕ) → c ≡ front ++ gate ∷ tail → used < length c
  within c gate tail split = omega (arith, place, ap length split, length-append front (gate ∷ tail))

  -- a write behind the gate
  pub behind_torn : (n : ℕ) (d c : List ℕ) → Closed front d → Torn (used + 1) n d c → Closed front c
  behind_torn n d c closed torn = record {
    gate = closed.gate;
    tail = drop (used + 1) c;
    split = sym (take-append-drop (used + 1) c) ∙ ap (λ (l : List ℕ). l ++ drop (used + 1) c) (torn.before ∙ take_gate d closed.gate closed.tail closed.split) ∙ append_assoc front (closed.gate ∷ []) (drop (used + 1) c);
    shut = closed.shut;
  }

  pub behind_done : (bytes d : List ℕ) → Closed front d → Staged front bytes (overwritten d (used + 1) bytes)
  behind_done bytes d closed = record {
    gate = closed.gate;
    tail = drop (used + 1 + length bytes) d;
    split = ap (λ (l : List ℕ). l ++ bytes ++ drop (used + 1 + length bytes) d) (take_gate d closed.gate closed.tail closed.split)
        ∙ ap (λ (l : List ℕ). l ++ drop (used + 1 + length bytes) d) (append_assoc front (closed.gate ∷ []) bytes);
    shut = closed.shut;
  }

  pub regroup : (gate : ℕ) (bytes tail : List ℕ) → front ++ gate ∷ bytes ++ tail ≡ front ++ gate ∷ (bytes ++ tail)
  regroup gate bytes tail = append_assoc front (gate ∷ bytes) tail

  -- a write of the gate
  pub gate_torn : (bytes d c : List ℕ) → Doubted front bytes d → Torn used 1 d c → Doubted front bytes c
  gate_torn bytes d c doubted torn =
      let is = doubted.split ∙ regroup doubted.gate bytes doubted.tail in
      let gate = get_or c used 0 in
      let long : used < length d = within d doubted.gate (bytes ++ doubted.tail) is in
      let rest : drop used c ≡ gate ∷ (bytes ++ doubted.tail) =
      drop_more c used 0 (omega (arith, long, torn.no_shorter)) ∙ ap (λ (l : List ℕ). gate ∷ l) (torn.after ∙ drop_gate d doubted.gate (bytes ++ doubted.tail) is) in
      record {
        gate = gate;
        tail = doubted.tail;
        split = sym (take-append-drop used c) ∙ ap (λ (l : List ℕ). l ++ drop used c) (torn.before ∙ take_front d doubted.gate (bytes ++ doubted.tail) is)
            ∙ ap (λ (l : List ℕ). front ++ l) rest ∙ sym (regroup gate bytes doubted.tail);
      }

  pub opened : (inner d : List ℕ) → Staged front (inner ++ 0 ∷ []) d → Closed (front ++ 165 ∷ inner) (overwritten d used (165 ∷ []))
  opened inner d staged =
      let bytes = inner ++ 0 ∷ [] in
      let is = staged.split ∙ regroup staged.gate bytes staged.tail in
      record {
        gate = 0;
        tail = staged.tail;
        split = ap (λ (l : List ℕ). l ++ (165 ∷ []) ++ drop (used + 1) d) (take_front d staged.gate (bytes ++ staged.tail) is)
            ∙ ap (λ (l : List ℕ). front ++ (165 ∷ []) ++ l) (drop_gate d staged.gate (bytes ++ staged.tail) is)
            ∙ append_assoc front (165 ∷ []) (bytes ++ staged.tail)
            ∙ ap (λ (l : List ℕ). front ++ 165 ∷ l) (append_assoc inner (0 ∷ []) staged.tail)
            ∙ sym (append_assoc front (165 ∷ inner) (0 ∷ staged.tail));
        shut = omega arith;
      }

  pub closed_again : (bytes d : List ℕ) → Doubted front bytes d → Closed front (overwritten d used (0 ∷ []))
  closed_again bytes d doubted =
      let is = doubted.split ∙ regroup doubted.gate bytes doubted.tail in
      record {
        gate = 0;
        tail = bytes ++ doubted.tail;
        split = ap (λ (l : List ℕ). l ++ (0 ∷ []) ++ drop (used + 1) d) (take_front d doubted.gate (bytes ++ doubted.tail) is)
            ∙ ap (λ (l : List ℕ). front ++ (0 ∷ []) ++ l) (drop_gate d doubted.gate (bytes ++ doubted.tail) is)
            ∙ append_assoc front (0 ∷ []) (bytes ++ doubted.tail);
        shut = omega arith;
      }

pub staged_is_doubted : (front bytes c : List ℕ) → Staged front bytes c → Doubted front bytes c
staged_is_doubted front bytes c staged = record { gate = staged.gate; tail = staged.tail; split = staged.split }

pub staged_is_closed : (front bytes c : List ℕ) → Staged front bytes c → Closed front c
staged_is_closed front bytes c staged = record { gate = staged.gate; tail = bytes ++ staged.tail; split = staged.split ∙ append_assoc front (staged.gate ∷ bytes) staged.tail; shut = staged.shut }

-- the end of an area that stops behind the front
pub bare_is_torn : (front c : List ℕ) → c ≡ front → TornEnd front c
bare_is_torn front c is = record { tail = []; split = is ∙ sym (append-nil front); short = omega arith }

module _ (front : List ℕ) (used : ℕ) (place : used ≡ length front) where
  take_end : (d : List ℕ) → TornEnd front d → take used d ≡ front
  take_end d end = ap (λ (l : List ℕ). take used l) end.split ∙ take_at front end.tail used (sym place)

  length_end : (d : List ℕ) (end : TornEnd front d) → length d ≡ used + length end.tail
  length_end d end = omega (arith, place, ap length end.split, length-append front end.tail)

  pub end_within : (d : List ℕ) → TornEnd front d → used ≤ length d
  end_within d end = omega (arith, length_end d end)

  pub end_torn : (d c : List ℕ) → TornEnd front d → Torn used 1 d c → TornEnd front c
  end_torn d c end torn = record {
    tail = drop used c;
    split = sym (take-append-drop used c) ∙ ap (λ (l : List ℕ). l ++ drop used c) (torn.before ∙ take_end d end);
    short = omega (arith, length_end d end, end.short, torn.no_longer, length-drop used c);
  }

  pub end_closed : (d : List ℕ) → TornEnd front d → Closed front (overwritten d used (0 ∷ []))
  end_closed d end = record {
    gate = 0;
    tail = drop (used + 1) d;
    split = ap (λ (l : List ℕ). l ++ (0 ∷ []) ++ drop (used + 1) d) (take_end d end) ∙ append_assoc front (0 ∷ []) (drop (used + 1) d);
    shut = omega arith;
  }

-- the framed bytes behind the gate, and then the gate
pub frame_over : (a framed : List ℕ) (used : ℕ) → used < length a → overwritten (overwritten a (used + 1) framed) used (165 ∷ []) ≡ overwritten a used (165 ∷ framed)
frame_over a framed used short =
    let front = take used a in
    let place : used ≡ length front = omega (arith, short, length-take used a) in
    let gate = get_or a used 0 in
    let split : a ≡ front ++ gate ∷ drop (used + 1) a = sym (take-append-drop used a) ∙ ap (λ (l : List ℕ). front ++ l) (drop_more a used 0 short) in
    let mid = overwritten a (used + 1) framed in
    let tail = framed ++ drop (used + 1 + length framed) a in
    let split_mid : mid ≡ front ++ gate ∷ tail =
    append_assoc (take (used + 1) a) framed (drop (used + 1 + length framed) a)
    ∙ ap (λ (l : List ℕ). l ++ tail) (take_gate front used place a gate (drop (used + 1) a) split) ∙ append_assoc front (gate ∷ []) tail in
    ap (λ (l : List ℕ). l ++ (165 ∷ []) ++ drop (used + 1) mid) (take_front front used place mid gate tail split_mid)
    ∙ ap (λ (l : List ℕ). (front ++ 165 ∷ []) ++ l) (drop_gate front used place mid gate tail split_mid)
    ∙ append_assoc front (165 ∷ []) tail
    ∙ ap (λ (n : ℕ). front ++ 165 ∷ (framed ++ drop n a)) (let same : used + 1 + length framed ≡ used + length (165 ∷ framed) = omega arith in same)
    ∙ sym (append_assoc front (165 ∷ framed) (drop (used + length (165 ∷ framed)) a))

-- what is written over a byte that was written at that place
pub over_again : (a bytes : List ℕ) (used : ℕ) → used ≤ length a → 1 ≤ length bytes → overwritten (overwritten a used (0 ∷ [])) used bytes ≡ overwritten a used bytes
over_again a bytes used short some =
    let front = take used a in
    let place : used ≡ length front = omega (arith, short, length-take used a) in
    let mid = overwritten a used (0 ∷ []) in
    let tail = drop (used + 1) a in
    let split : mid ≡ front ++ 0 ∷ tail = append_assoc front (0 ∷ []) tail in
    let n = length bytes in
    ap (λ (l : List ℕ). l ++ bytes ++ drop (used + n) mid) (take_front front used place mid 0 tail split)
    ∙ ap (λ (l : List ℕ). (front ++ bytes) ++ l)
    (ap (λ (k : ℕ). drop k mid) (let same : used + n ≡ (used + 1) + (n - 1) = omega (arith, some) in same) ∙ sym (drop-drop (n - 1) (used + 1) mid)
    ∙ ap (λ (l : List ℕ). drop (n - 1) l) (drop_gate front used place mid 0 tail split) ∙ drop-drop (n - 1) (used + 1) a
    ∙ ap (λ (k : ℕ). drop k a) (let same : (used + 1) + (n - 1) ≡ used + n = omega (arith, some) in same))
