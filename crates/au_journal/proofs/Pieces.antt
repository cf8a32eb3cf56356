-- Bytes of an area that are read in pieces.
use Rattle.std.proofs.Common.{◌≡◌, inl, inr, ℕ, ◌+◌, ◌-◌, ◌<◌, ◌≤◌, min, List, [], ◌++◌, length, take, drop, sym, ◌∙◌, ap, arith, append_assoc, length-append, length-take, length-drop, take-take, take-add, drop-drop}
use Rattle.std.proofs.lemmas.List.{drop-take, take_at, drop_at, take_all, drop_all, append-nil}
use Rattle.std.proofs.lemmas.Bool.{cases_order}

-- held bytes of an area, from a later place on
shown_from : (bytes area : List ℕ) (filled place at k m : ℕ) → take filled bytes ≡ take filled (drop place area) → place + k ≡ at → k + m ≡ filled
    → drop k (take filled bytes) ≡ take m (drop at area)
shown_from bytes area filled place at k m shown on parts =
    ap (λ (l : List ℕ). drop k l) shown ∙ ap (λ (n : ℕ). drop k (take n (drop place area))) (sym parts) ∙ drop-take k m (drop place area)
    ∙ ap (λ (l : List ℕ). take m l) (drop-drop k place area ∙ ap (λ (n : ℕ). drop n area) on)

take_none : (a b : List ℕ) (n : ℕ) → n ≡ 0 → take n a ≡ take n b
take_none a b n none = ap (λ (k : ℕ). take k a) none ∙ sym (ap (λ (k : ℕ). take k b) none)

-- a front of what a window holds from a place on
module _ (bytes area held : List ℕ) (filled place at count : ℕ) (shown : take filled bytes ≡ take filled (drop place area)) (short : count ≤ length held) where
  long : held ≡ drop (at - place) (take filled bytes) → length held ≡ min filled (length bytes) - (at - place)
  long is = ap length is ∙ length-drop (at - place) (take filled bytes) ∙ ap (λ (n : ℕ). n - (at - place)) (length-take filled bytes)

  some_reached : place ≤ at → held ≡ drop (at - place) (take filled bytes) → 0 < count → take count held ≡ take count (drop at area)
  some_reached le is some =
      ap (λ (l : List ℕ). take count l) (is ∙ shown_from bytes area filled place at (at - place) (filled - (at - place)) shown (omega (arith, le)) (omega (arith, long is, short, some)))
      ∙ take-take count (filled - (at - place)) (drop at area) (omega (arith, long is, short, some))

  reached : place ≤ at → held ≡ drop (at - place) (take filled bytes) → take count held ≡ take count (drop at area)
  reached le is = elim (cases_order count 0) [
    | inl none ↦ take_none held (drop at area) count none
    | inr (inl below) ↦ absurd (omega (arith, below))
    | inr (inr some) ↦ some_reached le is some
  ]

  pub front_shown : (place ≤ at → held ≡ drop (at - place) (take filled bytes)) → (at < place → held ≡ []) → take count held ≡ take count (drop at area)
  front_shown from before = elim (cases_order at place) [
    | inl same ↦ let le : place ≤ at = omega (arith, same) in reached le (from le)
    | inr (inl lt) ↦ take_none held (drop at area) count (let none : length held ≡ 0 = ap length (before lt) in omega (arith, none, short))
    | inr (inr gt) ↦ let le : place ≤ at = omega (arith, gt) in reached le (from le)
  ]

-- a piece in a room, and one behind it
module _ (d room mid rest : List ℕ) (held more : ℕ) (is : mid ≡ take held d ++ drop held room) (size : length mid ≡ length room) (le : held ≤ length room) where
  piece : length (take held d) ≡ held
  piece = omega (arith, ap length is, length-append (take held d) (drop held room), length-drop held room, size, le)

  front : take held mid ≡ take held d
  front = ap (λ (l : List ℕ). take held l) is ∙ take_at (take held d) (drop held room) held piece

  behind : drop held mid ≡ drop held room
  behind = ap (λ (l : List ℕ). drop held l) is ∙ drop_at (take held d) (drop held room) held piece

  pub joined : rest ≡ take more (drop held d) ++ drop more (take (length mid - held) (drop held mid))
      → take held mid ++ (rest ++ drop (length mid - held) (drop held mid)) ≡ take (held + more) d ++ drop (held + more) room
  joined read =
      ap (λ (l : List ℕ). l ++ (rest ++ drop (length mid - held) (drop held mid))) front
      ∙ ap (λ (l : List ℕ). take held d ++ (rest ++ l)) (drop_all (length mid - held) (drop held mid) (omega (arith, length-drop held mid)))
      ∙ ap (λ (l : List ℕ). take held d ++ l) (append-nil rest ∙ read
      ∙ ap (λ (l : List ℕ). take more (drop held d) ++ drop more l) (take_all (length mid - held) (drop held mid) (omega (arith, length-drop held mid)) ∙ behind)
      ∙ ap (λ (l : List ℕ). take more (drop held d) ++ l) (drop-drop more held room))
      ∙ sym (append_assoc (take held d) (take more (drop held d)) (drop (held + more) room))
      ∙ ap (λ (l : List ℕ). l ++ drop (held + more) room) (sym (take-add held more d))
