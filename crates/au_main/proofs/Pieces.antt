-- Parts of a chunk.
use Rattle.std.proofs.Common.{◌≡◌, ℕ, ◌+◌, ◌-◌, ◌≤◌, List, ◌∷◌, ◌++◌, length, take, drop, ap, ◌∙◌, sym, arith, true, false, length-drop, length-take}
use Rattle.std.specs.List.{slice_range}
use Rattle.std.proofs.lemmas.List.{nil_from_length, drop-take, drop-drop}
use Rattle.au_main.specs.Lines.{HasNoEnd, LF}
use Rattle.au_main.specs.descent.Stretch.{IsMoved}

range_is : (xs : List ℕ) (front end : ℕ) → front ≤ end → slice_range xs front end ≡ drop front (take end xs)
range_is xs front end within =
    let e : front + (end - front) ≡ end = omega arith in
    sym (ap (λ n. drop front (take n xs)) (sym e) ∙ drop-take front (end - front) xs)

pub ended-moved : (xs old bytes line longer : List ℕ) (front end at : ℕ) → front ≤ end → old ≡ drop front (take end xs) → bytes ≡ slice_range xs front end
    → HasNoEnd (take at bytes) → bytes ≡ take at bytes ++ LF ∷ drop (at + 1) bytes → longer ≡ line ++ take at bytes → IsMoved old (drop (front + (at + 1)) (take end xs)) line longer true
ended-moved xs old bytes line longer front end at within old_is bytes_is whole split longer_is =
    let same : bytes ≡ drop front (take end xs) = bytes_is ∙ range_is xs front end within in
    let rest : drop (at + 1) bytes ≡ drop (front + (at + 1)) (take end xs) = ap (drop (at + 1)) same ∙ drop-drop (at + 1) front (take end xs) in
    (take at bytes, whole, old_is ∙ sym same ∙ split ∙ ap (λ l. take at bytes ++ LF ∷ l) rest, longer_is)

pub all-moved : (xs old bytes line longer : List ℕ) (front end : ℕ) → front ≤ end → old ≡ drop front (take end xs) → bytes ≡ slice_range xs front end
    → HasNoEnd bytes → longer ≡ line ++ bytes → IsMoved old (drop end (take end xs)) line longer false
all-moved xs old bytes line longer front end within old_is bytes_is whole longer_is =
    let same : bytes ≡ old = bytes_is ∙ range_is xs front end within ∙ sym old_is in
    let short : length (drop end (take end xs)) ≡ 0 = simp (length-drop, length-take) (omega arith) in
    (rw (sym same) whole, nil_from_length (drop end (take end xs)) short, longer_is ∙ ap (λ l. line ++ l) same)
