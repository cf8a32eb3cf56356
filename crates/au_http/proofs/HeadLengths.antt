-- The end of a head is found within the limit.
use Rattle.std.proofs.Common.{◌≡◌, ◌∙◌, ◌+◌, ◌≤◌, ◌-◌, ℕ, zero, suc, List, [], ◌∷◌, ◌++◌, append_assoc, length, length-append, length-take-le, take, drop, take-append-drop, min, Option, Some, None, MatchOption, refl, ap, sym, subst, arith}
use Rattle.std.proofs.lemmas.List.{take_all, take-append-le}
use Rattle.au_http.specs.declared.head_end.Place.TheVariants.{Start}
use Rattle.au_http.specs.HeadEnds.{HasHead, HasNoHead, IsWholeHead, head_limit}
use Rattle.au_http.specs.HeadWalk.{end_from}
use Rattle.au_http.proofs.HeadWalks.{ends_found, whole_at}

pub take_front : (head rest : List ℕ) → take (length head) (head ++ rest) ≡ head
take_front head rest = take-append-le (length head) head rest (omega arith) ∙ take_all (length head) head (omega arith)

pub drop_front : (head rest : List ℕ) → drop (length head) (head ++ rest) ≡ rest
drop_front [] rest = refl
drop_front (b ∷ head) rest = drop_front head rest

pub take_past : (head rest : List ℕ) (k : ℕ) → length head ≤ k → take k (head ++ rest) ≡ head ++ take (k - length head) rest
take_past [] rest k h = ap (λ j. take j rest) (omega arith)
take_past (b ∷ head) rest zero h = absurd (omega arith)
take_past (b ∷ head) rest (suc k) h = ap (λ x. b ∷ x) (take_past head rest k (omega arith) ∙ ap (λ j. head ++ take j rest) (omega arith))

found_at : (bytes : List ℕ) (k n : ℕ) → k ≤ head_limit → k ≤ length bytes → end_from Start (take k bytes) ≡ Some n
    → HasHead bytes (take n bytes) (drop n bytes)
found_at bytes k n small within e =
    let at = ends_found (take k bytes) Start n e in
    let whole = at.are in
    let tail = at.rest ++ drop k bytes in
    let same : bytes ≡ at.head ++ tail =
    sym (take-append-drop k bytes) ∙ ap (λ f. f ++ drop k bytes) at.are ∙ append_assoc at.head at.rest (drop k bytes) in
    let long = at.long in
    let front : take n bytes ≡ at.head =
    ap (take n) same ∙ ap (λ j. take j (at.head ++ tail)) (sym at.long) ∙ take_front at.head tail in
    let fits : length at.head ≤ k = omega (arith, ap length at.are, length-append at.head at.rest, length-take-le k bytes within) in
    record {
      bytes_are = sym (take-append-drop n bytes);
      whole = subst IsWholeHead (sym front) at.follows;
      capped = omega (arith, ap length front);
    }

none_at : (bytes : List ℕ) (k : ℕ) → (k ≡ min (length bytes) head_limit) → end_from Start (take k bytes) ≡ None → HasNoHead bytes
none_at bytes k is e head rest has =
    let long : length bytes ≡ length head + length rest = ap length has.bytes_are ∙ length-append head rest in
    let capped = has.capped in
    let inside : length head ≤ k = omega arith in
    let front : take k bytes ≡ head ++ take (k - length head) rest = ap (take k) has.bytes_are ∙ take_past head rest k inside in
    let there = whole_at head has.whole (take (k - length head) rest) in
    let clash : None ≡ Some (length head) = sym e ∙ ap (end_from Start) front ∙ there in
    absurd (cc)

pub decided : (bytes : List ℕ) (k : ℕ) (o : Option ℕ) → k ≡ min (length bytes) head_limit → o ≡ end_from Start (take k bytes)
    → MatchOption o (HasNoHead bytes) (λ n. HasHead bytes (take n bytes) (drop n bytes))
decided bytes k None is e = none_at bytes k is (sym e)
decided bytes k (Some n) is e = found_at bytes k n (omega arith) (omega arith) (sym e)
