-- An area holds one list of bodies, and ends where they end or doesn't.
use Rattle.std.proofs.Common.{◌≡◌, ℕ, ◌+◌, ◌<◌, ◌^◌, List, [], ◌∷◌, ◌++◌, length, take, drop, refl, sym, ◌∙◌, ap, subst, arith, append_assoc, length-append}
use Rattle.std.proofs.lemmas.List.{take_at, drop_at, append-nil}
use Rattle.std.specs.Int.{w64, to_be_bytes}
use Rattle.std.specs.List.{flat_map}
use Rattle.au_io.specs.declared.disk.Area.{Area}
use Rattle.au_io.specs.declared.disk.Area.TheVariants.{Head, A, B}
use Rattle.au_journal.specs.Frames.{spelled, frame, header, front, IsShut, Stands}
use Rattle.au_journal.specs.Images.{Closed, Selects}
use Rattle.au_journal.proofs.Standing.{length-spelled}
use Rattle.au_journal.proofs.Walking.{length_once, take_spelled}

body_of : (body : List ℕ) → drop 8 (spelled body) ≡ body
unfolding spelled
body_of body = drop_at (to_be_bytes w64 (length body)) body 8 refl

-- where the same bytes begin with two spelled bodies, the bodies are the same, and so is what comes behind
module _ (a b x y : List ℕ) (small : length (spelled b ++ y) < 2 ^ 64) (same : spelled a ++ x ≡ spelled b ++ y) where
  sizes : length a ≡ length b
  sizes =
      let low : length a < 2 ^ 64 = omega (arith, small, ap length same, length-append (spelled a) x, length-spelled a) in
      let high : length b < 2 ^ 64 = omega (arith, small, length-append (spelled b) y, length-spelled b) in
      length_once (length a) (length b) low high (sym (take_spelled a x) ∙ ap (λ (l : List ℕ). take 8 l) same ∙ take_spelled b y)

  there : length (spelled b) ≡ 8 + length a
  there = length-spelled b ∙ ap (λ (n : ℕ). 8 + n) (sym sizes)

  behind_same : x ≡ y
  behind_same =
      sym (drop_at (spelled a) x (8 + length a) (length-spelled a)) ∙ ap (λ (l : List ℕ). drop (8 + length a) l) same
      ∙ drop_at (spelled b) y (8 + length a) there

  body_same : a ≡ b
  body_same =
      sym (body_of a)
      ∙ ap (λ (l : List ℕ). drop 8 l)
      (sym (take_at (spelled a) x (8 + length a) (length-spelled a)) ∙ ap (λ (l : List ℕ). take (8 + length a) l) same ∙ take_at (spelled b) y (8 + length a) there)
      ∙ body_of b

pub spelled_once : (a b x y : List ℕ) → length (spelled b ++ y) < 2 ^ 64 → spelled a ++ x ≡ spelled b ++ y → (a ≡ b) × (x ≡ y)
spelled_once a b x y small same = (body_same a b x y small same, behind_same a b x y small same)

-- frames and what comes behind them, where that isn't an open gate
frames_once : (bodies others : List (List ℕ)) (rest more : List ℕ) → IsShut rest → IsShut more → length (flat_map frame others ++ more) < 2 ^ 64
    → flat_map frame bodies ++ rest ≡ flat_map frame others ++ more → (bodies ≡ others) × (rest ≡ more)
frames_once [] [] rest more shut closed small same = (refl, same)
frames_once [] (other ∷ others) rest more shut closed small same = absurd (subst IsShut same shut refl)
frames_once (body ∷ bodies) [] rest more shut closed small same = absurd (subst IsShut (sym same) closed refl)
frames_once (body ∷ bodies) (other ∷ others) rest more shut closed small same =
    let inner : spelled body ++ (flat_map frame bodies ++ rest) ≡ spelled other ++ (flat_map frame others ++ more) =
    sym (append_assoc (spelled body) (flat_map frame bodies) rest) ∙ ap (λ (l : List ℕ). drop 1 l) same ∙ append_assoc (spelled other) (flat_map frame others) more in
    let less : length (spelled other ++ (flat_map frame others ++ more)) < 2 ^ 64 =
    omega (arith, small, ap length (append_assoc (spelled other) (flat_map frame others) more)) in
    let further = frames_once bodies others rest more shut closed (omega (arith, less, length-append (spelled other) (flat_map frame others ++ more)))
    (behind_same body other (flat_map frame bodies ++ rest) (flat_map frame others ++ more) less inner) in
    (ap (λ (l : List ℕ). l ∷ bodies) (body_same body other (flat_map frame bodies ++ rest) (flat_map frame others ++ more) less inner) ∙ ap (λ (l : List (List ℕ)). other ∷ l) further.0, further.1)

front_once : (limit other : ℕ) (bodies others : List (List ℕ)) (rest more : List ℕ) → IsShut rest → IsShut more → length (front other others ++ more) < 2 ^ 64
    → front limit bodies ++ rest ≡ front other others ++ more → (bodies ≡ others) × (rest ≡ more)
unfolding front
front_once limit other bodies others rest more shut closed small same =
    let whole : header limit ++ (flat_map frame bodies ++ rest) ≡ header other ++ (flat_map frame others ++ more) =
    sym (append_assoc (header limit) (flat_map frame bodies) rest) ∙ same ∙ append_assoc (header other) (flat_map frame others) more in
    frames_once bodies others rest more shut closed
    (omega (arith, small, ap length (append_assoc (header other) (flat_map frame others) more), length-append (header other) (flat_map frame others ++ more)))
    (sym (drop_at (header limit) (flat_map frame bodies ++ rest) 13 refl) ∙ ap (λ (l : List ℕ). drop 13 l) whole ∙ drop_at (header other) (flat_map frame others ++ more) 13 refl)

-- an area holds one list of bodies
pub stands_once : (limit other : ℕ) (bodies others : List (List ℕ)) (area : List ℕ) → length area < 2 ^ 64 → Stands limit bodies area → Stands other others area → bodies ≡ others
stands_once limit other bodies others area small one two =
    (front_once limit other bodies others one.rest two.rest one.shut two.shut (omega (arith, small, ap length two.split)) (sym one.split ∙ two.split)).0

-- where a closed gate stands behind bodies, the area doesn't end where bodies end
pub closed_not_bare : (limit other : ℕ) (bodies others : List (List ℕ)) (area : List ℕ) → length area < 2 ^ 64 → Closed (front limit bodies) area → area ≡ front other others → ⊥
closed_not_bare limit other bodies others area small closed bare =
    let there : area ≡ front other others ++ [] = bare ∙ sym (append-nil (front other others)) in
    let none = (front_once limit other bodies others (closed.gate ∷ closed.tail) [] closed.shut tt (omega (arith, small, ap length there)) (sym closed.split ∙ there)).1 in
    let sizes = ap length none in
    omega (arith, sizes)

-- the head selects one area
pub selects_once : (a b : Area) (head : List ℕ) → Selects a head → Selects b head → a ≡ b
selects_once Head b head one two = absurd one
selects_once a Head head one two = absurd two
selects_once A A head one two = refl
selects_once B B head one two = refl
selects_once A B [] one two = absurd two
selects_once A B (letter ∷ rest) one two = absurd (one two)
selects_once B A [] one two = absurd one
selects_once B A (letter ∷ rest) one two = absurd (two one)
