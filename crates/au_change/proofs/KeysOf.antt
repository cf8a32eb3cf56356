-- The key that a content has.
use Rattle.std.proofs.Common.{◌≡◌, ◌∙◌, ℕ, zero, suc, ◌<◌, ◌+◌, List, [], ◌∷◌, ◌++◌, length, drop, get_or, append_assoc, refl, sym, ap, arith}
use Rattle.std.specs.Prelude.{Option, Some, None}
use Rattle.std.specs.List.{slice_get}
use Rattle.std.proofs.lemmas.List.{append-nil, drop_more}
use Rattle.au_base.specs.declared.cell.Cell.{Cell}
use Rattle.au_rows.specs.Held.{HasKey}
use Rattle.au_change.specs.Inside.{key_at, key_with}

-- cells before those of a key
abbrev pub front : List Cell → Option (List Cell) → Option (List Cell)
front key None = None
front key (Some rest) = Some (key ++ rest)

pub front_nil : (o : Option (List Cell)) → front [] o ≡ o
front_nil None = refl
front_nil (Some key) = refl

pub front_end : (key : List Cell) → front key (Some []) ≡ Some key
front_end key = ap (λ (k : List Cell). Some k) (append-nil key)

pub front_next : (key : List Cell) (content : Cell) (rest : Option (List Cell)) → front key (key_with (Some content) rest) ≡ front (key ++ content ∷ []) rest
front_next key content None = refl
front_next key content (Some rest) = ap (λ (k : List Cell). Some k) (simp append_assoc)

pub next_place : (cells : List Cell) (places : List ℕ) (at d : ℕ) → at < length places → key_at (drop at places) cells ≡ key_with (slice_get cells (get_or places at d)) (key_at (drop (at + 1) places) cells)
next_place cells places at d within = ap (λ (ps : List ℕ). key_at ps cells) (drop_more places at d within)

-- what is found has the key's cells
key_parts : (one : Option Cell) (rest : Option (List Cell)) (key : List Cell) → key_with one rest ≡ Some key
    → (content : Cell) × (later : List Cell) × (one ≡ Some content) × (rest ≡ Some later) × (key ≡ content ∷ later)
key_parts None rest key is = absurd (let e : None ≡ Some key = is in cc)
key_parts (Some content) None key is = absurd (let e : None ≡ Some key = is in cc)
key_parts (Some content) (Some later) key is = (content, later, refl, refl, let e : Some (content ∷ later) ≡ Some key = is in cc)

pub has_from : (places : List ℕ) (key cells : List Cell) → key_at places cells ≡ Some key → HasKey places key (Some cells)
has_from [] key cells is = (let e : Some [] ≡ Some key = is in ap (λ (k : List Cell). length k) (let k : [] ≡ key = cc in k), λ at within. absurd (omega arith))
has_from (place ∷ places) key cells is =
    let parts = key_parts (slice_get cells place) (key_at places cells) key is in
    let later = has_from places parts.1 cells parts.3 in
    rw parts.4
    (ap suc later.0, elim [ zero ↦ λ within. parts.2 | suc at ↦ λ within. later.1 at (omega arith) ])

pub from_has : (places : List ℕ) (key cells : List Cell) → HasKey places key (Some cells) → key_at places cells ≡ Some key
from_has [] [] cells has = refl
from_has [] (content ∷ key) cells has = absurd (omega (arith, has.0))
from_has (place ∷ places) [] cells has = absurd (omega (arith, has.0))
from_has (place ∷ places) (content ∷ key) cells has =
    let first : slice_get cells place ≡ Some content = has.1 0 (omega arith) in
    let rest = from_has places key cells (omega (arith, has.0), λ at within. has.1 (suc at) (omega arith)) in
    rw (first, rest) refl

pub key_stops : (cells : List Cell) (places : List ℕ) (at d : ℕ) (key : List Cell) (all : Option (List Cell)) → at < length places → slice_get cells (get_or places at d) ≡ None
    → front key (key_at (drop at places) cells) ≡ all → None ≡ all
key_stops cells places at d key all within none so_far =
    sym (ap (front key) (next_place cells places at d within ∙ ap (λ (o : Option Cell). key_with o (key_at (drop (at + 1) places) cells)) none)) ∙ so_far

pub key_next : (cells : List Cell) (places : List ℕ) (at d : ℕ) (key news : List Cell) (content : Cell) (all : Option (List Cell)) → at < length places
    → slice_get cells (get_or places at d) ≡ Some content → front key (key_at (drop at places) cells) ≡ all → news ≡ key ++ content ∷ []
    → front news (key_at (drop (at + 1) places) cells) ≡ all
key_next cells places at d key news content all within found so_far made =
    ap (λ (k : List Cell). front k (key_at (drop (at + 1) places) cells)) made
    ∙ sym (front_next key content (key_at (drop (at + 1) places) cells))
    ∙ sym (ap (front key) (next_place cells places at d within ∙ ap (λ (o : Option Cell). key_with o (key_at (drop (at + 1) places) cells)) found))
    ∙ so_far
