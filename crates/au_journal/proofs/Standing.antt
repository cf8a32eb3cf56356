-- What the states between two calls stand for.
use Rattle.std.proofs.Common.{◌≡◌, ◌≢◌, ◌⊎◌, inl, inr, ℕ, ◌+◌, ◌<◌, Bool, true, false, List, [], ◌∷◌, ◌++◌, length, refl, sym, ◌∙◌, ap, arith, append_assoc, length-append}
use Rattle.std.proofs.lemmas.Bool.{cases_eq}
use Rattle.std.proofs.lemmas.List.{append-nil}
use Rattle.std.proofs.lemmas.List.Concat.{flat_map-append}
use Rattle.std.specs.Int.{w64, to_be_bytes}
use Rattle.std.specs.List.{flat_map}
use Rattle.au_journal.specs.Frames.{spelled, frame, header, front, framed_of, IsLimit, AreSome, IsShut, IsOpen, Stands}
use Rattle.au_journal.specs.Images.{Closed, Doubted, EndsIn, StandsAt, StandsGated}

pub front-push : (limit : ℕ) (bodies : List (List ℕ)) (body : List ℕ) → front limit (bodies ++ body ∷ []) ≡ front limit bodies ++ 165 ∷ spelled body
unfolding front
front-push limit bodies body =
    ap (λ (l : List ℕ). header limit ++ l) (flat_map-append frame bodies (body ∷ []) ∙ ap (λ (l : List ℕ). flat_map frame bodies ++ l) (append-nil (165 ∷ spelled body)))
    ∙ sym (append_assoc (header limit) (flat_map frame bodies) (165 ∷ spelled body))

pub front-nil : (limit : ℕ) → front limit [] ≡ header limit
unfolding front
front-nil limit = refl

pub length-spelled : (body : List ℕ) → length (spelled body) ≡ 8 + length body
unfolding spelled
length-spelled body = length-append (to_be_bytes w64 (length body)) body

pub some-push : (bodies : List (List ℕ)) (body : List ℕ) → AreSome bodies → 0 < length body → AreSome (bodies ++ body ∷ [])
some-push [] body some more = (more, tt)
some-push (first ∷ bodies) body some more = (some.0, some-push bodies body some.1 more)

pub open_more : (l more : List ℕ) → IsOpen l → IsOpen (l ++ more)
open_more [] more opens = absurd opens
open_more (x ∷ l) more opens = opens

-- the end of a walk: a gate that isn't open, or no byte more
pub ends_at : (bare : Bool) (front rest area : List ℕ) → area ≡ front ++ rest → IsShut rest → (bare ≡ true → length rest ≡ 0) → (bare ≡ false → length rest ≢ 0) → EndsIn bare front area
ends_at true front [] area split shut none some = split ∙ append-nil front
ends_at true front (x ∷ rest) area split shut none some = absurd (let no : length (x ∷ rest) ≡ 0 = none refl in omega (arith, no))
ends_at false front [] area split shut none some = absurd (some refl refl)
ends_at false front (x ∷ rest) area split shut none some = record { gate = x; tail = rest; split = split; shut = shut }

module _ (limit : ℕ) (bodies : List (List ℕ)) (in_range : IsLimit limit) (some : AreSome bodies) where
  abbrev F : List ℕ
  F = front limit bodies

  pub closed_stands : (c : List ℕ) → Closed F c → Stands limit bodies c
  closed_stands c closed = record { in_range = in_range; some = some; rest = closed.gate ∷ closed.tail; split = closed.split; shut = closed.shut }

  pub bare_stands : (c : List ℕ) → c ≡ F → Stands limit bodies c
  bare_stands c is = record { in_range = in_range; some = some; rest = []; split = is ∙ sym (append-nil F); shut = tt }

  pub end_stands : (bare : Bool) (c : List ℕ) → EndsIn bare F c → Stands limit bodies c
  end_stands true c is = bare_stands c is
  end_stands false c is = closed_stands c is

  pub closed_gated : (c : List ℕ) → Closed F c → StandsGated limit bodies c
  closed_gated c closed = record { stands = closed_stands c closed; gated = closed }

  pub closed_at : (bare : Bool) (c : List ℕ) → Closed F c → StandsAt bare limit bodies c
  closed_at true c closed = inl (closed_gated c closed)
  closed_at false c closed = closed_gated c closed

  pub doubted_or : (body c : List ℕ) → 0 < length body → Doubted F (framed_of body) c → StandsGated limit bodies c ⊎ StandsGated limit (bodies ++ body ∷ []) c
  doubted_or body c more doubted =
      let whole = doubted.split ∙ append_assoc F (doubted.gate ∷ framed_of body) doubted.tail in
      elim (cases_eq doubted.gate 165) [
        | inl is_open ↦
            let split : c ≡ front limit (bodies ++ body ∷ []) ++ 0 ∷ doubted.tail =
            whole ∙ ap (λ (g : ℕ). F ++ g ∷ (framed_of body ++ doubted.tail)) is_open ∙ ap (λ (l : List ℕ). F ++ 165 ∷ l) (append_assoc (spelled body) (0 ∷ []) doubted.tail)
            ∙ sym (append_assoc F (165 ∷ spelled body) (0 ∷ doubted.tail)) ∙ ap (λ (l : List ℕ). l ++ 0 ∷ doubted.tail) (sym (front-push limit bodies body)) in
            inr (record {
              stands = record { in_range = in_range; some = some-push bodies body some more; rest = 0 ∷ doubted.tail; split = split; shut = omega arith };
              gated = record { gate = 0; tail = doubted.tail; split = split; shut = omega arith };
            })
        | inr shut ↦ inl (closed_gated c (record { gate = doubted.gate; tail = framed_of body ++ doubted.tail; split = whole; shut = shut }))
      ]
