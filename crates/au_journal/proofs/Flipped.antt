-- What the steps of a flip leave, and the mend behind it.
use Rattle.std.proofs.Common.{◌≡◌, ◌≢◌, ◌⊎◌, inl, inr, ⊎_elim, ℕ, true, List, [], ◌∷◌, length, drop, refl, sym, ◌∙◌, ap, subst, arith, length-append}
use Rattle.std.proofs.lemmas.Bool.{cases_eq}
use Rattle.au_io.specs.declared.disk.Area.{Area}
use Rattle.au_io.specs.declared.disk.Area.TheVariants.{Head, A, B}
use Rattle.au_io.specs.Areas.{Areas, area_of, with_area, overwritten, On, Torn}
use Rattle.au_io.specs.Disk.{Meaning, Passes, Follows}
use Rattle.au_io.specs.Moments.{Leaves, LeavesSince, CountsNow, area_with, at_last, one_call, weaker_since}
use Rattle.au_journal.specs.declared.seat.Seat.{Seat}
use Rattle.au_journal.specs.Frames.{spelled, front, new_head, new_rest, AreSome}
use Rattle.au_journal.specs.Images.{AnyBytes, Closed, EndsIn, In, IsSafe, Selects, letter_of, other_of}
use Rattle.au_journal.specs.Seats.{BothStand, IsFramed, IsPlaced, IsSettled, MayLeave, OtherWritten, flipped, with_letter}
use Rattle.au_journal.proofs.Created.{new_split, whole_is}
use Rattle.au_journal.proofs.Standing.{closed_gated, front-push, front-nil}
use Rattle.au_journal.proofs.Steps.{ends_at_it}

-- Head selects an area that has frames, and the other is none but it
pub not_head : (area : Area) (head : List ℕ) → Selects area head → area ≢ Head
not_head Head head selects = absurd selects
not_head A head selects = λ (e : A ≡ Head). cc
not_head B head selects = λ (e : B ≡ Head). cc

other_not_head : (area : Area) → area ≢ Head → other_of area ≢ Head
other_not_head Head not = absurd (not refl)
other_not_head A not = λ (e : B ≡ Head). cc
other_not_head B not = λ (e : A ≡ Head). cc

letter_selects : (area : Area) (rest : List ℕ) → area ≢ Head → Selects area (letter_of area ∷ rest)
letter_selects Head rest not = absurd (not refl)
letter_selects A rest not = λ (e : 65 ≡ 66). omega arith
letter_selects B rest not = refl

either_selected : (area : Area) (head : List ℕ) → area ≢ Head → Selects area head ⊎ Selects (other_of area) head
either_selected Head head not = absurd (not refl)
either_selected A [] not = inl tt
either_selected A (letter ∷ rest) not = elim (cases_eq letter 66) [ inl is ↦ inr is | inr other ↦ inl other ]
either_selected B [] not = inr tt
either_selected B (letter ∷ rest) not = elim (cases_eq letter 66) [ inl is ↦ inl is | inr other ↦ inr other ]

-- the other area takes any step
pub present_kept : (area : Area) (P : List ℕ → Type 0) (d c : Areas) → In area P d → On (other_of area) AnyBytes d c → In area P c
present_kept Head P d c was on = absurd was.selected
present_kept A P d c was on = record {
  selected = subst (λ (l : List ℕ). Selects A l) (sym (on.elsewhere Head (λ (e : Head ≡ B). cc))) was.selected;
  here = subst P (sym (on.elsewhere A (λ (e : A ≡ B). cc))) was.here;
}
present_kept B P d c was on = record {
  selected = subst (λ (l : List ℕ). Selects B l) (sym (on.elsewhere Head (λ (e : Head ≡ A). cc))) was.selected;
  here = subst P (sym (on.elsewhere B (λ (e : B ≡ A). cc))) was.here;
}

module _ (seat : Seat) (bodies : List (List ℕ)) where
  abbrev Ends : List ℕ → Type 0
  Ends = EndsIn seat.bare (front seat.limit bodies)

  -- while the other area is written
  pub writing_since : (old new : Meaning) → Leaves (In seat.area Ends) old → Follows (On (other_of seat.area) AnyBytes) old new → LeavesSince (In seat.area Ends) old new
  writing_since old new leaves follows = one_call (In seat.area Ends) (In seat.area Ends) (On (other_of seat.area) AnyBytes) old new (present_kept seat.area Ends) leaves follows

  -- once it is
  pub other_written : (old new : Meaning) (framed body : List ℕ) → IsFramed framed body → CountsNow new → Passes old new → Leaves (In seat.area Ends) old → Follows (On (other_of seat.area) AnyBytes) old new
      → IsSafe (other_of seat.area) new → new.reads ≡ with_area (other_of seat.area) (165 ∷ new_rest seat.limit framed) old.reads → Leaves (OtherWritten seat bodies (body ∷ [])) new
  other_written old new framed body is counts time leaves follows safe reads c image =
      let whole = safe c image ∙ ap (area_of (other_of seat.area)) reads ∙ area_with (other_of seat.area) (165 ∷ new_rest seat.limit framed) old.reads in
      record {
        present = at_last (In seat.area Ends) old new counts time (writing_since old new leaves follows) c image;
        other = record { gate = 0; tail = []; split = new_split seat.limit framed body (area_of (other_of seat.area) c) is whole; shut = λ (e : 0 ≡ 165). omega arith };
      }

  module _ (others : List (List ℕ)) where
    -- while Head is written
    pub both_kept : (d c : Areas) → seat.area ≢ Head → BothStand seat bodies others d → On Head (Torn 0 1) d c → BothStand seat bodies others c
    both_kept d c not both on = record {
      here = subst Ends (sym (on.elsewhere seat.area not)) both.here;
      there = subst (Closed (front seat.limit others)) (sym (on.elsewhere (other_of seat.area) (other_not_head seat.area not))) both.there;
    }

    pub selecting_since : (old new : Meaning) → Leaves (OtherWritten seat bodies others) old → Follows (On Head (Torn 0 1)) old new → LeavesSince (BothStand seat bodies others) old new
    selecting_since old new leaves follows = one_call (OtherWritten seat bodies others) (BothStand seat bodies others) (On Head (Torn 0 1)) old new
        (λ d c was on. both_kept d c (not_head seat.area d.head was.present.selected) (record { here = was.present.here; there = was.other }) on) leaves follows

    pub selecting_again : (old new : Meaning) → seat.area ≢ Head → Leaves (BothStand seat bodies others) old → Follows (On Head (Torn 0 1)) old new → LeavesSince (BothStand seat bodies others) old new
    selecting_again old new not leaves follows = one_call (BothStand seat bodies others) (BothStand seat bodies others) (On Head (Torn 0 1)) old new (λ d c was on. both_kept d c not was on) leaves follows

    -- what may stand meanwhile
    pub both_may : IsPlaced seat bodies → AreSome others → seat.area ≢ Head → (c : Areas) → BothStand seat bodies others c → MayLeave seat bodies (other_of seat.area) others c
    both_may placed some not c both = ⊎_elim
        (λ (selected : Selects seat.area c.head). inl (record { selected = selected; here = ends_at_it seat.limit bodies placed.in_range placed.some seat.bare (area_of seat.area c) both.here }))
        (λ (selected : Selects (other_of seat.area) c.head). inr (record { selected = selected; here = closed_gated seat.limit others placed.in_range some (area_of (other_of seat.area) c) both.there }))
        (either_selected seat.area c.head not)

    pub both_since : (old new : Meaning) → IsPlaced seat bodies → AreSome others → seat.area ≢ Head → LeavesSince (BothStand seat bodies others) old new
        → LeavesSince (MayLeave seat bodies (other_of seat.area) others) old new
    both_since old new placed some not leaves = weaker_since (BothStand seat bodies others) (MayLeave seat bodies (other_of seat.area) others) old new (both_may placed some not) leaves

    -- once the letter of the other area is synced
    pub other_selected : (old new : Meaning) → seat.area ≢ Head → Leaves (BothStand seat bodies others) new → IsSafe Head new → new.reads ≡ with_letter (other_of seat.area) old.reads
        → Leaves (In (other_of seat.area) (Closed (front seat.limit others))) new
    other_selected old new not leaves safe reads c image = record {
      selected = subst (Selects (other_of seat.area)) (sym (safe c image ∙ ap (area_of Head) reads)) (letter_selects (other_of seat.area) (drop 1 old.reads.head) (other_not_head seat.area not));
      here = (leaves c image).there;
    }

    -- or that of the present one
    pub present_selected : (old new : Meaning) → seat.area ≢ Head → Leaves (BothStand seat bodies others) new → IsSafe Head new → new.reads ≡ with_letter seat.area old.reads
        → Leaves (In seat.area Ends) new
    present_selected old new not leaves safe reads c image = record {
      selected = subst (Selects seat.area) (sym (safe c image ∙ ap (area_of Head) reads)) (letter_selects seat.area (drop 1 old.reads.head) not);
      here = (leaves c image).here;
    }

  -- the seat in the other area
  pub flipped_settled : (m : Meaning) (framed body : List ℕ) → IsFramed framed body → IsPlaced seat bodies → seat.ended ≡ true
      → Leaves (In (other_of seat.area) (Closed (front seat.limit (body ∷ [])))) m → IsSettled m (flipped (length framed) seat) (body ∷ [])
  flipped_settled m framed body is placed ended leaves = record {
    placed = record {
      in_range = placed.in_range;
      some = (is.some, tt);
      place = omega (
        arith,
        ap length is.is,
        length-append (spelled body) (0 ∷ []),
        ap length (front-push seat.limit [] body),
        ap length (front-nil seat.limit),
        length-append (front seat.limit []) (165 ∷ spelled body),
      );
    };
    ended = ended;
    leaves = leaves;
  }

-- a step of Head leaves the other areas safe
pub safe_kept : (area : Area) (old new : Meaning) → area ≢ Head → CountsNow new → Passes old new → Follows (On Head (Torn 0 1)) old new → IsSafe area old
    → area_of area new.reads ≡ area_of area old.reads → IsSafe area new
safe_kept area old new not counts time follows safe reads c image =
    let from = follows c (counts old.moment c time.later image) in
    from.2.elsewhere area not ∙ safe from.0 from.1 ∙ sym reads

pub letter_elsewhere : (area selected : Area) (all : Areas) → area ≢ Head → area_of area (with_letter selected all) ≡ area_of area all
letter_elsewhere Head selected all not = absurd (not refl)
letter_elsewhere A selected all not = refl
letter_elsewhere B selected all not = refl

-- what reads of an area that was written whole
twice : (area : Area) (one two : List ℕ) (all : Areas) → with_area area two (with_area area one all) ≡ with_area area two all
twice Head one two all = refl
twice A one two all = refl
twice B one two all = refl

over : (area : Area) (at : ℕ) (bytes old : List ℕ) (all : Areas) → with_area area (overwritten (area_of area (with_area area old all)) at bytes) (with_area area old all) ≡ with_area area (overwritten old at bytes) all
over area at bytes old all =
    ap (λ (l : List ℕ). with_area area (overwritten l at bytes) (with_area area old all)) (area_with area old all) ∙ twice area old (overwritten old at bytes) all

pub area_read : (area : Area) (limit : ℕ) (framed head : List ℕ) (old one two three : Areas) → head ≡ 165 ∷ new_head limit → one ≡ with_area area [] old
    → two ≡ with_area area (overwritten (area_of area one) 0 head) one → three ≡ with_area area (overwritten (area_of area two) 14 framed) two
    → three ≡ with_area area (165 ∷ new_rest limit framed) old
area_read area limit framed head old one two three named first second third =
    third ∙ ap (λ (a : Areas). with_area area (overwritten (area_of area a) 14 framed) a)
    (second ∙ ap (λ (a : Areas). with_area area (overwritten (area_of area a) 0 head) a) first ∙ over area 0 head [] old)
    ∙ over area 14 framed (overwritten [] 0 head) old
    ∙ ap (λ (l : List ℕ). with_area area l old) (whole_is [] head framed limit refl named)

pub either_safe : (area : Area) (m : Meaning) → IsSafe Head m → (area ≢ Head → IsSafe area m) → IsSafe area m
either_safe Head m safe other = safe
either_safe A m safe other = other (λ (e : A ≡ Head). cc)
either_safe B m safe other = other (λ (e : B ≡ Head). cc)
