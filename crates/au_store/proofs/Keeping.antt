-- What a mend and an append make of what a journal stands on, for any property of its bodies.
use Rattle.std.proofs.Common.{◌≡◌, ◌≢◌, inl, inr, ⊎_elim, ℕ, Bool, false, List, [], ◌∷◌, ◌++◌, refl, sym, ◌∙◌, ap, subst}
use Rattle.au_io.specs.declared.disk.Area.{Area}
use Rattle.au_io.specs.Areas.{Areas, area_of}
use Rattle.au_io.specs.Disk.{Meaning, Passes}
use Rattle.au_io.specs.Moments.{Leaves, LeavesSince, CountsNow, OnlyNow, weaker, weaker_since, no_call, at_last}
use Rattle.au_journal.specs.declared.doubt.Doubt.{Doubt}
use Rattle.au_journal.specs.declared.doubt.Doubt.TheVariants.{Settled, Body, Gate, Edge, Other, Head}
use Rattle.au_journal.specs.declared.seat.Seat.{Seat}
use Rattle.au_journal.specs.Frames.{front, IsLimit, AreSome}
use Rattle.au_journal.specs.Images.{Closed, EndsIn, In, MayStandFor, StandsGated}
use Rattle.au_journal.specs.Seats.{AppendDoubts, FlipDoubts, IsIn, IsSettled, IsDoubted, MayLeave, advanced, bare_after, flipped, mended, there_of}
use Rattle.au_journal.specs.Standing.{Holds, HoldsEither, IsSettledOn, IsInDoubt, StandsOn}

-- a closed gate behind the bodies
closed_stands : (limit : ℕ) (bodies : List (List ℕ)) → IsLimit limit → AreSome bodies → (area : List ℕ) → Closed (front limit bodies) area → StandsGated limit bodies area
closed_stands limit bodies in_range some area closed = record {
  stands = record { in_range = in_range; some = some; rest = closed.gate ∷ closed.tail; split = closed.split; shut = closed.shut };
  gated = closed;
}

-- each image of a settled journal holds its bodies
pub settled_kept : (P : List (List ℕ) → Type 0) (m : Meaning) (seat : Seat) (bodies : List (List ℕ)) → seat.bare ≡ false → IsSettled m seat bodies → P bodies → IsSettledOn P m seat
settled_kept P m seat bodies gated settled so = record {
  bodies = bodies;
  settled = settled;
  so = so;
  leaves = λ c image.
      let closed = subst (λ (b : Bool). Leaves (In seat.area (EndsIn b (front seat.limit bodies))) m) gated settled.leaves c image in
      record {
        area = seat.area;
        limit = seat.limit;
        bodies = bodies;
        held = record { selected = closed.selected; here = closed_stands seat.limit bodies settled.placed.in_range settled.placed.some (area_of seat.area c) closed.here };
        so = so;
      };
}

-- where the journal may stand for the bodies, or for the others
pub held_either : (P Q : List (List ℕ) → Type 0) (area : Area) (limit : ℕ) (bodies : List (List ℕ)) (there : Area) (others : List (List ℕ)) → P bodies → Q others
    → (c : Areas) → MayStandFor false limit area bodies there others c → HoldsEither P Q c
held_either P Q area limit bodies there others so so_then c may =
    ⊎_elim
    (λ (held : In area (StandsGated limit bodies) c). inl (record { area = area; limit = limit; bodies = bodies; held = held; so = so }))
    (λ (held : In there (StandsGated limit others) c). inr (record { area = there; limit = limit; bodies = others; held = held; so = so_then }))
    may

pub either_since : (P Q : List (List ℕ) → Type 0) (seat : Seat) (bodies : List (List ℕ)) (there : Area) (others : List (List ℕ)) (old new : Meaning) → seat.bare ≡ false → P bodies → Q others
    → LeavesSince (MayLeave seat bodies there others) old new → LeavesSince (HoldsEither P Q) old new
either_since P Q seat bodies there others old new gated so so_then leaves =
    weaker_since (MayStandFor false seat.limit seat.area bodies there others) (HoldsEither P Q) old new (held_either P Q seat.area seat.limit bodies there others so so_then)
    (subst (λ (b : Bool). LeavesSince (MayStandFor b seat.limit seat.area bodies there others) old new) gated leaves)

-- after a call that left a write in doubt
pub left_in_doubt : (P Q : List (List ℕ) → Type 0) (old new : Meaning) (seat : Seat) (bodies others : List (List ℕ)) → CountsNow new → Passes old new
    → IsDoubted new seat bodies others → P bodies → Q others → seat.doubt ≢ Settled → LeavesSince (HoldsEither P Q) old new → IsInDoubt P Q new seat
left_in_doubt P Q old new seat bodies others counts time doubted so so_then unsettled leaves = record {
  bodies = bodies;
  others = others;
  doubted = doubted;
  so = so;
  so_then = so_then;
  unsettled = unsettled;
  leaves = at_last (HoldsEither P Q) old new counts time leaves;
}

-- what the journal may be in doubt of, as its calls ask for it
pub doubted_of : (P Q : List (List ℕ) → Type 0) (m : Meaning) (seat : Seat) → StandsOn P Q m seat → (bodies others : List (List ℕ)) × IsDoubted m seat bodies others
doubted_of P Q m seat stands =
    ⊎_elim
    (λ (kept : (seat.doubt ≡ Settled) × IsSettledOn P m seat). (kept.1.bodies, [], subst (λ (d : Doubt). IsIn d m seat kept.1.bodies []) (sym kept.0) kept.1.settled))
    (λ (doubt : IsInDoubt P Q m seat). (doubt.bodies, doubt.others, doubt.doubted))
    stands

-- a mend leaves a gate where there was one
pub gated_after : (doubt : Doubt) (bare : Bool) → bare ≡ false → bare_after doubt bare ≡ false
gated_after Settled bare is = is
gated_after Body bare is = is
gated_after Gate bare is = is
gated_after Edge bare is = refl
gated_after Other bare is = is
gated_after Head bare is = is

module _ (P Q : List (List ℕ) → Type 0) (old new : Seat) (gated : old.bare ≡ false) where
  -- where no body is in doubt
  pub settled_stands : (m : Meaning) → old.doubt ≡ Settled → StandsOn P Q m old → IsSettledOn P m old
  settled_stands m is stands =
      ⊎_elim
      (λ (kept : (old.doubt ≡ Settled) × IsSettledOn P m old). kept.1)
      (λ (doubt : IsInDoubt P Q m old). settled_kept P m old doubt.bodies gated (subst (λ (d : Doubt). IsIn d m old doubt.bodies doubt.others) is doubt.doubted) doubt.so)
      stands

  -- after a mend that succeeded
  pub mended_kept : (m n : Meaning) → new ≡ mended old → StandsOn P Q m old
      → ((bodies others : List (List ℕ)) → IsDoubted m old bodies others → IsSettled n new bodies) → IsSettledOn P n new
  mended_kept m n is stands settles =
      let here : new.bare ≡ false = ap (λ (s : Seat). s.bare) is ∙ gated_after old.doubt old.bare gated in
      ⊎_elim
      (λ (kept : (old.doubt ≡ Settled) × IsSettledOn P m old). settled_kept P n new kept.1.bodies here (settles kept.1.bodies [] (subst (λ (d : Doubt). IsIn d m old kept.1.bodies []) (sym kept.0) kept.1.settled)) kept.1.so)
      (λ (doubt : IsInDoubt P Q m old). settled_kept P n new doubt.bodies here (settles doubt.bodies doubt.others doubt.doubted) doubt.so)
      stands

  -- at any moment of a mend
  module _ {D : Type 0} (meaning : D → Meaning) (before after : D) (still : old.doubt ≡ Settled → after ≡ before) where
    pub mending_since : OnlyNow (meaning before) → StandsOn P Q (meaning before) old
        → ((bodies others : List (List ℕ)) → IsDoubted (meaning before) old bodies others
        → LeavesSince (MayLeave old bodies (there_of old.doubt old.area) others) (meaning before) (meaning after))
        → LeavesSince (HoldsEither P Q) (meaning before) (meaning after)
    mending_since only stands leaves =
        ⊎_elim
        (λ (kept : (old.doubt ≡ Settled) × IsSettledOn P (meaning before) old).
        subst (λ (d : D). LeavesSince (HoldsEither P Q) (meaning before) (meaning d)) (sym (still kept.0))
        (no_call (HoldsEither P Q) (meaning before) only (weaker (Holds P) (HoldsEither P Q) (meaning before) (λ c held. inl held) kept.1.leaves)))
        (λ (doubt : IsInDoubt P Q (meaning before) old).
        either_since P Q old doubt.bodies (there_of old.doubt old.area) doubt.others (meaning before) (meaning after) gated doubt.so doubt.so_then
        (leaves doubt.bodies doubt.others doubt.doubted))
        stands

    -- after a mend that failed
    pub still_stands : CountsNow (meaning after) → Passes (meaning before) (meaning after) → new ≡ old → StandsOn P Q (meaning before) old
        → ((bodies others : List (List ℕ)) → IsDoubted (meaning before) old bodies others → IsDoubted (meaning after) new bodies others)
        → LeavesSince (HoldsEither P Q) (meaning before) (meaning after) → StandsOn P Q (meaning after) new
    still_stands counts time is stands doubted leaves =
        ⊎_elim
        (λ (kept : (old.doubt ≡ Settled) × IsSettledOn P (meaning before) old).
        subst (λ (s : Seat). StandsOn P Q (meaning after) s) (sym is)
        (subst (λ (d : D). StandsOn P Q (meaning d) old) (sym (still kept.0)) (inl kept)))
        (λ (doubt : IsInDoubt P Q (meaning before) old).
        inr (left_in_doubt P Q (meaning before) (meaning after) new doubt.bodies doubt.others counts time (doubted doubt.bodies doubt.others doubt.doubted) doubt.so doubt.so_then (subst (λ (s : Seat). s.doubt ≢ Settled) (sym is) doubt.unsettled) leaves))
        stands

-- after a flip that is done
pub flipped_kept : (P : List (List ℕ) → Type 0) (n : Meaning) (seat old : Seat) (body : List ℕ) (size : ℕ) → seat ≡ flipped size old → IsSettled n seat (body ∷ []) → P (body ∷ []) → IsSettledOn P n seat
flipped_kept P n seat old body size is settled so = settled_kept P n seat (body ∷ []) (ap (λ (s : Seat). s.bare) is) settled so

-- a flip that failed leaves a doubt
pub flip_unsettled : (doubt : Doubt) → FlipDoubts doubt → doubt ≢ Settled
flip_unsettled doubt doubts is = subst FlipDoubts is doubts

-- an append that failed leaves a doubt
pub append_unsettled : (doubt : Doubt) → AppendDoubts doubt → doubt ≢ Settled
append_unsettled doubt doubts is = subst AppendDoubts is doubts

-- after an append that is done
pub appended_kept : (P : List (List ℕ) → Type 0) (n : Meaning) (seat : Seat) (bodies : List (List ℕ)) (body : List ℕ) (size : ℕ) (old : Seat)
    → seat ≡ advanced size old → IsSettled n seat (bodies ++ body ∷ []) → P (bodies ++ body ∷ []) → IsSettledOn P n seat
appended_kept P n seat bodies body size old is settled so = settled_kept P n seat (bodies ++ body ∷ []) (ap (λ (s : Seat). s.bare) is) settled so
