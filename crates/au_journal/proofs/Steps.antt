-- What the steps of an append and of a mend leave.
use Rattle.std.proofs.Common.{◌≡◌, inl, inr, ⊎_elim, ℕ, ◌+◌, ◌<◌, ◌≤◌, Bool, true, false, List, [], ◌∷◌, ◌++◌, length, refl, sym, ◌∙◌, ap, subst, arith, append_assoc, length-append}
use Rattle.au_io.specs.declared.disk.Area.{Area}
use Rattle.au_io.specs.declared.disk.Area.TheVariants.{Head, A, B}
use Rattle.au_io.specs.Areas.{Areas, area_of, with_area, overwritten}
use Rattle.au_io.specs.Disk.{Meaning}
use Rattle.au_io.specs.Moments.{Leaves, LeavesSince, area_with, weaker, weaker_since}
use Rattle.au_journal.specs.declared.seat.Seat.{Seat}
use Rattle.au_journal.specs.declared.doubt.Doubt.{Doubt}
use Rattle.au_journal.specs.Frames.{spelled, front, framed_of, IsLimit, AreSome}
use Rattle.au_journal.specs.Images.{Closed, Doubted, TornEnd, EndsIn, In, MayStandFor, StandsAt, StandsGated}
use Rattle.au_journal.specs.Seats.{IsPlaced, IsSettled, IsGateDoubted, IsEdgeDoubted, IsFramed, advanced, left_in}
use Rattle.au_journal.proofs.Leaving.{in_weaker, leaves_weaker}
use Rattle.au_journal.proofs.Lists.{within, bare_is_torn, end_within, frame_over, over_again}
use Rattle.au_journal.proofs.Standing.{front-push, some-push, closed_at, doubted_or}

pub ends_at_it : (limit : ℕ) (bodies : List (List ℕ)) → IsLimit limit → AreSome bodies → (bare : Bool) (c : List ℕ) → EndsIn bare (front limit bodies) c → StandsAt bare limit bodies c
ends_at_it limit bodies in_range some true c is = inr (bare_is_torn (front limit bodies) c is)
ends_at_it limit bodies in_range some false c closed = closed_at limit bodies in_range some false c closed

module _ (seat : Seat) (bodies : List (List ℕ)) where
  abbrev F : List ℕ
  F = front seat.limit bodies

  -- with a gate behind the bodies
  pub gate_leaves : (m : Meaning) → seat.bare ≡ false → IsSettled m seat bodies → Leaves (In seat.area (Closed F)) m
  gate_leaves m gated settled = subst (λ (b : Bool). Leaves (In seat.area (EndsIn b F)) m) gated settled.leaves

  -- with none
  pub bare_leaves : (m : Meaning) → seat.bare ≡ true → IsSettled m seat bodies → Leaves (In seat.area (TornEnd F)) m
  bare_leaves m bare settled =
      leaves_weaker seat.area (λ (c : List ℕ). c ≡ F) (TornEnd F) m (bare_is_torn F) (subst (λ (b : Bool). Leaves (In seat.area (EndsIn b F)) m) bare settled.leaves)

  pub gate_within : (m : Meaning) → m.images m.reads → seat.bare ≡ false → IsSettled m seat bodies → seat.used < length (area_of seat.area m.reads)
  gate_within m reads gated settled =
      let here = (gate_leaves m gated settled m.reads reads).here in
      within F seat.used settled.placed.place (area_of seat.area m.reads) here.gate here.tail here.split

  pub bare_within : (m : Meaning) → m.images m.reads → seat.bare ≡ true → IsSettled m seat bodies → seat.used ≤ length (area_of seat.area m.reads)
  bare_within m reads bare settled =
      end_within F seat.used settled.placed.place (area_of seat.area m.reads) (bare_leaves m bare settled m.reads reads).here

  pub gate_doubt_within : (m : Meaning) (others : List (List ℕ)) → m.images m.reads → IsGateDoubted m seat bodies others → seat.used < length (area_of seat.area m.reads)
  gate_doubt_within m others reads doubted =
      let here = (doubted.leaves m.reads reads).here in
      within F seat.used doubted.placed.place (area_of seat.area m.reads) here.gate (framed_of doubted.body ++ here.tail) (here.split ∙ append_assoc F (here.gate ∷ framed_of doubted.body) here.tail)

  pub edge_doubt_within : (m : Meaning) → m.images m.reads → IsEdgeDoubted m seat bodies → seat.used ≤ length (area_of seat.area m.reads)
  edge_doubt_within m reads doubted = end_within F seat.used doubted.placed.place (area_of seat.area m.reads) (doubted.leaves m.reads reads).here

  module _ (there : Area) (others : List (List ℕ)) where
    -- what may stand during a call from this seat
    abbrev May : Bool → Areas → Type 0
    May bare = MayStandFor bare seat.limit seat.area bodies there others

    ends_may : IsPlaced seat bodies → (c : Areas) → In seat.area (EndsIn seat.bare F) c → May seat.bare c
    ends_may placed c was = inl (in_weaker seat.area (EndsIn seat.bare F) (StandsAt seat.bare seat.limit bodies) (ends_at_it seat.limit bodies placed.in_range placed.some seat.bare) c was)

    -- where no body is in doubt
    pub settled_leaves : (m : Meaning) → IsSettled m seat bodies → Leaves (May seat.bare) m
    settled_leaves m settled = weaker (In seat.area (EndsIn seat.bare F)) (May seat.bare) m (ends_may settled.placed) settled.leaves

    -- the bodies end as they did, at every moment
    pub ends_since : (old new : Meaning) → IsPlaced seat bodies → LeavesSince (In seat.area (EndsIn seat.bare F)) old new → LeavesSince (May seat.bare) old new
    ends_since old new placed leaves = weaker_since (In seat.area (EndsIn seat.bare F)) (May seat.bare) old new (ends_may placed) leaves

    -- a closed gate stands behind the bodies, at every moment
    pub closed_since : (old new : Meaning) (bare : Bool) → IsPlaced seat bodies → LeavesSince (In seat.area (Closed F)) old new → LeavesSince (May bare) old new
    closed_since old new bare placed leaves = weaker_since (In seat.area (Closed F)) (May bare) old new
        (λ c was. inl (in_weaker seat.area (Closed F) (StandsAt bare seat.limit bodies) (closed_at seat.limit bodies placed.in_range placed.some bare) c was)) leaves

    -- the end is in doubt, at every moment
    pub torn_since : (old new : Meaning) → LeavesSince (In seat.area (TornEnd F)) old new → LeavesSince (May true) old new
    torn_since old new leaves = weaker_since (In seat.area (TornEnd F)) (May true) old new (λ c was. inl (record { selected = was.selected; here = inr was.here })) leaves

    -- what may stand where there was a gate may stand where there was none
    pub true_since : (old new : Meaning) → LeavesSince (May false) old new → LeavesSince (May true) old new
    true_since old new leaves = weaker_since (May false) (May true) old new
        (λ c may. ⊎_elim (λ (was : In seat.area (StandsGated seat.limit bodies) c). inl (record { selected = was.selected; here = inl was.here })) inr may) leaves

  -- the gate before the framed bytes is in doubt, at every moment
  pub doubted_since : (old new : Meaning) (body : List ℕ) → 0 < length body → IsPlaced seat bodies → LeavesSince (In seat.area (Doubted F (framed_of body))) old new
      → LeavesSince (May seat.area (bodies ++ body ∷ []) false) old new
  doubted_since old new body some placed leaves = weaker_since (In seat.area (Doubted F (framed_of body))) (May seat.area (bodies ++ body ∷ []) false) old new
      (λ c was.
      ⊎_elim
      (λ (stands : StandsGated seat.limit bodies (area_of seat.area c)). inl (record { selected = was.selected; here = stands }))
      (λ (stands : StandsGated seat.limit (bodies ++ body ∷ []) (area_of seat.area c)). inr (record { selected = was.selected; here = stands }))
      (doubted_or seat.limit bodies placed.in_range placed.some body (area_of seat.area c) some was.here)) leaves

  -- the seat behind the frame
  pub appended_settled : (m : Meaning) (framed body : List ℕ) → IsFramed framed body → IsPlaced seat bodies → seat.ended ≡ true
      → Leaves (In seat.area (Closed (F ++ 165 ∷ spelled body))) m → IsSettled m (advanced (length framed) seat) (bodies ++ body ∷ [])
  appended_settled m framed body is placed ended leaves = record {
    placed = record {
      in_range = placed.in_range;
      some = some-push bodies body placed.some is.some;
      place = omega (arith, placed.place, ap length is.is, ap length (front-push seat.limit bodies body), length-append F (165 ∷ spelled body), length-append (spelled body) (0 ∷ []));
    };
    ended = ended;
    leaves = subst (λ (f : List ℕ). Leaves (In seat.area (Closed f)) m) (sym (front-push seat.limit bodies body)) leaves;
  }

  -- the seat at its place, with a gate there
  pub gated_settled : (m : Meaning) (doubt : Doubt) → IsPlaced seat bodies → seat.ended ≡ true → Leaves (In seat.area (Closed F)) m
      → IsSettled m (left_in doubt false seat) bodies
  gated_settled m doubt placed ended leaves = record {
    placed = record { in_range = placed.in_range; some = placed.some; place = placed.place };
    ended = ended;
    leaves = leaves;
  }

-- what reads after an append
twice : (area : Area) (one two : List ℕ) (all : Areas) → with_area area two (with_area area one all) ≡ with_area area two all
twice Head one two all = refl
twice A one two all = refl
twice B one two all = refl

pub frame_read : (area : Area) (used : ℕ) (framed : List ℕ) (old mid new : Areas) → used < length (area_of area old)
    → mid ≡ with_area area (overwritten (area_of area old) (used + 1) framed) old → new ≡ with_area area (overwritten (area_of area mid) used (165 ∷ [])) mid
    → new ≡ with_area area (overwritten (area_of area old) used (165 ∷ framed)) old
frame_read area used framed old mid new short first second =
    let bytes = overwritten (area_of area old) (used + 1) framed in
    second ∙ ap (λ (m : Areas). with_area area (overwritten (area_of area m) used (165 ∷ [])) m) first
    ∙ ap (λ (l : List ℕ). with_area area (overwritten l used (165 ∷ [])) (with_area area bytes old)) (area_with area bytes old)
    ∙ twice area bytes (overwritten bytes used (165 ∷ [])) old
    ∙ ap (λ (l : List ℕ). with_area area l old) (frame_over (area_of area old) framed used short)

pub gate_then_frame : (area : Area) (used : ℕ) (framed : List ℕ) (old mid new : Areas) → used ≤ length (area_of area old)
    → mid ≡ with_area area (overwritten (area_of area old) used (0 ∷ [])) old → new ≡ with_area area (overwritten (area_of area mid) used (165 ∷ framed)) mid
    → new ≡ with_area area (overwritten (area_of area old) used (165 ∷ framed)) old
gate_then_frame area used framed old mid new short first second =
    let bytes = overwritten (area_of area old) used (0 ∷ []) in
    second ∙ ap (λ (m : Areas). with_area area (overwritten (area_of area m) used (165 ∷ framed)) m) first
    ∙ ap (λ (l : List ℕ). with_area area (overwritten l used (165 ∷ framed)) (with_area area bytes old)) (area_with area bytes old)
    ∙ twice area bytes (overwritten bytes used (165 ∷ framed)) old
    ∙ ap (λ (l : List ℕ). with_area area l old) (over_again (area_of area old) (165 ∷ framed) used short (omega arith))
