-- From what a journal stands for to what its calls ask, and back.
use Rattle.std.proofs.Common.{◌≡◌, ◌⊎◌, inl, inr, ⊎_elim, ℕ, ◌+◌, ◌<◌, ◌≤◌, Bool, true, false, Option, Some, None, MatchOption, List, [], length, ◌∷◌, ◌++◌, take, drop, refl, sym, ◌∙◌, ap, subst, arith}
use Rattle.std.proofs.Math.Dec.{eqb}
use Rattle.std.proofs.Math.Logic.{∥∥₁_elim, ∥∥₁_map}
use Rattle.std.proofs.lemmas.Bool.{eqb-false, eqb-true, false≢true}
use Rattle.std.specs.Coded.{le_prop}
use Rattle.au_io.specs.Areas.{Areas, area_of}
use Rattle.au_io.specs.Disk.{Meaning, Stays}
use Rattle.au_io.specs.Moments.{CountsNow}
use Rattle.au_journal.specs.declared.doubt.Doubt.{Doubt}
use Rattle.au_journal.specs.declared.doubt.Doubt.TheVariants.{Settled, Body, Gate, Edge, Other, Head}
use Rattle.au_journal.specs.declared.seat.Seat.{Seat}
use Rattle.au_journal.specs.Frames.{AreSome, IsShut, front}
use Rattle.au_journal.specs.Held.{IsHeld, IsUnderWay, IsWalkedOrHeld}
use Rattle.au_journal.specs.Images.{EndsIn}
use Rattle.au_journal.specs.Seats.{IsIn, IsSettled}
use Rattle.au_journal.specs.Walk.{BeginsWithFrame, IsBefore, IsWalked}
use Rattle.au_journal.proofs.Lists.{within}
use Rattle.au_journal.proofs.Seating.{end_leaves, next_here, next_place, next_some, next_split, rest_is, room_is, walked_after}
use Rattle.au_journal.proofs.Steps.{edge_doubt_within, gate_doubt_within, gate_within}

-- where nothing is in doubt, it stands for the bodies
pub settled_from : (m : Meaning) (seat : Seat) (held : IsHeld m seat) → seat.doubt ≡ Settled → IsSettled m seat held.bodies
settled_from m seat held is = let P : Doubt → Type 0 = λ d. IsIn d m seat held.bodies held.others in subst P is held.doubted

pub held_settled : (m : Meaning) (seat : Seat) (bodies : List (List ℕ)) → IsSettled m seat bodies → seat.doubt ≡ Settled → IsHeld m seat
held_settled m seat bodies settled is =
    let P : Doubt → Type 0 = λ d. IsIn d m seat bodies [] in
    record { ended = settled.ended; bodies = bodies; others = []; doubted = subst P (sym is) settled }

-- the end of a walk decides which of the two it is
pub held_of : (m : Meaning) (seat : Seat) → IsWalkedOrHeld m seat → seat.ended ≡ true → IsHeld m seat
held_of m seat stands is = ⊎_elim (λ (way : IsUnderWay m seat). absurd (false≢true (sym way.walked.walking ∙ is))) (λ (held : IsHeld m seat). held) stands

pub way_of : (m : Meaning) (seat : Seat) → IsWalkedOrHeld m seat → seat.ended ≡ false → IsUnderWay m seat
way_of m seat stands is = ⊎_elim (λ (way : IsUnderWay m seat). way) (λ (held : IsHeld m seat). absurd (false≢true (sym is ∙ held.ended))) stands

-- what is read reaches to the used length
ends_within : (bare : Bool) (F area : List ℕ) (used : ℕ) → used ≡ length F → EndsIn bare F area → used ≤ length area
ends_within true F area used place is = omega (arith, place, ap length is)
ends_within false F area used place closed = let long : used < length area = within F used place area closed.gate closed.tail closed.split in omega (arith, long)

module _ (m : Meaning) (seat : Seat) (bodies others : List (List ℕ)) (reads : m.images m.reads) where
  settled_within : IsSettled m seat bodies → seat.used ≤ length (area_of seat.area m.reads)
  settled_within settled = ends_within seat.bare (front seat.limit bodies) (area_of seat.area m.reads) seat.used settled.placed.place (settled.leaves m.reads reads).here

  in_within : (doubt : Doubt) → IsIn doubt m seat bodies others → seat.used ≤ length (area_of seat.area m.reads)
  in_within Settled is = settled_within is
  in_within Body is = settled_within is
  in_within Gate is = let long : seat.used < length (area_of seat.area m.reads) = gate_doubt_within seat bodies m others reads is in omega (arith, long)
  in_within Edge is = edge_doubt_within seat bodies m reads is
  in_within Other is = settled_within is
  in_within Head is = ends_within seat.bare (front seat.limit bodies) (area_of seat.area m.reads) seat.used is.placed.place (is.leaves m.reads reads).here

module _ (told : Type 0) (m : Meaning) (seat : Seat) (stands : ∥ (told → IsWalkedOrHeld m seat) ∥₁) (ended : seat.ended ≡ true) where
  pub held_within : m.images m.reads → told → seat.used ≤ length (area_of seat.area m.reads)
  held_within reads tells = ∥∥₁_elim stands le_prop (λ was. let held = held_of m seat (was tells) ended in in_within m seat held.bodies held.others reads seat.doubt held.doubted)

  pub held_gated : m.images m.reads → seat.doubt ≡ Settled → told → seat.bare ≡ false → seat.used < length (area_of seat.area m.reads)
  held_gated reads settled tells gated = ∥∥₁_elim stands le_prop (λ was. let held = held_of m seat (was tells) ended in gate_within seat held.bodies m reads gated (settled_from m seat held settled))

  -- after a call of a journal that was walked to its end
  pub held_after : (n : Meaning) (new : Seat) → (told → IsHeld m seat → IsHeld n new) → ∥ (told → IsWalkedOrHeld n new) ∥₁
  held_after n new goes = ∥∥₁_map stands (λ was tells. inr (goes tells (held_of m seat (was tells) ended)))

-- after a call of a journal that is walked
pub way_after : (told : Type 0) (m n : Meaning) (seat new : Seat) → ∥ (told → IsWalkedOrHeld m seat) ∥₁ → seat.ended ≡ false → (told → IsUnderWay m seat → IsWalkedOrHeld n new) → ∥ (told → IsWalkedOrHeld n new) ∥₁
way_after told m n seat new stands walking goes = ∥∥₁_map stands (λ was tells. goes tells (way_of m seat (was tells) walking))

-- after a call that changed nothing
pub way_stays : (m n : Meaning) (seat : Seat) → CountsNow n → Stays m n → IsUnderWay m seat → IsUnderWay n seat
way_stays m n seat counts stays way = record {
  settled = way.settled;
  bodies = way.bodies;
  walked = walked_after m n seat way.bodies counts stays way.walked;
  next = ⊎_elim
      (λ (same : seat.reach ≡ seat.used). inl same)
      (λ (found : (k : ℕ) × IsBefore m seat k way.bodies).
      let was = found.1.walked in
      let w = walked_after m n seat way.bodies counts stays was in
      inr (
        found.0,
        record {
          walked = record {
            placed = w.placed;
            still = w.still;
            selected = w.selected;
            walking = w.walking;
            size = w.size;
            rest = was.rest;
            split = ap (area_of seat.area) stays.reads ∙ was.split;
          };
          next = found.1.next;
          reach = found.1.reach;
        },
      ))
      way.next;
}

-- the seat once it is known whether a frame comes next
abbrev pub found_seat : Seat → Option ℕ → Seat
found_seat seat None = record {
  area = seat.area;
  limit = seat.limit;
  size = seat.size;
  used = seat.used;
  reach = seat.used;
  ended = true;
  bare = eqb seat.size seat.used;
  doubt = seat.doubt;
}
found_seat seat (Some n) = record {
  area = seat.area;
  limit = seat.limit;
  size = seat.size;
  used = seat.used;
  reach = seat.used + 9 + n;
  ended = seat.ended;
  bare = seat.bare;
  doubt = seat.doubt;
}

module _ (old new : Meaning) (seat : Seat) (bodies : List (List ℕ)) (counts : CountsNow new) (stays : Stays old new) (walked : IsWalked old seat bodies) where
  here : IsWalked new seat bodies
  here = walked_after old new seat bodies counts stays walked

  rest : drop seat.used (area_of seat.area old.reads) ≡ here.rest
  rest = ap (λ (all : Areas). drop seat.used (area_of seat.area all)) (sym stays.reads) ∙ rest_is new seat bodies here

  -- the walk has ended, or is before the frame
  pub found_next : (found : Option ℕ)
      → MatchOption found (IsShut (drop seat.used (area_of seat.area old.reads))) (λ n. BeginsWithFrame n (drop seat.used (area_of seat.area old.reads)))
      → MatchOption found (IsSettled new (found_seat seat None) bodies) (λ n. IsBefore new (found_seat seat (Some n)) n bodies)
  found_next None shut = record {
    placed = record { in_range = walked.placed.in_range; some = walked.placed.some; place = walked.placed.place };
    ended = refl;
    leaves = end_leaves new seat bodies (eqb seat.size seat.used) here (subst IsShut rest shut) (eqb-true seat.size seat.used) (eqb-false seat.size seat.used);
  }
  found_next (Some n) begins = record {
    walked = record {
      placed = record { in_range = walked.placed.in_range; some = walked.placed.some; place = walked.placed.place };
      still = here.still;
      selected = here.selected;
      walking = here.walking;
      size = here.size;
      rest = here.rest;
      split = here.split;
    };
    next = subst (BeginsWithFrame n) rest begins;
    reach = refl;
  }

  pub found_stands : (found : Option ℕ) → seat.doubt ≡ Settled
      → MatchOption found (IsShut (drop seat.used (area_of seat.area old.reads))) (λ n. BeginsWithFrame n (drop seat.used (area_of seat.area old.reads)))
      → IsWalkedOrHeld new (found_seat seat found)
  found_stands None settled shut = inr (held_settled new (found_seat seat None) bodies (found_next None shut) settled)
  found_stands (Some n) settled begins =
      let before = found_next (Some n) begins in
      inl (record { settled = settled; bodies = bodies; walked = before.walked; next = inr (n, before) })

not_true : (b : Bool) → (b ≡ true → ⊥) → b ≡ false
not_true true never = absurd (never refl)
not_true false never = refl

-- before a frame the walk hasn't ended
pub still_walking : (seat : Seat) (n : ℕ) → (seat.ended ≡ true → seat.reach ≡ seat.used) → seat.reach ≡ seat.used + 9 + n → seat.ended ≡ false
still_walking seat n behind before = not_true seat.ended (λ is. let same : seat.reach ≡ seat.used = behind is in omega (arith, same, before))

-- it is before the frame that it found
pub way_before : (m : Meaning) (seat : Seat) (n : ℕ) (way : IsUnderWay m seat) → seat.reach ≡ seat.used + 9 + n → IsBefore m seat n way.bodies
way_before m seat n way before =
    ⊎_elim
    (λ (same : seat.reach ≡ seat.used). absurd (omega (arith, same, before)))
    (λ (found : (k : ℕ) × IsBefore m seat k way.bodies).
    let there : seat.reach ≡ seat.used + 9 + found.0 = found.1.reach in
    subst (λ (k : ℕ). IsBefore m seat k way.bodies) (omega (arith, there, before)) found.1)
    way.next

-- the seat behind the frame that was found
abbrev pub behind_seat : Seat → Seat
behind_seat seat = record {
  area = seat.area;
  limit = seat.limit;
  size = seat.size;
  used = seat.reach;
  reach = seat.reach;
  ended = seat.ended;
  bare = seat.bare;
  doubt = seat.doubt;
}

module _ (old new : Meaning) (seat : Seat) (n : ℕ) (bodies : List (List ℕ)) (counts : CountsNow new) (stays : Stays old new) (before : IsBefore old seat n bodies) (reach : seat.reach ≡ seat.used + 9 + n) where
  -- the walk is behind its body, which was read full
  pub behind_next : (room was : List ℕ) → n ≡ length was → (count : ℕ) → count ≡ length was → room ≡ take count (drop (seat.used + 9) (area_of seat.area old.reads)) ++ drop count was
      → IsWalked new (behind_seat seat) (bodies ++ room ∷ [])
  behind_next room was size count full bytes =
      let walked = walked_after old new seat bodies counts stays before.walked in
      let read : room ≡ before.next.body =
      room_is room was (drop (seat.used + 9) (area_of seat.area old.reads)) count full bytes
      ∙ ap (λ (k : ℕ). take k (drop (seat.used + 9) (area_of seat.area old.reads))) (sym size) ∙ next_here old seat n bodies before in
      let same = sym read in
      record {
        placed = record {
          in_range = before.walked.placed.in_range;
          some = subst (λ (b : List ℕ). AreSome (bodies ++ b ∷ [])) same (next_some old seat n bodies before);
          place = reach ∙ next_place old seat n bodies before ∙ ap (λ (b : List ℕ). length (front seat.limit (bodies ++ b ∷ []))) same;
        };
        still = walked.still;
        selected = walked.selected;
        walking = walked.walking;
        size = walked.size;
        rest = before.next.more;
        split = ap (area_of seat.area) stays.reads ∙ next_split old seat n bodies before ∙ ap (λ (b : List ℕ). front seat.limit (bodies ++ b ∷ []) ++ before.next.more) same;
      }

-- behind the body of that frame
pub way_behind : (n : Meaning) (old new : Seat) (bodies : List (List ℕ)) → IsWalked n new bodies → new.doubt ≡ old.doubt → old.doubt ≡ Settled → new.reach ≡ new.used → IsWalkedOrHeld n new
way_behind n old new bodies walked same settled here = inl (record { settled = same ∙ settled; bodies = bodies; walked = walked; next = inl here })
