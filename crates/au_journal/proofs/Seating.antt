-- What a walk knows after one more call of the disk.
use Rattle.std.proofs.Common.{◌≡◌, ◌≢◌, ℕ, ◌+◌, ◌≤◌, Bool, true, false, Option, Some, None, MatchOption, List, [], ◌∷◌, ◌++◌, length, take, drop, refl, sym, ◌∙◌, ap, subst, arith, append_assoc, length-append, take-append-drop}
use Rattle.std.specs.Int.{w64, to_be_bytes}
use Rattle.std.proofs.lemmas.List.{take_at, drop_at, drop_all, append-nil, drop-drop}
use Rattle.au_io.specs.Areas.{Areas, area_of}
use Rattle.au_io.specs.Disk.{Meaning, Stays}
use Rattle.au_io.specs.Moments.{Leaves, CountsNow}
use Rattle.au_journal.specs.declared.seat.Seat.{Seat}
use Rattle.au_journal.specs.Frames.{spelled, frame, header, front, IsShut, AreSome}
use Rattle.au_journal.specs.Images.{Selects, In, EndsIn}
use Rattle.au_journal.specs.Walk.{IsStill, IsWalked, IsBefore}
use Rattle.au_journal.proofs.Standing.{front-push, front-nil, length-spelled, some-push, ends_at}

pub still_after : (old new : Meaning) → CountsNow new → Stays old new → IsStill old → IsStill new
still_after old new counts stays still c image = still c (stays.images c (counts old.moment c stays.time.later image)) ∙ sym stays.reads

pub walked_after : (old new : Meaning) (seat : Seat) (bodies : List (List ℕ)) → CountsNow new → Stays old new → IsWalked old seat bodies → IsWalked new seat bodies
walked_after old new seat bodies counts stays walked = record {
  placed = walked.placed;
  still = still_after old new counts stays walked.still;
  selected = subst (λ (all : Areas). Selects seat.area all.head) (sym stays.reads) walked.selected;
  walking = walked.walking;
  size = walked.size ∙ ap (λ (all : Areas). length (area_of seat.area all)) (sym stays.reads);
  rest = walked.rest;
  split = ap (area_of seat.area) stays.reads ∙ walked.split;
}

-- what is left behind the used length
pub rest_is : (m : Meaning) (seat : Seat) (bodies : List (List ℕ)) (walked : IsWalked m seat bodies) → drop seat.used (area_of seat.area m.reads) ≡ walked.rest
rest_is m seat bodies walked = ap (λ (l : List ℕ). drop seat.used l) walked.split ∙ drop_at (front seat.limit bodies) walked.rest seat.used (sym walked.placed.place)

rest_length : (m : Meaning) (seat : Seat) (bodies : List (List ℕ)) (walked : IsWalked m seat bodies) → seat.size ≡ seat.used + length walked.rest
rest_length m seat bodies walked =
    omega (arith, walked.size, walked.placed.place, ap length walked.split, length-append (front seat.limit bodies) walked.rest)

-- at the end of the walk each image stands for the bodies
pub end_leaves : (m : Meaning) (seat : Seat) (bodies : List (List ℕ)) (bare : Bool) (walked : IsWalked m seat bodies) → IsShut walked.rest
    → (bare ≡ true → seat.size ≡ seat.used) → (bare ≡ false → seat.size ≢ seat.used) → Leaves (In seat.area (EndsIn bare (front seat.limit bodies))) m
end_leaves m seat bodies bare walked shut none some c image =
    let long = rest_length m seat bodies walked in
    let is = walked.still c image in
    let ends = ends_at bare (front seat.limit bodies) walked.rest (area_of seat.area m.reads) walked.split shut
    (λ (e : bare ≡ true). let same : seat.size ≡ seat.used = none e in omega (arith, same, long))
    (λ (e : bare ≡ false) (z : length walked.rest ≡ 0). some e (omega (arith, long, z))) in
    record {
      selected = subst (λ (all : Areas). Selects seat.area all.head) (sym is) walked.selected;
      here = subst (λ (all : Areas). EndsIn bare (front seat.limit bodies) (area_of seat.area all)) (sym is) ends;
    }

-- a body that comes next
module _ (m : Meaning) (seat : Seat) (n : ℕ) (bodies : List (List ℕ)) (before : IsBefore m seat n bodies) where
  abbrev area : List ℕ
  area = area_of seat.area m.reads

  abbrev body : List ℕ
  body = before.next.body

  frame_length : length (frame body) ≡ 9 + n
  frame_length = omega (arith, length-spelled body, before.next.size)

  pub next_split : area ≡ front seat.limit (bodies ++ body ∷ []) ++ before.next.more
  next_split =
      before.walked.split ∙ ap (λ (l : List ℕ). front seat.limit bodies ++ l) before.next.split
      ∙ sym (append_assoc (front seat.limit bodies) (frame body) before.next.more)
      ∙ ap (λ (l : List ℕ). l ++ before.next.more) (sym (front-push seat.limit bodies body))

  pub next_place : seat.used + 9 + n ≡ length (front seat.limit (bodies ++ body ∷ []))
  next_place = omega (arith, before.walked.placed.place, frame_length, ap length (front-push seat.limit bodies body), length-append (front seat.limit bodies) (frame body))

  pub next_fits : seat.used + 9 + n ≤ length area
  next_fits = omega (arith, next_place, ap length next_split, length-append (front seat.limit (bodies ++ body ∷ [])) before.next.more)

  pub next_some : AreSome (bodies ++ body ∷ [])
  next_some = some-push bodies body before.walked.placed.some (omega (arith, before.next.some, before.next.size))

  spelled_behind : (more : List ℕ) → drop 9 (frame body ++ more) ≡ body ++ more
  unfolding spelled
  spelled_behind more = ap (λ (l : List ℕ). drop 8 l) (append_assoc (to_be_bytes w64 (length body)) body more) ∙ drop_at (to_be_bytes w64 (length body)) (body ++ more) 8 refl

  pub next_here : take n (drop (seat.used + 9) area) ≡ body
  next_here =
      ap (λ (l : List ℕ). take n l) (sym (drop-drop 9 seat.used area)
      ∙ ap (λ (l : List ℕ). drop 9 l) (rest_is m seat bodies before.walked ∙ before.next.split) ∙ spelled_behind before.next.more)
      ∙ take_at body before.next.more n before.next.size

-- what the room has after it was read full
pub room_is : (room old d : List ℕ) (count : ℕ) → count ≡ length old → room ≡ take count d ++ drop count old → room ≡ take (length old) d
room_is room old d count full bytes =
    bytes ∙ ap (λ (k : ℕ). take k d ++ drop k old) full ∙ ap (λ (l : List ℕ). take (length old) d ++ l) (drop_all (length old) old (omega arith)) ∙ append-nil (take (length old) d)

-- an area that begins with a head
pub head_front : (area head : List ℕ) (limit : ℕ) → head ≡ take 14 area → head ≡ header limit ++ drop 13 head → area ≡ front limit [] ++ (drop 13 head ++ drop 14 area)
head_front area head limit is split =
    sym (take-append-drop 14 area) ∙ ap (λ (l : List ℕ). l ++ drop 14 area) (sym is ∙ split) ∙ append_assoc (header limit) (drop 13 head) (drop 14 area)
    ∙ ap (λ (l : List ℕ). l ++ (drop 13 head ++ drop 14 area)) (sym (front-nil limit))

pub none_of : (P : Type 0) (Q : ℕ → Type 0) (o : Option ℕ) → o ≡ None → MatchOption o P Q → P
none_of P Q o is all = subst (λ (x : Option ℕ). MatchOption x P Q) is all

pub some_of : (P : Type 0) (Q : ℕ → Type 0) (o : Option ℕ) (n : ℕ) → o ≡ Some n → MatchOption o P Q → Q n
some_of P Q o n is all = subst (λ (x : Option ℕ). MatchOption x P Q) is all
