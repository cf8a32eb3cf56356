-- What a journal stands for, settled or in doubt.
use Rattle.std.specs.Prelude.{◌≡◌, ◌≢◌, ◌<◌, ⊤, ℕ, ◌+◌, Bool, true, false, List, [], ◌∷◌, ◌++◌, length}
use Rattle.au_io.specs.declared.disk.Area.{Area}
use Rattle.au_io.specs.declared.disk.Area.TheVariants as area
use Rattle.au_io.specs.Areas.{Areas, area_of, with_area, overwritten}
use Rattle.au_io.specs.Disk.{Meaning}
use Rattle.au_io.specs.Moments.{Leaves}
use Rattle.au_journal.specs.declared.doubt.Doubt.{Doubt}
use Rattle.au_journal.specs.declared.doubt.Doubt.TheVariants.{Settled, Body, Gate, Edge, Other, Head}
use Rattle.au_journal.specs.declared.seat.Seat.{Seat}
use Rattle.au_journal.specs.Frames.{front, framed_of, new_rest, IsLimit, AreSome}
use Rattle.au_journal.specs.Images.{Closed, Doubted, TornEnd, EndsIn, In, MayStandFor, other_of, letter_of, IsSafe}
use Rattle.au_journal.specs.Lengths.{needed_behind, new_length, used_behind}

-- a body of at least one byte
abbrev pub IsSome : List ℕ → Type 0
IsSome body = 0 < length body

-- the bodies end at the used length
pub record IsPlaced (seat : Seat) (bodies : List (List ℕ)) : Type 0 where
  pub in_range : IsLimit seat.limit
  pub some : AreSome bodies
  pub place : seat.used ≡ length (front seat.limit bodies)

-- the bodies were walked, and each image stands for them
pub record IsSettled (m : Meaning) (seat : Seat) (bodies : List (List ℕ)) : Type 0 where
  pub placed : IsPlaced seat bodies
  pub ended : seat.ended ≡ true
  pub leaves : Leaves (In seat.area (EndsIn seat.bare (front seat.limit bodies))) m

-- the gate behind the bodies is in doubt: each image stands for the bodies, or for the others, which are those and one more
pub record IsGateDoubted (m : Meaning) (seat : Seat) (bodies others : List (List ℕ)) : Type 0 where
  pub placed : IsPlaced seat bodies
  pub ended : seat.ended ≡ true
  pub gated : seat.bare ≡ false
  pub body : List ℕ
  pub some : IsSome body
  pub more : others ≡ bodies ++ body ∷ []
  pub leaves : Leaves (In seat.area (Doubted (front seat.limit bodies) (framed_of body))) m

-- the end is in doubt: each image ends behind the bodies, or has there one byte of a gate
pub record IsEdgeDoubted (m : Meaning) (seat : Seat) (bodies : List (List ℕ)) : Type 0 where
  pub placed : IsPlaced seat bodies
  pub ended : seat.ended ≡ true
  pub bare : seat.bare ≡ true
  pub leaves : Leaves (In seat.area (TornEnd (front seat.limit bodies))) m

-- Other area written: the present area is the selected one and holds the bodies, and the other holds the others
pub record OtherWritten (seat : Seat) (bodies others : List (List ℕ)) (all : Areas) : Type 0 where
  pub present : In seat.area (EndsIn seat.bare (front seat.limit bodies)) all
  pub other : Closed (front seat.limit others) (area_of (other_of seat.area) all)

-- the present area holds the bodies and the other the others, whichever is selected
pub record BothStand (seat : Seat) (bodies others : List (List ℕ)) (all : Areas) : Type 0 where
  pub here : EndsIn seat.bare (front seat.limit bodies) (area_of seat.area all)
  pub there : Closed (front seat.limit others) (area_of (other_of seat.area) all)

-- the byte of Head is in doubt: each image has both areas
pub record IsHeadDoubted (m : Meaning) (seat : Seat) (bodies others : List (List ℕ)) : Type 0 where
  pub placed : IsPlaced seat bodies
  pub ended : seat.ended ≡ true
  pub has_frames : seat.area ≢ area.Head
  pub some : AreSome others
  pub leaves : Leaves (BothStand seat bodies others) m

-- which of them it is
abbrev pub IsIn : Doubt → Meaning → Seat → List (List ℕ) → List (List ℕ) → Type 0
IsIn Settled m seat bodies others = IsSettled m seat bodies
IsIn Body m seat bodies others = IsSettled m seat bodies
IsIn Gate m seat bodies others = IsGateDoubted m seat bodies others
IsIn Edge m seat bodies others = IsEdgeDoubted m seat bodies
IsIn Other m seat bodies others = IsSettled m seat bodies
IsIn Head m seat bodies others = IsHeadDoubted m seat bodies others

-- the journal stands for the bodies, or, in doubt, perhaps for these others
abbrev pub IsDoubted : Meaning → Seat → List (List ℕ) → List (List ℕ) → Type 0
IsDoubted m seat bodies others = IsIn seat.doubt m seat bodies others

-- what a failed append leaves in doubt: the bytes behind the gate, the gate, or the end of the area
abbrev pub AppendDoubts : Doubt → Type 0
AppendDoubts Settled = ⊥
AppendDoubts Body = ⊤
AppendDoubts Gate = ⊤
AppendDoubts Edge = ⊤
AppendDoubts Other = ⊥
AppendDoubts Head = ⊥

-- what a failed flip does: the other area, or the byte of Head
abbrev pub FlipDoubts : Doubt → Type 0
FlipDoubts Settled = ⊥
FlipDoubts Body = ⊥
FlipDoubts Gate = ⊥
FlipDoubts Edge = ⊥
FlipDoubts Other = ⊤
FlipDoubts Head = ⊤

-- where the others of a doubt stand: behind an append in the present area, behind a flip in the other
abbrev pub there_of : Doubt → Area → Area
there_of Settled area = area
there_of Body area = area
there_of Gate area = area
there_of Edge area = area
there_of Other area = other_of area
there_of Head area = other_of area

-- during a call from this seat: the present area holds the bodies, or that one is selected and holds the others
abbrev pub MayLeave : Seat → List (List ℕ) → Area → List (List ℕ) → Areas → Type 0
MayLeave seat bodies there others all = MayStandFor seat.bare seat.limit seat.area bodies there others all

-- framed bytes of a body of at least one byte
pub record IsFramed (bytes body : List ℕ) : Type 0 where
  pub is : bytes ≡ framed_of body
  pub some : 0 < length body

-- the seat behind n bytes more, with a gate there, no frame found behind it and no doubt
abbrev pub advanced : ℕ → Seat → Seat
advanced n seat = record {
  area = seat.area;
  limit = seat.limit;
  size = seat.size;
  used = used_behind seat.used n;
  reach = used_behind seat.used n;
  ended = seat.ended;
  bare = false;
  doubt = Settled;
}

-- the seat in the other area, behind one body that was given by n framed bytes
abbrev pub flipped : ℕ → Seat → Seat
flipped n seat = record {
  area = other_of seat.area;
  limit = seat.limit;
  size = seat.size;
  used = new_length n;
  reach = new_length n;
  ended = seat.ended;
  bare = false;
  doubt = Settled;
}

-- the seat at its used length, in that doubt
abbrev pub left_in : Doubt → Bool → Seat → Seat
left_in doubt bare seat = record {
  area = seat.area;
  limit = seat.limit;
  size = seat.size;
  used = seat.used;
  reach = seat.reach;
  ended = seat.ended;
  bare = bare;
  doubt = doubt;
}

-- whether the area ends at the used length once the doubt is mended
abbrev pub bare_after : Doubt → Bool → Bool
bare_after Settled bare = bare
bare_after Body bare = bare
bare_after Gate bare = bare
bare_after Edge bare = false
bare_after Other bare = bare
bare_after Head bare = bare

-- the seat once no body is in doubt
abbrev pub mended : Seat → Seat
mended seat = left_in Settled (bare_after seat.doubt seat.bare) seat

-- the same place and area, and a gate there if there was one
pub record IsUnmoved (old new : Seat) : Type 0 where
  pub area : new.area ≡ old.area
  pub limit : new.limit ≡ old.limit
  pub size : new.size ≡ old.size
  pub used : new.used ≡ old.used
  pub reach : new.reach ≡ old.reach
  pub ended : new.ended ≡ old.ended
  pub gated : old.bare ≡ false → new.bare ≡ false

-- the area's length with so many framed bytes more, where one of them is the next gate
abbrev pub needed_of : Seat → ℕ → ℕ
needed_of seat n = needed_behind seat.used n

-- an append of so many framed bytes isn't free, and needs more than the limit
pub record IsFullAt (seat : Seat) (free : Bool) (n needed limit : ℕ) : Type 0 where
  pub bound : free ≡ false
  pub needed_is : needed ≡ needed_of seat n
  pub limit_is : limit ≡ seat.limit
  pub exceeds : limit < needed

-- what the disk reads after an append: an open gate and the framed bytes from the used length on
abbrev pub with_frame : Seat → List ℕ → Areas → Areas
with_frame seat framed all = with_area seat.area (overwritten (area_of seat.area all) seat.used (165 ∷ framed)) all

-- with a closed gate at the used length
abbrev pub with_gate : Seat → Areas → Areas
with_gate seat all = with_area seat.area (overwritten (area_of seat.area all) seat.used (0 ∷ [])) all

-- with the letter of an area in Head
abbrev pub with_letter : Area → Areas → Areas
with_letter selected all = with_area area.Head (overwritten all.head 0 (letter_of selected ∷ [])) all

-- with a new area beside the present one, of the same limit and with these framed bytes, and its letter in Head
abbrev pub with_image : Seat → List ℕ → Areas → Areas
with_image seat framed all = with_letter (other_of seat.area) (with_area (other_of seat.area) (165 ∷ new_rest seat.limit framed) all)

-- what the disk reads after a mend: a byte is written anew where its write had begun, and none elsewhere
abbrev pub mended_reads : Doubt → Seat → Areas → Areas
mended_reads Settled seat all = all
mended_reads Body seat all = all
mended_reads Gate seat all = with_gate seat all
mended_reads Edge seat all = with_gate seat all
mended_reads Other seat all = all
mended_reads Head seat all = with_letter seat.area all

-- how many bytes a mend writes at most
abbrev pub mend_bytes : Doubt → ℕ
mend_bytes Settled = 0
mend_bytes Body = 0
mend_bytes Gate = 1
mend_bytes Edge = 1
mend_bytes Other = 0
mend_bytes Head = 1

-- a doubt that a sync alone ends, since the byte of the gate or of Head wasn't written
abbrev pub NeedsSyncAlone : Doubt → Type 0
NeedsSyncAlone Settled = ⊥
NeedsSyncAlone Body = ⊤
NeedsSyncAlone Gate = ⊥
NeedsSyncAlone Edge = ⊥
NeedsSyncAlone Other = ⊤
NeedsSyncAlone Head = ⊥

-- a mend has synced the area of the doubt
abbrev pub IsSynced : Doubt → Seat → Meaning → Type 0
IsSynced Settled seat m = ⊤
IsSynced Body seat m = IsSafe seat.area m
IsSynced Gate seat m = IsSafe seat.area m
IsSynced Edge seat m = IsSafe seat.area m
IsSynced Other seat m = IsSafe area.Head m
IsSynced Head seat m = IsSafe area.Head m
