-- What the bytes of areas say is one thing: that none is formatted, a first damage, or bodies that are replayed.
use Rattle.std.proofs.Common.{◌≡◌, ◌⊎◌, inl, inr, ⊎_elim, ℕ, ◌<◌, ◌≤◌, ◌^◌, List, [], ◌∷◌, ◌++◌, length, take, drop, refl, sym, ◌∙◌, ap, subst, arith, append_assoc, length-append, take-append-drop}
use Rattle.std.proofs.lemmas.List.{take_at, drop_at}
use Rattle.std.specs.List.{flat_map}
use Rattle.au_entries.specs.declared.kept.Kept.{Kept}
use Rattle.au_io.specs.declared.disk.Area.{Area}
use Rattle.au_io.specs.Areas.{Areas, area_of, IsBounded}
use Rattle.au_journal.specs.Frames.{frame, front, header, spelled, IsBroken, IsLimit, IsOpen, IsShut, Stands}
use Rattle.au_journal.specs.Images.{Selects}
use Rattle.au_journal.specs.Walk.{HeadDamage, IsDamaged, IsFormatted, IsNamed, IsUnformatted}
use Rattle.rec_codec.specs.declared.frame.Frame.{Frame}
use Rattle.rec_codec.specs.Frames.{IsFrame}
use Rattle.au_step.specs.State.{State}
use Rattle.au_store.specs.declared.open_fault.OpenFault.{OpenFault}
use Rattle.au_store.specs.declared.open_fault.OpenFault.TheVariants as fault
use Rattle.au_store.specs.Opened.{AreReplayable, CannotFollow, IsAt, IsFrameDamage}
use Rattle.au_store.specs.Recovery.{BeginsBy, GoesOnBy, GoesOnTo, ReadsAs, Replayed}
use Rattle.au_store.specs.Starting.{IsOfBytes, IsOpened, OpenSays}
use Rattle.au_store.proofs.Frames.{spelled_some}
use Rattle.au_store.proofs.Once.{OneSelected}

-- a body is spelled in one way, whatever stands behind it
abbrev pub OneBody : Type 0
OneBody = (a b x y : List ℕ) → length (spelled b ++ y) < 2 ^ 64 → spelled a ++ x ≡ spelled b ++ y → (a ≡ b) × (x ≡ y)

-- the longer list of bodies goes on, behind the shorter one, by a body
abbrev GoesOn : List (List ℕ) → List (List ℕ) → List ℕ → List ℕ → Type 0
GoesOn short long x y = (body : List ℕ) × (more : List (List ℕ)) × (long ≡ short ++ body ∷ more) × (x ≡ frame body ++ (flat_map frame more ++ y))

-- two lists of bodies in the same bytes, and what comes behind each: they are the same, or one goes on
abbrev Meets : List (List ℕ) → List (List ℕ) → List ℕ → List ℕ → Type 0
Meets ls rs x y = ((ls ≡ rs) × (x ≡ y)) ⊎ (GoesOn ls rs x y ⊎ GoesOn rs ls y x)

meets_more : (a b : List ℕ) (ls rs : List (List ℕ)) (x y : List ℕ) → a ≡ b → Meets ls rs x y → Meets (a ∷ ls) (b ∷ rs) x y
meets_more a b ls rs x y one meets =
    ⊎_elim
    (λ (same : (ls ≡ rs) × (x ≡ y)). inl (ap (λ (l : List ℕ). l ∷ ls) one ∙ ap (λ (l : List (List ℕ)). b ∷ l) same.0, same.1))
    (λ (rest : GoesOn ls rs x y ⊎ GoesOn rs ls y x).
    ⊎_elim
    (λ (on : GoesOn ls rs x y). inr (inl (on.0, on.1, ap (λ (l : List ℕ). l ∷ rs) (sym one) ∙ ap (λ (l : List (List ℕ)). a ∷ l) on.2, on.3)))
    (λ (on : GoesOn rs ls y x). inr (inr (on.0, on.1, ap (λ (l : List ℕ). l ∷ ls) one ∙ ap (λ (l : List (List ℕ)). b ∷ l) on.2, on.3)))
    rest)
    meets

-- a body that is replayed behind others can follow them
goes_split : (bodies : List (List ℕ)) (body : List ℕ) (more : List (List ℕ)) (kept after : Kept) → GoesOnTo kept (bodies ++ body ∷ more) after
    → (mid : Kept) × (next : Kept) × GoesOnTo kept bodies mid × GoesOnBy mid body next
goes_split [] body more kept after goes = (kept, goes.0, refl, goes.1)
goes_split (first ∷ bodies) body more kept after goes =
    let on = goes_split bodies body more goes.0 after goes.2 in
    (on.0, on.1, (goes.0, goes.1, on.2), on.3)

can_follow : (bodies : List (List ℕ)) (body : List ℕ) (more : List (List ℕ)) (kept : Kept) → Replayed (bodies ++ body ∷ more) kept → CannotFollow bodies body → ⊥
can_follow [] body more kept so never = never so.0 so.1
can_follow (first ∷ bodies) body more kept so never =
    let on = goes_split bodies body more so.0 kept so.2 in
    never on.0 on.1 (so.0, so.1, on.2) on.3

frame_some : (body : List ℕ) (f : Frame) → IsFrame body f → 0 < length body
frame_some body f is = subst (λ (l : List ℕ). 0 < length l) (sym is.bytes_are) (spelled_some f)

body_some : (bodies : List (List ℕ)) (body : List ℕ) (more : List (List ℕ)) (kept : Kept) → Replayed (bodies ++ body ∷ more) kept → 0 < length body
body_some [] body more kept so = let by : BeginsBy body so.0 = so.1 in frame_some body by.frame by.spelled
body_some (first ∷ bodies) body more kept so =
    let on = goes_split bodies body more so.0 kept so.2 in
    let by : GoesOnBy on.0 body on.1 = on.3 in
    frame_some body by.frame by.spelled

replayed_of : (bodies : List (List ℕ)) (body : List ℕ) (more : List (List ℕ)) → AreReplayable (bodies ++ body ∷ more) → (kept : Kept) × Replayed (bodies ++ body ∷ more) kept
replayed_of [] body more are = are
replayed_of (first ∷ bodies) body more are = are

-- what is wrong at a gate
abbrev Wrong : List (List ℕ) → List ℕ → Type 0
Wrong bodies rest = IsBroken rest ⊎ ((body more : List ℕ) × (rest ≡ frame body ++ more) × CannotFollow bodies body)

wrong_open : (bodies : List (List ℕ)) (rest : List ℕ) → Wrong bodies rest → IsOpen rest
wrong_open bodies rest wrong =
    ⊎_elim
    (λ (broken : IsBroken rest). broken.opens)
    (λ (other : (body more : List ℕ) × (rest ≡ frame body ++ more) × CannotFollow bodies body). subst IsOpen (sym other.2) refl)
    wrong

open_or_shut : (l : List ℕ) → IsOpen l → IsShut l → ⊥
open_or_shut [] opens shut = opens
open_or_shut (x ∷ l) opens shut = shut opens

-- an area that begins with a header and an open gate
record Headed (area : List ℕ) : Type 0 where
  pub limit : ℕ
  pub in_range : IsLimit limit
  pub tail : List ℕ
  pub opens : IsOpen tail
  pub split : area ≡ header limit ++ tail

open_some : (l : List ℕ) → IsOpen l → 1 ≤ length l
open_some [] opens = absurd opens
open_some (x ∷ l) opens = omega arith

headed_formatted : (area : List ℕ) → Headed area → IsFormatted area
headed_formatted area headed = record {
  long = omega (arith, ap length headed.split, length-append (header headed.limit) headed.tail, open_some headed.tail headed.opens);
  opens = subst IsOpen (sym headed.split) refl;
}

front_14 : (limit : ℕ) (tail : List ℕ) → IsOpen tail → take 14 (header limit ++ tail) ≡ header limit ++ 165 ∷ []
front_14 limit [] opens = absurd opens
front_14 limit (x ∷ tail) opens =
    ap (λ (l : List ℕ). take 14 l) (sym (append_assoc (header limit) (x ∷ []) tail)) ∙ take_at (header limit ++ x ∷ []) tail 14 refl
    ∙ ap (λ (g : ℕ). header limit ++ g ∷ []) opens

header_sound : (limit : ℕ) → IsLimit limit → (at : ℕ) → HeadDamage (header limit ++ 165 ∷ []) at → ⊥
header_sound limit in_range at damage = elim damage [
  | inl unnamed ↦ unnamed.1 refl
  | inr rest ↦ elim rest [
    | inl unlimited ↦ unlimited.2 limit in_range refl
    | inr shut ↦ shut.4 refl
  ]
]

headed_sound : (area : List ℕ) → Headed area → (at : ℕ) → HeadDamage (take 14 area) at → ⊥
headed_sound area headed at damage =
    header_sound headed.limit headed.in_range at
    (subst (λ (l : List ℕ). HeadDamage l at) (ap (λ (l : List ℕ). take 14 l) headed.split ∙ front_14 headed.limit headed.tail headed.opens) damage)

-- the damage of a head is one
begins_so : (h : List ℕ) (limit : ℕ) → take 13 h ≡ header limit → h ≡ header limit ++ drop 13 h
begins_so h limit is = sym (take-append-drop 13 h) ∙ ap (λ (l : List ℕ). l ++ drop 13 h) is

named_so : (h : List ℕ) (limit : ℕ) → take 13 h ≡ header limit → IsNamed h
named_so h limit is = subst IsNamed (sym (begins_so h limit is)) refl

limit_so : (h : List ℕ) (limit : ℕ) → take 13 h ≡ header limit → take 4 (drop 9 h) ≡ take 4 (drop 9 (header limit ++ drop 13 h))
limit_so h limit is = ap (λ (l : List ℕ). take 4 (drop 9 l)) (begins_so h limit is)

heads_once : (h : List ℕ) (at place : ℕ) → HeadDamage h at → HeadDamage h place → at ≡ place
heads_once h at place one two = elim one [
  | inl a ↦ elim two [
    | inl b ↦ a.0 ∙ sym b.0
    | inr more ↦ elim more [
      | inl b ↦ absurd (a.1 b.1)
      | inr c ↦ absurd (a.1 (named_so h c.1 c.3))
    ]
  ]
  | inr more ↦ elim more [
    | inl b ↦ elim two [
      | inl a ↦ absurd (a.1 b.1)
      | inr more2 ↦ elim more2 [
        | inl b2 ↦ b.0 ∙ sym b2.0
        | inr c ↦ absurd (b.2 c.1 c.2 (limit_so h c.1 c.3))
      ]
    ]
    | inr c ↦ elim two [
      | inl a ↦ absurd (a.1 (named_so h c.1 c.3))
      | inr more2 ↦ elim more2 [
        | inl b ↦ absurd (b.2 c.1 c.2 (limit_so h c.1 c.3))
        | inr c2 ↦ c.0 ∙ sym c2.0
      ]
    ]
  ]
]

-- the areas of frames, and of a damage among them
frames_open : (bodies : List (List ℕ)) (rest : List ℕ) → IsOpen rest → IsOpen (flat_map frame bodies ++ rest)
frames_open [] rest opens = opens
frames_open (body ∷ bodies) rest opens = refl

at_headed : (all : Areas) (area : Area) (at : ℕ) (bodies : List (List ℕ)) (rest : List ℕ) → IsAt all area at bodies rest → IsOpen rest → Headed (area_of area all)
unfolding front
at_headed all area at bodies rest here opens = record {
  limit = here.limit;
  in_range = here.in_range;
  tail = flat_map frame bodies ++ rest;
  opens = frames_open bodies rest opens;
  split = here.split ∙ append_assoc (header here.limit) (flat_map frame bodies) rest;
}

stands_headed : (limit : ℕ) (bodies : List (List ℕ)) (kept : Kept) (area : List ℕ) → Stands limit bodies area → Replayed bodies kept → Headed area
unfolding front
stands_headed limit [] kept area stands so = absurd so
stands_headed limit (body ∷ bodies) kept area stands so = record {
  limit = limit;
  in_range = stands.in_range;
  tail = flat_map frame (body ∷ bodies) ++ stands.rest;
  opens = refl;
  split = stands.split ∙ append_assoc (header limit) (flat_map frame (body ∷ bodies)) stands.rest;
}

-- a damage of the areas, in a head or in frames
abbrev pub Damage : Areas → Area → ℕ → Type 0
Damage all area at = IsDamaged all area at ⊎ IsFrameDamage all area at

pub damaged_formatted : (all : Areas) (area : Area) (at : ℕ) → Damage all area at → IsUnformatted all → ⊥
damaged_formatted all area at damage none =
    ⊎_elim
    (λ (head : IsDamaged all area at). none area head.selected head.formatted)
    (λ (among : IsFrameDamage all area at).
    none area among.2.selected (headed_formatted (area_of area all) (at_headed all area at among.0 among.1 among.2 (wrong_open among.0 among.1 among.3))))
    damage

pub reads_formatted : (all : Areas) (kept : Kept) → ReadsAs kept all → IsUnformatted all → ⊥
reads_formatted all kept reads none =
    none reads.area reads.held.selected (headed_formatted (area_of reads.area all) (stands_headed reads.limit reads.bodies kept (area_of reads.area all) reads.held.here reads.so))

damage_selects : (all : Areas) (area : Area) (at : ℕ) → Damage all area at → Selects area all.head
damage_selects all area at damage = ⊎_elim (λ (head : IsDamaged all area at). head.selected) (λ (among : IsFrameDamage all area at). among.2.selected) damage

-- with the laws of the journal: a body is spelled in one way, and Head selects one area
module _ (one_body : OneBody) (selects_once : OneSelected) where
  frames_meet : (ls rs : List (List ℕ)) (x y : List ℕ) → length (flat_map frame rs ++ y) < 2 ^ 64 → flat_map frame ls ++ x ≡ flat_map frame rs ++ y → Meets ls rs x y
  frames_meet [] [] x y small same = inl (refl, same)
  frames_meet [] (b ∷ rs) x y small same = inr (inl (b, rs, refl, same ∙ append_assoc (frame b) (flat_map frame rs) y))
  frames_meet (a ∷ ls) [] x y small same = inr (inr (a, ls, refl, sym same ∙ append_assoc (frame a) (flat_map frame ls) x))
  frames_meet (a ∷ ls) (b ∷ rs) x y small same =
      let inner : spelled a ++ (flat_map frame ls ++ x) ≡ spelled b ++ (flat_map frame rs ++ y) =
      sym (append_assoc (spelled a) (flat_map frame ls) x) ∙ ap (λ (l : List ℕ). drop 1 l) same ∙ append_assoc (spelled b) (flat_map frame rs) y in
      let less : length (spelled b ++ (flat_map frame rs ++ y)) < 2 ^ 64 = omega (arith, small, ap length (append_assoc (spelled b) (flat_map frame rs) y)) in
      meets_more a b ls rs x y (one_body a b (flat_map frame ls ++ x) (flat_map frame rs ++ y) less inner).0
      (frames_meet ls rs x y (omega (arith, less, length-append (spelled b) (flat_map frame rs ++ y)))
      (one_body a b (flat_map frame ls ++ x) (flat_map frame rs ++ y) less inner).1)

  fronts_meet : (limit other : ℕ) (ls rs : List (List ℕ)) (x y : List ℕ) → length (front other rs ++ y) < 2 ^ 64 → front limit ls ++ x ≡ front other rs ++ y → Meets ls rs x y
  unfolding front
  fronts_meet limit other ls rs x y small same =
      let whole : header limit ++ (flat_map frame ls ++ x) ≡ header other ++ (flat_map frame rs ++ y) =
      sym (append_assoc (header limit) (flat_map frame ls) x) ∙ same ∙ append_assoc (header other) (flat_map frame rs) y in
      frames_meet ls rs x y
      (omega (arith, small, ap length (append_assoc (header other) (flat_map frame rs) y), length-append (header other) (flat_map frame rs ++ y)))
      (sym (drop_at (header limit) (flat_map frame ls ++ x) 13 refl) ∙ ap (λ (l : List ℕ). drop 13 l) whole ∙ drop_at (header other) (flat_map frame rs ++ y) 13 refl)

  -- where a body that can follow comes, nothing is wrong
  nothing_wrong : (bodies : List (List ℕ)) (body : List ℕ) (more : List (List ℕ)) (kept : Kept) (rest z : List ℕ) → Replayed (bodies ++ body ∷ more) kept → rest ≡ frame body ++ z
      → length rest < 2 ^ 64 → Wrong bodies rest → ⊥
  nothing_wrong bodies body more kept rest z so is small wrong =
      ⊎_elim
      (λ (broken : IsBroken rest). broken.no_frame body z (body_some bodies body more kept so) is)
      (λ (other : (body2 more2 : List ℕ) × (rest ≡ frame body2 ++ more2) × CannotFollow bodies body2).
      let inner : spelled other.0 ++ other.1 ≡ spelled body ++ z = ap (λ (l : List ℕ). drop 1 l) (sym other.2 ∙ is) in
      can_follow bodies body more kept so (subst (λ (b : List ℕ). CannotFollow bodies b) (one_body other.0 body other.1 z (omega (arith, small, ap length is)) inner).0 other.3))
      wrong

  module _ (all : Areas) (bounded : IsBounded all) where
    below : (area : Area) → length (area_of area all) < 2 ^ 64
    below area = let small = bounded.each area in omega (arith, small)

    -- what reads as something has no damage
    reads_no_wrong : (kept : Kept) → ReadsAs kept all → (area : Area) (at : ℕ) → IsFrameDamage all area at → ⊥
    reads_no_wrong kept reads area at among =
        let here = among.2 in
        let stands = reads.held.here in
        let one = selects_once area reads.area all.head here.selected reads.held.selected in
        let split : front here.limit among.0 ++ among.1 ≡ front reads.limit reads.bodies ++ stands.rest = sym here.split ∙ ap (λ (a : Area). area_of a all) one ∙ stands.split in
        let small : length (front reads.limit reads.bodies ++ stands.rest) < 2 ^ 64 = subst (λ (l : List ℕ). length l < 2 ^ 64) stands.split (below reads.area) in
        let rest : length among.1 < 2 ^ 64 = omega (arith, small, ap length split, length-append (front here.limit among.0) among.1) in
        ⊎_elim
        (λ (same : (among.0 ≡ reads.bodies) × (among.1 ≡ stands.rest)). open_or_shut among.1 (wrong_open among.0 among.1 among.3) (subst IsShut (sym same.1) stands.shut))
        (λ (more : GoesOn among.0 reads.bodies among.1 stands.rest ⊎ GoesOn reads.bodies among.0 stands.rest among.1).
        ⊎_elim
        (λ (on : GoesOn among.0 reads.bodies among.1 stands.rest).
        nothing_wrong among.0 on.0 on.1 kept among.1 (flat_map frame on.1 ++ stands.rest) (subst (λ (l : List (List ℕ)). Replayed l kept) on.2 reads.so) on.3 rest among.3)
        (λ (on : GoesOn reads.bodies among.0 stands.rest among.1). subst IsShut on.3 stands.shut refl)
        more)
        (fronts_meet here.limit reads.limit among.0 reads.bodies among.1 stands.rest small split)

    pub reads_sound : (kept : Kept) → ReadsAs kept all → (area : Area) (at : ℕ) → Damage all area at → ⊥
    reads_sound kept reads area at damage =
        ⊎_elim
        (λ (head : IsDamaged all area at).
        let one = selects_once area reads.area all.head head.selected reads.held.selected in
        headed_sound (area_of reads.area all) (stands_headed reads.limit reads.bodies kept (area_of reads.area all) reads.held.here reads.so) at
        (subst (λ (a : Area). HeadDamage (take 14 (area_of a all)) at) one head.damage))
        (λ (among : IsFrameDamage all area at). reads_no_wrong kept reads area at among)
        damage

    -- the first damage is one
    among_once : (area other : Area) (at place : ℕ) → IsFrameDamage all area at → IsFrameDamage all other place → at ≡ place
    among_once area other at place a b =
        let one = selects_once area other all.head a.2.selected b.2.selected in
        let split : front a.2.limit a.0 ++ a.1 ≡ front b.2.limit b.0 ++ b.1 = sym a.2.split ∙ ap (λ (c : Area). area_of c all) one ∙ b.2.split in
        let small : length (front b.2.limit b.0 ++ b.1) < 2 ^ 64 = subst (λ (l : List ℕ). length l < 2 ^ 64) b.2.split (below other) in
        let left : length a.1 < 2 ^ 64 = omega (arith, small, ap length split, length-append (front a.2.limit a.0) a.1) in
        let right : length b.1 < 2 ^ 64 = omega (arith, small, length-append (front b.2.limit b.0) b.1) in
        ⊎_elim
        (λ (same : (a.0 ≡ b.0) × (a.1 ≡ b.1)).
        omega (arith, a.2.place, b.2.place, ap length split, ap length same.1, length-append (front a.2.limit a.0) a.1, length-append (front b.2.limit b.0) b.1))
        (λ (more : GoesOn a.0 b.0 a.1 b.1 ⊎ GoesOn b.0 a.0 b.1 a.1).
        ⊎_elim
        (λ (on : GoesOn a.0 b.0 a.1 b.1).
        let so = replayed_of a.0 on.0 on.1 (subst AreReplayable on.2 b.2.before) in
        absurd (nothing_wrong a.0 on.0 on.1 so.0 a.1 (flat_map frame on.1 ++ b.1) so.1 on.3 left a.3))
        (λ (on : GoesOn b.0 a.0 b.1 a.1).
        let so = replayed_of b.0 on.0 on.1 (subst AreReplayable on.2 a.2.before) in
        absurd (nothing_wrong b.0 on.0 on.1 so.0 b.1 (flat_map frame on.1 ++ a.1) so.1 on.3 right b.3))
        more)
        (fronts_meet a.2.limit b.2.limit a.0 b.0 a.1 b.1 small split)

    head_or_frames : (area other : Area) (at place : ℕ) → IsDamaged all area at → IsFrameDamage all other place → ⊥
    head_or_frames area other at place head among =
        let one = selects_once area other all.head head.selected among.2.selected in
        headed_sound (area_of other all) (at_headed all other place among.0 among.1 among.2 (wrong_open among.0 among.1 among.3)) at
        (subst (λ (a : Area). HeadDamage (take 14 (area_of a all)) at) one head.damage)

    pub damage_once : (area other : Area) (at place : ℕ) → Damage all area at → Damage all other place → at ≡ place
    damage_once area other at place one two = elim one [
      | inl head ↦ elim two [
        | inl head2 ↦
            let same = selects_once other area all.head head2.selected head.selected in
            heads_once (take 14 (area_of area all)) at place head.damage (subst (λ (a : Area). HeadDamage (take 14 (area_of a all)) place) same head2.damage)
        | inr among ↦ absurd (head_or_frames area other at place head among)
      ]
      | inr among ↦ elim two [
        | inl head ↦ absurd (head_or_frames other area place at head among)
        | inr among2 ↦ among_once area other at place among among2
      ]
    ]

  -- the bytes say one thing
  pub causes_once : (all : Areas) (why other : OpenFault) → IsBounded all → OpenSays all why → OpenSays all other → IsOfBytes why → IsOfBytes other → why ≡ other
  causes_once all fault.Disk other bounded a b of of2 = absurd of
  causes_once all fault.Memory other bounded a b of of2 = absurd of
  causes_once all fault.Unformatted fault.Disk bounded a b of of2 = absurd of2
  causes_once all fault.Unformatted fault.Memory bounded a b of of2 = absurd of2
  causes_once all fault.Unformatted fault.Unformatted bounded a b of of2 = refl
  causes_once all fault.Unformatted (fault.Damaged area at) bounded a b of of2 = absurd (damaged_formatted all area at b a)
  causes_once all fault.Unformatted fault.Worn bounded a b of of2 = absurd (reads_formatted all b.0 b.1 a)
  causes_once all (fault.Damaged area at) fault.Disk bounded a b of of2 = absurd of2
  causes_once all (fault.Damaged area at) fault.Memory bounded a b of of2 = absurd of2
  causes_once all (fault.Damaged area at) fault.Unformatted bounded a b of of2 = absurd (damaged_formatted all area at a b)
  causes_once all (fault.Damaged area at) (fault.Damaged other place) bounded a b of of2 =
      ap (λ (c : Area). fault.Damaged c at) (selects_once area other all.head (damage_selects all area at a) (damage_selects all other place b))
      ∙ ap (λ (n : ℕ). fault.Damaged other n) (damage_once all bounded area other at place a b)
  causes_once all (fault.Damaged area at) fault.Worn bounded a b of of2 = absurd (reads_sound all bounded b.0 b.1 area at a)
  causes_once all fault.Worn fault.Disk bounded a b of of2 = absurd of2
  causes_once all fault.Worn fault.Memory bounded a b of of2 = absurd of2
  causes_once all fault.Worn fault.Unformatted bounded a b of of2 = absurd (reads_formatted all a.0 a.1 b)
  causes_once all fault.Worn (fault.Damaged area at) bounded a b of of2 = absurd (reads_sound all bounded a.0 a.1 area at b)
  causes_once all fault.Worn fault.Worn bounded a b of of2 = refl

  -- and nothing of areas on which a store is opened
  pub opened_sound : (all : Areas) (why : OpenFault) (reading : ℕ) (m : State) → ((kept other : Kept) → ReadsAs kept all → ReadsAs other all → kept ≡ other) → IsBounded all
      → IsOpened all reading m → OpenSays all why → IsOfBytes why → ⊥
  opened_sound all fault.Disk reading m once bounded opened says of = of
  opened_sound all fault.Memory reading m once bounded opened says of = of
  opened_sound all fault.Unformatted reading m once bounded opened says of = reads_formatted all opened.kept opened.reads says
  opened_sound all (fault.Damaged area at) reading m once bounded opened says of = reads_sound all bounded opened.kept opened.reads area at says
  opened_sound all fault.Worn reading m once bounded opened says of =
      let fresh = opened.fresh in
      omega (arith, fresh, says.2, ap (λ (k : Kept). k.instance) (once opened.kept says.0 opened.reads says.1))
