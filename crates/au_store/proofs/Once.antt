-- Areas read as one thing.
use Rattle.std.proofs.Common.{◌≡◌, ℕ, ◌<◌, ◌^◌, List, length, subst, arith}
use Rattle.au_entries.specs.declared.kept.Kept.{Kept}
use Rattle.au_io.specs.declared.disk.Area.{Area}
use Rattle.au_io.specs.Areas.{Areas, area_of, IsBounded}
use Rattle.au_journal.specs.Frames.{front, Stands}
use Rattle.au_journal.specs.Images.{Closed, In, Selects}
use Rattle.au_store.specs.Opened.{IsBare}
use Rattle.au_store.specs.Recovery.{ReadsAs, RecoversTo, Replayed}
use Rattle.au_store.proofs.Reading.{OneFront, replayed_once}

below : (all : Areas) (area : Area) → IsBounded all → length (area_of area all) < 2 ^ 64
below all area bounded = let small = bounded.each area in omega (arith, small)

-- an area holds one list of bodies
abbrev pub OneList : Type 0
OneList = (limit other : ℕ) (bodies others : List (List ℕ)) (area : List ℕ) → length area < 2 ^ 64 → Stands limit bodies area → Stands other others area → bodies ≡ others

-- behind a closed gate it doesn't end where bodies end
abbrev pub NotBare : Type 0
NotBare = (limit other : ℕ) (bodies others : List (List ℕ)) (area : List ℕ) → length area < 2 ^ 64 → Closed (front limit bodies) area → area ≡ front other others → ⊥

-- Head selects one area
abbrev pub OneSelected : Type 0
OneSelected = (a b : Area) (head : List ℕ) → Selects a head → Selects b head → a ≡ b

module _ (stands_once : OneList) (closed_not_bare : NotBare) (selects_once : OneSelected) (all : Areas) (bounded : IsBounded all) where
  -- a selected area holds one list of bodies
  bodies_once : (a b : Area) (limit other : ℕ) (bodies others : List (List ℕ)) → In a (Stands limit bodies) all → In b (Stands other others) all → bodies ≡ others
  bodies_once a b limit other bodies others one two =
      let there = selects_once b a all.head two.selected one.selected in
      stands_once limit other bodies others (area_of a all) (below all a bounded) one.here (subst (λ (c : Area). Stands other others (area_of c all)) there two.here)

  pub reads_once : OneFront → (kept other : Kept) → ReadsAs kept all → ReadsAs other all → kept ≡ other
  reads_once one_front kept other one two =
      replayed_once one_front two.bodies kept other
      (subst (λ (l : List (List ℕ)). Replayed l kept) (bodies_once one.area two.area one.limit two.limit one.bodies two.bodies one.held two.held) one.so) two.so

  pub recovered_gated : (kept : Kept) → RecoversTo kept all → IsBare all → ⊥
  recovered_gated kept recovers bare =
      let there = selects_once bare.0 recovers.area all.head bare.3.selected recovers.held.selected in
      closed_not_bare recovers.limit bare.1 recovers.bodies bare.2 (area_of recovers.area all) (below all recovers.area bounded) recovers.held.here.gated
      (subst (λ (c : Area). area_of c all ≡ front bare.1 bare.2) there bare.4)

pub recovered_reads : (all : Areas) (kept : Kept) → RecoversTo kept all → ReadsAs kept all
recovered_reads all kept recovers = record {
  area = recovers.area;
  limit = recovers.limit;
  bodies = recovers.bodies;
  held = record { selected = recovers.held.selected; here = recovers.held.here.stands };
  so = recovers.so;
}
