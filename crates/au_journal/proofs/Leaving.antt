-- From what a crash may leave before a call to what it may leave after.
use Rattle.std.proofs.Common.{◌≡◌, ◌≢◌, ⊎_elim, ℕ, List, Result, Ok, Err, OnOk, is_err, true, false, sym, ◌∙◌, ap, subst}
use Rattle.au_io.specs.declared.disk.Area.{Area}
use Rattle.au_io.specs.declared.disk.Area.TheVariants.{Head, A, B}
use Rattle.au_io.specs.Areas.{Areas, area_of, with_area, On}
use Rattle.au_io.specs.Disk.{Meaning, Passes, Follows, Stays}
use Rattle.au_io.specs.Moments.{Leaves, LeavesSince, CountsNow, area_with, at_last, weaker, weaker_since, one_call}
use Rattle.au_journal.specs.Images.{AnyBytes, Selects, In, IsSafe}

still_selected : (area : Area) (R : List ℕ → List ℕ → Type 0) (d c : Areas) → On area R d c → Selects area d.head → Selects area c.head
still_selected Head R d c on selected = absurd selected
still_selected A R d c on selected = subst (λ (l : List ℕ). Selects A l) (sym (on.elsewhere Head (λ (e : Head ≡ A). cc))) selected
still_selected B R d c on selected = subst (λ (l : List ℕ). Selects B l) (sym (on.elsewhere Head (λ (e : Head ≡ B). cc))) selected

-- a step of the selected area
pub step_in : (area : Area) (P Q R : List ℕ → Type 0) (step : List ℕ → List ℕ → Type 0) → ((d c : List ℕ) → P d → step d c → Q c)
    → (d c : Areas) → In area P d → On area step d c → In area Q c
step_in area P Q R step takes d c was on = record { selected = still_selected area step d c on was.selected; here = takes (area_of area d) (area_of area c) was.here on.here }

-- a weaker property of the area
pub in_weaker : (area : Area) (P Q : List ℕ → Type 0) → ((c : List ℕ) → P c → Q c) → (c : Areas) → In area P c → In area Q c
in_weaker area P Q to c was = record { selected = was.selected; here = to (area_of area c) was.here }

pub leaves_weaker : (area : Area) (P Q : List ℕ → Type 0) (m : Meaning) → ((c : List ℕ) → P c → Q c) → Leaves (In area P) m → Leaves (In area Q) m
leaves_weaker area P Q m to leaves = weaker (In area P) (In area Q) m (in_weaker area P Q to) leaves

pub since_weaker : (area : Area) (P Q : List ℕ → Type 0) (old new : Meaning) → ((c : List ℕ) → P c → Q c) → LeavesSince (In area P) old new → LeavesSince (In area Q) old new
since_weaker area P Q old new to leaves = weaker_since (In area P) (In area Q) old new (in_weaker area P Q to) leaves

pub on_ok : {X E : Type 0} (r : Result X E) (P Q : Type 0) → (P → Q) → OnOk r P → OnOk r Q
on_ok (Ok x) P Q to p = to p
on_ok (Err e) P Q to p = p

pub from_ok : {X E : Type 0} (r : Result X E) (P : Type 0) → false ≡ is_err r → OnOk r P → P
from_ok (Ok x) P is p = p
from_ok (Err e) P is p = absurd (let no : false ≡ true = is in cc)

pub on_both : {X E : Type 0} (r : Result X E) (P Q S : Type 0) → (P → Q → S) → OnOk r P → OnOk r Q → OnOk r S
on_both (Ok x) P Q S to p q = to p q
on_both (Err e) P Q S to p q = p

-- a write to the selected area that was synced
module _ (area : Area) (P Q S : List ℕ → Type 0) (step : List ℕ → List ℕ → Type 0) (old new : Meaning)
    (takes : (d c : List ℕ) → P d → step d c → Q c) (leaves : Leaves (In area P) old) (follows : Follows (On area step) old new) where
  pub wrote : LeavesSince (In area Q) old new
  wrote = one_call (In area P) (In area Q) (On area step) old new (step_in area P Q Q step takes) leaves follows

  pub written : (bytes : List ℕ) → CountsNow new → Passes old new → S bytes → IsSafe area new → new.reads ≡ with_area area bytes old.reads → Leaves (In area S) new
  written bytes counts time has safe reads c image =
      let was = at_last (In area Q) old new counts time wrote c image in
      record { selected = was.selected; here = subst S (sym (safe c image ∙ ap (area_of area) reads ∙ area_with area bytes old.reads)) has }

-- a call, and one that changes nothing
pub stays_follows : (step : Areas → Areas → Type 0) (old mid new : Meaning) → CountsNow mid → Passes old mid → Follows step old mid → Stays mid new → Follows step old new
stays_follows step old mid new counts time follows stays c since =
    ⊎_elim (follows c) (λ late. follows c (counts old.moment c time.later (stays.images c late))) (stays.time.splits old.moment c time.later since)

-- two calls of one area
pub both_follow : (area : Area) (old mid new : Meaning) → CountsNow mid → Passes old mid → Passes mid new → Follows (On area AnyBytes) old mid → Follows (On area AnyBytes) mid new → Follows (On area AnyBytes) old new
both_follow area old mid new counts before after first second c since =
    ⊎_elim (first c)
    (λ late. let two = second c late in let one = first two.0 (counts old.moment two.0 before.later two.1) in
    (one.0, one.1, record { here = tt; elsewhere = λ other (e : other ≢ area). two.2.elsewhere other e ∙ one.2.elsewhere other e }))
    (after.splits old.moment c before.later since)

pub any_bytes : (area : Area) (step : List ℕ → List ℕ → Type 0) (old new : Meaning) → Follows (On area step) old new → Follows (On area AnyBytes) old new
any_bytes area step old new follows c since = let from = follows c since in (from.0, from.1, record { here = tt; elsewhere = from.2.elsewhere })
