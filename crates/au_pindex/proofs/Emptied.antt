-- What is left of buckets once those that have no place are gone.
use Rattle.std.proofs.Common.{◌≡◌, ◌∙◌, ◌<◌, refl, sym, ap, subst, ℕ, Bool, true, false, cond, List, [], ◌∷◌, Vec, Global, length, inl, inr, arith}
use Rattle.std.proofs.lemmas.Bool.Decides.{eqb_tells}
use Rattle.std.proofs.lemmas.Cmp.{eq_by_cmp_equiv}
use Rattle.std.proofs.lemmas.Map.{lookup-none}
use Rattle.std.proofs.lemmas.Map.Entries.{none_past_head}
use Rattle.std.proofs.lemmas.Map.Keys.{IsDistinct-from_sorted, sorted_tail}
use Rattle.std.specs.BTreeMap.{is_at}
use Rattle.std.specs.Cmp.{IsTotalOrder}
use Rattle.std.specs.List.{AllByRecursion, list_any}
use Rattle.std.specs.List.Sorted.{IsStrictlySortedBy}
use Rattle.std.specs.Map.{keys_of, lookup}
use Rattle.std.specs.Map.Calls.{RetainsPairs}
use Rattle.std.specs.Prelude.{◌==◌, Option, Some, None, not}
use Rattle.std.specs.declared.cmp.Ordering.{Ordering}
use Rattle.au_pindex.specs.Buckets.{places_of}

none_in : (items : List ℕ) → false ≡ not (length items == 0) → items ≡ []
none_in [] is = refl
none_in (x ∷ xs) is = elim (eqb_tells (length (x ∷ xs)) 0) [ inl e ↦ absurd (omega (arith, e.1)) | inr e ↦ absurd (let f : false ≡ true = is ∙ ap not e.0 in cc) ]

some_in : (items : List ℕ) → true ≡ not (length items == 0) → 0 < length items
some_in [] is = absurd (let e : true ≡ false = is in cc)
some_in (x ∷ xs) is = omega arith

-- what is known of a bucket that is shown as these
pub full_as : {S : Type 0} {f f' : S} (v w shown left : Vec ℕ Global) (b : Bool) → shown ≡ v → left ≡ w → b ≡ not (length shown.items == 0) → left.items ≡ shown.items → f' ≡ f → (b ≡ not (length v.items == 0)) × (w.items ≡ v.items) × (f' ≡ f)
full_as v w shown left b one two is same stays = (is ∙ ap (λ (z : Vec ℕ Global). not (length z.items == 0)) one, ap (λ (z : Vec ℕ Global). z.items) (sym two) ∙ same ∙ ap (λ (z : Vec ℕ Global). z.items) one, stays)

module _ {F K : Type 0} (T : F → K → Vec ℕ Global → Bool → Vec ℕ Global → F → Type 0) (f : F) where
  -- a bucket stays exactly where it has a place, and keeps its places
  abbrev pub StaysFull : Type 0
  StaysFull = (k : K) (v : Vec ℕ Global) (b : Bool) (w : Vec ℕ Global) (f' : F) → T f k v b w f' → (b ≡ not (length v.items == 0)) × (w.items ≡ v.items) × (f' ≡ f)

  module _ (each : StaysFull) where
    -- each bucket that is left has a place
    pub all_full : (es kept : List (K × Vec ℕ Global)) → RetainsPairs T f es kept → AllByRecursion (λ entry. 0 < length entry.1.items) kept
    all_full [] kept h = subst (AllByRecursion (λ (entry : K × Vec ℕ Global). 0 < length entry.1.items)) (sym h) tt
    all_full (e ∷ es) kept h =
        let said = each e.0 e.1 h.0 h.1 h.2 h.4 in
        let rest = all_full es h.3 (subst (λ g. RetainsPairs T g es h.3) said.2 h.5) in
        subst (AllByRecursion (λ (entry : K × Vec ℕ Global). 0 < length entry.1.items)) (sym h.6) (by_test h.0 h.3 said.0 rest)
      where
        by_test : (b : Bool) (rest : List (K × Vec ℕ Global)) → b ≡ not (length e.1.items == 0) → AllByRecursion (λ entry. 0 < length entry.1.items) rest → AllByRecursion (λ entry. 0 < length entry.1.items) (cond b ((e.0, h.1) ∷ rest) rest)
        by_test true rest is all = (subst (λ items. 0 < length items) (sym (each e.0 e.1 h.0 h.1 h.2 h.4).1) (some_in e.1.items is), all)
        by_test false rest is all = all

    module _ (R : K → K → Ordering) (total : IsTotalOrder R) (q : K) (at : ℕ) where
      abbrev has : Option (Vec ℕ Global) → Bool
      has bucket = list_any (λ other. other == at) (places_of bucket)

      -- the place stands in the bucket of a key as it did
      pub same_places : (es kept : List (K × Vec ℕ Global)) → IsStrictlySortedBy R (keys_of es) → RetainsPairs T f es kept → has (lookup (is_at (R q)) kept) ≡ has (lookup (is_at (R q)) es)
      same_places [] kept sorted h = ap (λ ks. has (lookup (is_at (R q)) ks)) h
      same_places (e ∷ es) kept sorted h =
          let said = each e.0 e.1 h.0 h.1 h.2 h.4 in
          let rest = same_places es h.3 (sorted_tail R e.0 (keys_of es) sorted) (subst (λ g. RetainsPairs T g es h.3) said.2 h.5) in
          ap (λ ks. has (lookup (is_at (R q)) ks)) h.6 ∙ by_test h.0 (is_at (R q) e.0) refl said.0 rest
        where
          past_none : is_at (R q) e.0 ≡ true → lookup (is_at (R q)) es ≡ None
          past_none same = lookup-none (is_at (R q)) es (none_past_head (eq_by_cmp_equiv total) q e es (IsDistinct-from_sorted R (keys_of (e ∷ es)) sorted) same)

          by_test : (b here : Bool) → is_at (R q) e.0 ≡ here → b ≡ not (length e.1.items == 0) → has (lookup (is_at (R q)) h.3) ≡ has (lookup (is_at (R q)) es)
              → has (lookup (is_at (R q)) (cond b ((e.0, h.1) ∷ h.3) h.3)) ≡ has (cond (is_at (R q) e.0) (Some e.1) (lookup (is_at (R q)) es))
          by_test true true same is rest =
              ap (λ z. has (cond z (Some h.1) (lookup (is_at (R q)) h.3))) same
              ∙ ap (list_any (λ other. other == at)) (each e.0 e.1 h.0 h.1 h.2 h.4).1
              ∙ sym (ap (λ z. has (cond z (Some e.1) (lookup (is_at (R q)) es))) same)
          by_test true false same is rest =
              ap (λ z. has (cond z (Some h.1) (lookup (is_at (R q)) h.3))) same ∙ rest ∙ sym (ap (λ z. has (cond z (Some e.1) (lookup (is_at (R q)) es))) same)
          by_test false true same is rest =
              rest ∙ ap has (past_none same)
              ∙ sym (ap (λ z. has (cond z (Some e.1) (lookup (is_at (R q)) es))) same ∙ ap (list_any (λ other. other == at)) (none_in e.1.items is))
          by_test false false same is rest = rest ∙ sym (ap (λ z. has (cond z (Some e.1) (lookup (is_at (R q)) es))) same)
