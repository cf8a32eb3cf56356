-- What keeps vacant slots vacant, and what they give.
use Rattle.std.proofs.Common.{◌≡◌, ◌≢◌, ◌⊎◌, ◌∙◌, inl, inr, ℕ, zero, suc, ◌+◌, ◌<◌, ◌≤◌, List, [], ◌∷◌, ◌++◌, length, get_or, set, refl, ap, sym, arith, Option, Some, None}
use Rattle.std.proofs.lemmas.Bool.{cases_eq}
use Rattle.std.proofs.lemmas.List.{get_or-set_same, get_or-set_other, get_or_past, length-set}
use Rattle.au_rows.specs.declared.node.Node.{Node}
use Rattle.au_rows.specs.Chains.{IsOneOf, Relinks}
use Rattle.au_rows.specs.Slots.{AllApart, Vacancies}

pub last-one : (slots : List ℕ) (slot : ℕ) → IsOneOf (slots ++ slot ∷ []) slot
last-one [] slot = inl refl
last-one (first ∷ slots) slot = inr (last-one slots slot)

pub still-one-of : (slots : List ℕ) (slot other : ℕ) → IsOneOf slots other → IsOneOf (slots ++ slot ∷ []) other
still-one-of [] slot other m = absurd m
still-one-of (first ∷ slots) slot other (inl same) = inl same
still-one-of (first ∷ slots) slot other (inr m) = inr (still-one-of slots slot other m)

was-one-of : (slots : List ℕ) (slot other : ℕ) → IsOneOf (slots ++ slot ∷ []) other → IsOneOf slots other ⊎ (other ≡ slot)
was-one-of [] slot other (inl same) = inr same
was-one-of [] slot other (inr m) = absurd m
was-one-of (first ∷ slots) slot other (inl same) = inl (inl same)
was-one-of (first ∷ slots) slot other (inr m) = go (was-one-of slots slot other m)
  where
    go : IsOneOf slots other ⊎ (other ≡ slot) → IsOneOf (first ∷ slots) other ⊎ (other ≡ slot)
    go (inl m) = inl (inr m)
    go (inr same) = inr same

front-apart : (slots : List ℕ) (slot : ℕ) → AllApart (slots ++ slot ∷ []) → AllApart slots
front-apart [] slot p = tt
front-apart (first ∷ slots) slot p = (λ m. p.0 (still-one-of slots slot first m), front-apart slots slot p.1)

last-apart : (slots : List ℕ) (slot : ℕ) → AllApart (slots ++ slot ∷ []) → IsOneOf slots slot → ⊥
last-apart [] slot p m = m
last-apart (first ∷ slots) slot p (inl same) = p.0 (rw (← same) (last-one slots slot))
last-apart (first ∷ slots) slot p (inr m) = last-apart slots slot p.1 m

more-apart : (slots : List ℕ) (slot : ℕ) → AllApart slots → (IsOneOf slots slot → ⊥) → AllApart (slots ++ slot ∷ [])
more-apart [] slot p new = (λ m. m, tt)
more-apart (first ∷ slots) slot p new = (λ m. go (was-one-of slots slot first m), more-apart slots slot p.1 (λ m. new (inr m)))
  where
    go : IsOneOf slots first ⊎ (first ≡ slot) → ⊥
    go (inl m) = p.0 m
    go (inr same) = new (inl (sym same))

module _ {X : Type 0} where
  -- what stands in a list with one more behind it
  pub at-end : (xs : List X) (x d : X) → get_or (xs ++ x ∷ []) (length xs) d ≡ x
  at-end [] x d = refl
  at-end (first ∷ xs) x d = at-end xs x d

  pub before-end : (xs : List X) (x d : X) (other : ℕ) → other ≢ length xs → get_or (xs ++ x ∷ []) other d ≡ get_or xs other d
  before-end [] x d zero ne = absurd (ne refl)
  before-end [] x d (suc other) ne = refl
  before-end (first ∷ xs) x d zero ne = refl
  before-end (first ∷ xs) x d (suc other) ne = before-end xs x d other (λ same. ne (ap suc same))

  pub past-end : (xs : List X) (d : X) → get_or xs (length xs) d ≡ d
  past-end [] d = refl
  past-end (first ∷ xs) d = past-end xs d

  pub longer : (xs : List X) (x : X) → length (xs ++ x ∷ []) ≡ length xs + 1
  longer [] x = refl
  longer (first ∷ xs) x = let rest = longer xs x in omega arith

pub no-vacancy : (nodes : List (Option Node)) → Vacancies nodes []
no-vacancy nodes = record { within = λ slot m. absurd m; empty = λ slot m. absurd m; apart = tt }

-- the last of the vacant slots is filled
pub vacancies-filled : (nodes new : List (Option Node)) (vacant : List ℕ) (slot : ℕ) (node : Node) → Vacancies nodes (vacant ++ slot ∷ []) → new ≡ set nodes slot (Some node) → Vacancies new vacant
vacancies-filled nodes new vacant slot node v is = record {
  within = λ other m. let within = v.within other (still-one-of vacant slot other m) in let len = length-set nodes slot (Some node) in omega (arith, ap length is);
  empty = λ other m. ap (λ (xs : List (Option Node)). get_or xs other None) is
      ∙ (get_or-set_other nodes slot other (Some node) None (λ same. last-apart vacant slot v.apart (rw (← same) m)) ∙ v.empty other (still-one-of vacant slot other m));
  apart = front-apart vacant slot v.apart;
}

-- slots that were vacant stay vacant
pub vacancies-kept : (nodes new : List (Option Node)) (vacant : List ℕ) → Vacancies nodes vacant → length nodes ≤ length new
    → ((slot : ℕ) → IsOneOf vacant slot → get_or nodes slot None ≡ None → get_or new slot None ≡ None) → Vacancies new vacant
vacancies-kept nodes new vacant v longer same = record {
  within = λ slot m. let within = v.within slot m in omega arith;
  empty = λ slot m. same slot m (v.empty slot m);
  apart = v.apart;
}

-- a slot becomes vacant
pub vacancies-more : (nodes new : List (Option Node)) (vacant : List ℕ) (slot : ℕ) → Vacancies nodes vacant → slot < length nodes → (get_or nodes slot None ≡ None → ⊥) → new ≡ set nodes slot None
    → (after : List ℕ) → (after ≡ vacant) ⊎ (after ≡ vacant ++ slot ∷ []) → Vacancies new after
vacancies-more nodes new vacant slot v within filled is after (inl same) =
    rw same (vacancies-kept nodes new vacant v (let len = length-set nodes slot None in omega (arith, ap length is)) (λ other m was. now-vacant other was))
  where
    now-vacant : (other : ℕ) → get_or nodes other None ≡ None → get_or new other None ≡ None
    now-vacant other was =
        elim (cases_eq other slot) [
          | inl same ↦ ap (λ (xs : List (Option Node)). get_or xs other None) is ∙ (ap (λ (s : ℕ). get_or (set nodes slot None) s None) same ∙ get_or-set_same nodes slot None None within)
          | inr differs ↦ ap (λ (xs : List (Option Node)). get_or xs other None) is ∙ (get_or-set_other nodes slot other None None differs ∙ was)
        ]
vacancies-more nodes new vacant slot v within filled is after (inr more) = rw more (record {
  within = λ other m. let len = length-set nodes slot None in let same_length = ap length is in in-range other (was-one-of vacant slot other m);
  empty = λ other m. emptied other (was-one-of vacant slot other m);
  apart = more-apart vacant slot v.apart (λ m. filled (v.empty slot m));
})
  where
    in-range : (other : ℕ) → IsOneOf vacant other ⊎ (other ≡ slot) → other < length new
    in-range other (inl m) = let there = v.within other m in let len = length-set nodes slot None in omega (arith, ap length is)
    in-range other (inr same) = let len = length-set nodes slot None in omega (arith, ap length is)

    emptied : (other : ℕ) → IsOneOf vacant other ⊎ (other ≡ slot) → get_or new other None ≡ None
    emptied other (inl m) = ap (λ (xs : List (Option Node)). get_or xs other None) is
        ∙ (get_or-set_other nodes slot other None None (λ same. filled (rw (← same) (v.empty other m))) ∙ v.empty other m)
    emptied other (inr same) = ap (λ (xs : List (Option Node)). get_or xs other None) is ∙ (ap (λ (s : ℕ). get_or (set nodes slot None) s None) same ∙ get_or-set_same nodes slot None None within)
