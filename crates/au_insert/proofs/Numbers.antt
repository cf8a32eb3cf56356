-- So many numbers are used, and the last one, in one way.
use Rattle.std.proofs.Common.{◌≡◌, ◌∙◌, ◌<◌, ℕ, zero, suc, true, ◌⊎◌, inl, inr, List, [], ◌∷◌, length, refl, sym, ap, ap₂, subst, arith}
use Rattle.std.specs.List.{Contains, list_all}
use Rattle.std.proofs.lemmas.Bool.{and_parts}
use Rattle.std.proofs.lemmas.Bool.Decides.{nat_tests}
use Rattle.au_base.specs.declared.numbers.ClientNo.{ClientNo}
use Rattle.au_base.specs.declared.numbers.RowNo.{RowNo}
use Rattle.au_base.specs.declared.table.TableName.{TableName}
use Rattle.au_base.specs.Order.{is_in_order}
use Rattle.au_txn.specs.declared.change.RowChange.{RowChange}
use Rattle.au_txn.specs.Counts.{AreNumbers, largest, number_before}
use Rattle.au_txn.specs.Rows.{Row}

here : {X : Type 0} (x : X) (xs : List X) → Contains (x ∷ xs) x
here x xs = (0, omega arith, refl)

there : {X : Type 0} (y : X) (xs : List X) (x : X) → Contains xs x → Contains (y ∷ xs) x
there y xs x (k, within, is) = (suc k, omega arith, is)

split : {X : Type 0} (y : X) (xs : List X) (x : X) → Contains (y ∷ xs) x → (y ≡ x) ⊎ Contains xs x
split y xs x (zero, within, is) = inl is
split y xs x (suc k, within, is) = inr (k, omega arith, is)

none : {X : Type 0} (x : X) → Contains {X = X} [] x → ⊥
none x (k, within, is) = omega arith

abbrev Rise : List RowNo → Type 0
Rise numbers = is_in_order number_before numbers ≡ true

less : (a b : RowNo) → number_before a b ≡ true → a.0 < b.0
less a b is = grind (arith, nat_tests)

before_all : (a : RowNo) (numbers : List RowNo) → list_all (number_before a) numbers ≡ true → (n : RowNo) → Contains numbers n → a.0 < n.0
before_all a [] all n has = absurd (none n has)
before_all a (b ∷ numbers) all n has =
    let parts = and_parts (number_before a b) (list_all (number_before a) numbers) all in
    elim (split b numbers n has) [
      | inl same ↦ less a n (subst (λ (m : RowNo). number_before a m ≡ true) same parts.0)
      | inr later ↦ before_all a numbers parts.1 n later
    ]

first_before : (a : RowNo) (numbers : List RowNo) → Rise (a ∷ numbers) → (n : RowNo) → Contains numbers n → a.0 < n.0
first_before a numbers rise = before_all a numbers (and_parts (list_all (number_before a) numbers) (is_in_order number_before numbers) rise).0

others_rise : (a : RowNo) (numbers : List RowNo) → Rise (a ∷ numbers) → Rise numbers
others_rise a numbers rise = (and_parts (list_all (number_before a) numbers) (is_in_order number_before numbers) rise).1

same_first : (a : RowNo) (ones : List RowNo) (b : RowNo) (others : List RowNo) → Rise (a ∷ ones) → Rise (b ∷ others) → Contains (b ∷ others) a → Contains (a ∷ ones) b → a ≡ b
same_first a ones b others rise rises has had = elim (split b others a has) [
  | inl same ↦ sym same
  | inr later ↦ elim (split a ones b had) [
    | inl same ↦ same
    | inr more ↦ (let one = first_before b others rises a later in let other = first_before a ones rise b more in absurd (omega arith))
  ]
]

same_rest : (a : RowNo) (ones : List RowNo) (b : RowNo) (others : List RowNo) → Rise (a ∷ ones) → a ≡ b → ((n : RowNo) → Contains (a ∷ ones) n → Contains (b ∷ others) n) → (n : RowNo) → Contains ones n → Contains others n
same_rest a ones b others rise same each n has = elim (split b others n (each n (there a ones n has))) [
  | inl first ↦ (let apart = first_before a ones rise n has in let e : a.0 ≡ n.0 = ap (λ (m : RowNo). m.0) (same ∙ first) in absurd (omega arith))
  | inr later ↦ later
]

-- numbers that rise are their members
same_numbers : (ones others : List RowNo) → Rise ones → Rise others → ((n : RowNo) → Contains ones n → Contains others n) → ((n : RowNo) → Contains others n → Contains ones n) → ones ≡ others
same_numbers [] [] rise rises to from = refl
same_numbers [] (b ∷ others) rise rises to from = absurd (none b (from b (here b others)))
same_numbers (a ∷ ones) [] rise rises to from = absurd (none a (to a (here a ones)))
same_numbers (a ∷ ones) (b ∷ others) rise rises to from =
    let same = same_first a ones b others rise rises (to a (here a ones)) (from b (here b others)) in
    ap₂ (λ (n : RowNo) (ns : List RowNo). n ∷ ns) same
    (same_numbers ones others (others_rise a ones rise) (others_rise b others rises) (same_rest a ones b others rise same to) (same_rest b others a ones rises (sym same) from))

pub numbers_once : (rows : List Row) (transactions : ClientNo → List RowChange) (table : TableName) (count last other end : ℕ)
    → AreNumbers rows transactions table count last → AreNumbers rows transactions table other end → (count ≡ other) × (last ≡ end)
numbers_once rows transactions table count last other end one two =
    let same = same_numbers one.numbers two.numbers one.rising two.rising (λ n has. (two.exact n).1 ((one.exact n).0 has)) (λ n has. (one.exact n).1 ((two.exact n).0 has)) in
    (one.counts ∙ ap length same ∙ sym two.counts, one.ends ∙ ap largest same ∙ sym two.ends)
