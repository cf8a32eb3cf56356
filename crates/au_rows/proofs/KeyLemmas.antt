-- What a search for a key finds.
use Rattle.std.proofs.Common.{◌≡◌, ◌∙◌, ◌⊎◌, ◌↔◌, inl, inr, ℕ, ◌≤◌, ◌<◌, Bool, true, false, List, ◌∷◌, length, get_or, refl, ap, sym, arith, None, Some}
use Rattle.std.specs.Prelude.{IsTrue, slice_get}
use Rattle.std.proofs.lemmas.Grind.{common_steps}
use Rattle.std.proofs.lemmas.Option.{slice_get-get_or, slice_get_cases}
use Rattle.au_base.specs.declared.cell.Cell.{Cell}
use Rattle.au_base.specs.declared.numbers.ClientNo.{ClientNo}
use Rattle.au_rows.specs.Held.{Change, Held, IsLocking, SomeLocks, is_others}

pub cell-some : (cells : List Cell) (i : ℕ) (x cell : Cell) (b : Bool) → i < length cells → x ≡ get_or cells i x → (IsTrue b ↔ (x ≡ cell)) → (IsTrue b ↔ (slice_get cells i ≡ Some cell))
cell-some cells i x cell b lt is iff =
    let at : slice_get cells i ≡ Some x = slice_get-get_or cells i x lt ∙ ap Some (sym is) in
    (λ h. at ∙ ap Some (iff.0 h), λ e. let both : Some x ≡ Some cell = sym at ∙ e in iff.1 (cc))

not-there : (cells : List Cell) (i : ℕ) (cell : Cell) → length cells ≤ i → slice_get cells i ≡ Some cell → ⊥
not-there cells i cell le e = go (slice_get_cases cells i).1
  where
    go : ((x : Cell) × (i < length cells) × (slice_get cells i ≡ Some x) × (get_or cells i x ≡ x)) ⊎ ((length cells ≤ i) × (slice_get cells i ≡ None)) → ⊥
    go (inl found) = let lt = found.1 in omega arith
    go (inr none) = let both : None ≡ Some cell = sym none.1 ∙ e in cc

pub never : {P : Type 0} → (P → ⊥) → (IsTrue false ↔ P)
never {P} not_so = (λ h. absurd (wrong h), λ p. absurd (not_so p))
  where
    wrong : IsTrue false → ⊥
    wrong h = grind arith

pub cell-none : (cells : List Cell) (i : ℕ) (cell : Cell) → length cells ≤ i → (IsTrue false ↔ (slice_get cells i ≡ Some cell))
cell-none cells i cell le = never (not-there cells i cell le)

-- a test that failed rules its fact out
pub failed : {P : Type 0} (b : Bool) → (IsTrue b ↔ P) → b ≡ false → P → ⊥
failed {P} b iff f p = let t = iff.1 p in both b t f
  where
    both : (x : Bool) → IsTrue x → x ≡ false → ⊥
    both true t e = cc
    both false t e = wrong t
      where
        wrong : IsTrue false → ⊥
        wrong h = grind arith

-- where the first of two facts fails, the second decides
pub tail : {O T A B : Type 0} (r : Bool) → O → T → (A → ⊥) → (IsTrue r ↔ B) → (IsTrue r ↔ (O × T × (A ⊎ B)))
tail {O} {T} {A} {B} r o t not_a iff = (λ h. (o, t, inr (iff.0 h)), λ all. behind all.2)
  where
    behind : A ⊎ B → IsTrue r
    behind (inl a) = absurd (not_a a)
    behind (inr b) = iff.1 b

-- where the first of two facts holds, both are decided
pub head : {O T A B : Type 0} → O → T → A → (IsTrue true ↔ (O × T × (A ⊎ B)))
head {O} {T} {A} {B} o t a = (λ h. (o, t, inl a), λ all. refl)

pub other-client : (by c : ClientNo) → (c.0 ≡ by.0 → ⊥) → (change : Change) → change.by ≡ c → is_others by change ≡ true
other-client by c ne change is =
    let number : change.by.0 ≡ c.0 = ap (λ (x : ClientNo). x.0) is in
    let ne' : change.by.0 ≡ by.0 → ⊥ = λ e. ne (sym number ∙ e) in
    grind (arith, common_steps)

-- the changes lock what the first of them, or the rest, locks
module _ (places : List ℕ) (held : List Held) (table : ℕ) (key : List Cell) (by : ClientNo) where
  pub rest-locks : (change : Change) (rest : List Change) → (IsLocking places held table key by change → ⊥) → SomeLocks places held table key by (change ∷ rest) → SomeLocks places held table key by rest
  rest-locks change rest none (inl first) = absurd (none first)
  rest-locks change rest none (inr later) = later
