-- Numbers that a set has.
use Rattle.std.proofs.Common.{◌≡◌, ◌∙◌, refl, sym, ap, inl, inr, ℕ, Bool, true, false, cond, ◌||◌, nat_lt, arith, ltb-true}
use Rattle.std.proofs.lemmas.Bool.Decides.{eqb_tells}
use Rattle.std.specs.Prelude.{◌==◌}
use Rattle.std.specs.declared.cmp.Ordering.TheVariants.{Less, Equal, Greater}
use Rattle.std.specs.Ordering.{nat_cmp, is_eq}

picked : (below same : Bool) → (below ≡ true → same ≡ false) → is_eq (cond below Less (cond same Equal Greater)) ≡ same
picked true same h = sym (h refl)
picked false true h = refl
picked false false h = refl

pub same_number : (a b : ℕ) → is_eq (nat_cmp a b) ≡ (a == b)
same_number a b = picked (nat_lt a b) (a == b) (λ h. elim (eqb_tells a b) [ inl e ↦ absurd (omega (arith, e.1, ltb-true a b h)) | inr e ↦ e.0 ])

or_is : (a b : Bool) → cond a true b ≡ (a || b)
or_is true b = refl
or_is false b = refl

pub added : (key other : ℕ) (new old : Bool) → new ≡ cond (is_eq (nat_cmp key other)) true old → new ≡ ((key == other) || old)
added key other new old is = is ∙ ap (λ b. cond b true old) (same_number key other) ∙ or_is (key == other) old

pub turned : (a b : ℕ) → (a == b) ≡ (b == a)
turned a b = elim (eqb_tells a b) [
  | inl e ↦ ap (λ z. z == b) e.1 ∙ ap (λ z. b == z) (sym e.1)
  | inr e ↦ e.0 ∙ sym (elim (eqb_tells b a) [ inl f ↦ absurd (e.1 (sym f.1)) | inr f ↦ f.0 ])
]
