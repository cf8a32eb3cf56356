-- The byte orders of names and of fields are transitive, and put nothing before itself.
use Rattle.std.specs.Prelude.{◌≡◌, true, false, refl}
use Rattle.std.proofs.Common.{ap}
use Rattle.std.specs.declared.cmp.Ordering.{Ordering}
use Rattle.std.specs.declared.cmp.Ordering.TheVariants.{Less, Equal, Greater}
use Rattle.std.specs.Ordering.{is_lt, nat_cmp, ordering_reverse}
use Rattle.std.specs.Cmp.{IsTotalOrder}
use Rattle.std.specs.Cmp.Lexicographic.{slice_cmp}
use Rattle.std.proofs.lemmas.Cmp.{lists_total, nat_cmp_total}
use Rattle.au_base.specs.Order.{IsIrreflexive, IsTransitive, fields_before, name_before}

is_less : (o : Ordering) → is_lt o ≡ true → o ≡ Less
is_less Less is = refl
is_less Equal is = absurd (let e : false ≡ true = is in cc)
is_less Greater is = absurd (let e : false ≡ true = is in cc)

not_less : (o : Ordering) → o ≡ ordering_reverse o → is_lt o ≡ false
not_less Less same = ap is_lt same
not_less Equal same = refl
not_less Greater same = refl

pub total_transitive : {X : Type 0} (cmp : X → X → Ordering) → IsTotalOrder cmp → IsTransitive (λ a b. is_lt (cmp a b))
total_transitive cmp total a b c one two = ap is_lt (total.trans a b c (is_less _ one) (is_less _ two))

pub total_irreflexive : {X : Type 0} (cmp : X → X → Ordering) → IsTotalOrder cmp → IsIrreflexive (λ a b. is_lt (cmp a b))
total_irreflexive cmp total a = not_less (cmp a a) (total.antisymm a a)

pub names_transitive : IsTransitive name_before
names_transitive = total_transitive (slice_cmp nat_cmp) (lists_total nat_cmp_total)

pub names_irreflexive : IsIrreflexive name_before
names_irreflexive = total_irreflexive (slice_cmp nat_cmp) (lists_total nat_cmp_total)

pub fields_transitive : IsTransitive fields_before
fields_transitive = total_transitive (slice_cmp (slice_cmp nat_cmp)) (lists_total (lists_total nat_cmp_total))

pub fields_irreflexive : IsIrreflexive fields_before
fields_irreflexive = total_irreflexive (slice_cmp (slice_cmp nat_cmp)) (lists_total (lists_total nat_cmp_total))
