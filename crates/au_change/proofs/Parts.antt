-- Keys are told apart by their cells.
use Rattle.std.proofs.Common.{◌≡◌, true, List, [], ◌∷◌, refl, ap, ap₂}
use Rattle.std.proofs.lemmas.Bool.{and_from, and_parts, eq-eqb, eqb-true}
use Rattle.std.proofs.lemmas.Bool.Decides.{Decides-int_eq}
use Rattle.std.proofs.lemmas.Slice.Eq.{bytes_eq-Decides}
use lib.Pointwise.{pointwise}
use Rattle.au_change.specs.declared.keys.Part.{Part}
use Rattle.au_change.specs.declared.keys.Part.TheVariants as part
use Rattle.au_change.specs.contracts.keys.PartPartialEq.TheImpl.{ghosts}

part_exact : (a b : Part) → (ghosts).eq a b ≡ true → a ≡ b
part_exact part.Null part.Null is = refl
part_exact part.Null (part.Number n) is = cc
part_exact part.Null (part.Text t) is = cc
part_exact part.Null (part.Moment m) is = cc
part_exact (part.Number n) part.Null is = cc
part_exact (part.Number n) (part.Number m) is = ap part.Number ((Decides-int_eq n m).0 is)
part_exact (part.Number n) (part.Text t) is = cc
part_exact (part.Number n) (part.Moment m) is = cc
part_exact (part.Text t) part.Null is = cc
part_exact (part.Text t) (part.Number n) is = cc
part_exact (part.Text t) (part.Text u) is = ap part.Text ((bytes_eq-Decides t u).0 is)
part_exact (part.Text t) (part.Moment m) is = cc
part_exact (part.Moment m) part.Null is = cc
part_exact (part.Moment m) (part.Number n) is = cc
part_exact (part.Moment m) (part.Text t) is = cc
part_exact (part.Moment m) (part.Moment n) is = ap part.Moment (eqb-true m n is)

part_itself : (a : Part) → (ghosts).eq a a ≡ true
part_itself part.Null = refl
part_itself (part.Number n) = (Decides-int_eq n n).1 refl
part_itself (part.Text t) = (bytes_eq-Decides t t).1 refl
part_itself (part.Moment m) = eq-eqb m m refl

pub key_exact : (p q : List Part) → pointwise (ghosts).eq p q ≡ true → p ≡ q
key_exact [] [] is = refl
key_exact [] (y ∷ q) is = cc
key_exact (x ∷ p) [] is = cc
key_exact (x ∷ p) (y ∷ q) is =
    let parts = and_parts ((ghosts).eq x y) (pointwise (ghosts).eq p q) is in
    ap₂ (λ (a : Part) (b : List Part). a ∷ b) (part_exact x y parts.0) (key_exact p q parts.1)

pub key_itself : (p : List Part) → pointwise (ghosts).eq p p ≡ true
key_itself [] = refl
key_itself (x ∷ p) = and_from ((ghosts).eq x x) (pointwise (ghosts).eq p p) (part_itself x) (key_itself p)
