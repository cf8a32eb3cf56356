-- Operands that are met one by one are of one kind exactly where all of them are.
use Rattle.std.proofs.Common.{◌≡◌, ◌∙◌, refl, sym, Bool, true, false, ◌&&◌, List, [], ◌∷◌, Option}
use Rattle.std.specs.List.{list_all}
use Rattle.au_base.specs.declared.table.ColumnKind.TheVariants.{Number, Text, Moment}
use Rattle.au_expr.specs.declared.agreed.Agreed.{Agreed}
use Rattle.au_expr.specs.declared.kind.ExprKind.{ExprKind}
use Rattle.au_expr.specs.Descent.{agreed_from, with_operand, everything, is_agreed}
use Rattle.au_expr.specs.Kinds.{goes_with, is_one_kind}

and_assoc : (a b c : Bool) → ((a && b) && c) ≡ (a && (b && c))
and_assoc true b c = refl
and_assoc false b c = refl

and_true : (a : Bool) → (a && true) ≡ a
and_true true = refl
and_true false = refl

number_from : (before : Agreed) (ks : List (Option ExprKind)) → (agreed_from before ks).number ≡ (before.number && list_all (goes_with Number) ks)
number_from before [] = sym (and_true before.number)
number_from before (k ∷ ks) = number_from (with_operand before k) ks ∙ and_assoc before.number (goes_with Number k) (list_all (goes_with Number) ks)

text_from : (before : Agreed) (ks : List (Option ExprKind)) → (agreed_from before ks).text ≡ (before.text && list_all (goes_with Text) ks)
text_from before [] = sym (and_true before.text)
text_from before (k ∷ ks) = text_from (with_operand before k) ks ∙ and_assoc before.text (goes_with Text k) (list_all (goes_with Text) ks)

moment_from : (before : Agreed) (ks : List (Option ExprKind)) → (agreed_from before ks).moment ≡ (before.moment && list_all (goes_with Moment) ks)
moment_from before [] = sym (and_true before.moment)
moment_from before (k ∷ ks) = moment_from (with_operand before k) ks ∙ and_assoc before.moment (goes_with Moment k) (list_all (goes_with Moment) ks)

pub agreed_is : (ks : List (Option ExprKind)) → is_agreed (agreed_from everything ks) ≡ is_one_kind ks
agreed_is ks = rw (number_from everything ks, text_from everything ks, moment_from everything ks) refl
