-- What a transaction leaves is one list, which leaves of the rows what its changes leave.
use Rattle.std.proofs.Common.{◌≡◌, ◌∙◌, inl, inr, Bool, true, false, cond, ◌&&◌, List, [], ◌∷◌, refl, sym, ap, ap₂, subst, Option, None, Some}
use Rattle.std.specs.Prelude.{◌==◌}
use Rattle.std.proofs.lemmas.Bool.{and_parts, and_from}
use Rattle.au_base.specs.declared.cell.Cell.{Cell}
use Rattle.au_base.specs.declared.numbers.RowNo.{RowNo}
use Rattle.au_base.specs.declared.table.TableName.{TableName}
use Rattle.au_base.specs.Order.{IsIrreflexive, IsTransitive, fields_before, is_in_order}
use Rattle.au_base.specs.OrderLaws.{fields_irreflexive, fields_transitive}
use Rattle.au_base.specs.Sameness.{same_table}
use Rattle.au_rows.specs.Held.{or_else}
use Rattle.au_txn.specs.declared.change.RowChange.{RowChange}
use Rattle.au_txn.specs.declared.finals.Final.{Final}
use Rattle.au_txn.specs.Finals.{AreFinals, final_before}
use Rattle.au_txn.specs.Rows.{Row, are_in_order, laid_all, place_of, row_at, with_content}
use Rattle.au_txn.specs.Transactions.{laid_over}
use Rattle.au_txn.proofs.Histories.{laid_over-ordered, or_before}
use Rattle.au_txn.proofs.Numbered.{contains-has, has-contains}
use Rattle.au_txn.proofs.Ordered.{Has, all_from, first-before, rest-ordered, same_sorted}
use Rattle.au_txn.proofs.RowOrder.{laid-ordered, number-is, number-self, row_at-with, same_rows, same_table-is, same_table-self}

pub finals_transitive : IsTransitive final_before
finals_transitive = λ a b c. fields_transitive (place_of a.table a.row) (place_of b.table b.row) (place_of c.table c.row)

pub finals_irreflexive : IsIrreflexive final_before
finals_irreflexive = λ a. fields_irreflexive (place_of a.table a.row)

-- it is the row's
abbrev pub is_final : TableName → RowNo → Final → Bool
is_final t n final = same_table final.table t && (final.row.0 == n.0)

-- the last content of the row among finals
abbrev pub last_final : TableName → RowNo → List Final → Option (Option (List Cell))
last_final t n [] = None
last_final t n (final ∷ finals) = or_else (last_final t n finals) (cond (is_final t n final) (Some final.content) None)

step : (a : Option (Option (List Cell))) (b : Bool) (content before : Option (List Cell)) → or_before a (cond b content before) ≡ or_before (or_else a (cond b (Some content) None)) before
step None true content before = refl
step None false content before = refl
step (Some c) b content before = refl

finals-at : (t : TableName) (n : RowNo) (rows : List Row) (finals : List Final) → row_at t n (laid_all rows finals) ≡ or_before (last_final t n finals) (row_at t n rows)
finals-at t n rows [] = refl
finals-at t n rows (f ∷ fs) =
    finals-at t n (with_content f.table f.row f.content rows) fs
    ∙ (ap (or_before (last_final t n fs)) (row_at-with t f.table n f.row f.content rows) ∙ step (last_final t n fs) (is_final t n f) f.content (row_at t n rows))

-- a row that isn't among finals has none
none-last : (t : TableName) (n : RowNo) (finals : List Final) → ((f : Final) → Has finals f → is_final t n f ≡ true → ⊥) → last_final t n finals ≡ None
none-last t n [] none = refl
none-last t n (f ∷ fs) none = go (is_final t n f) refl (none-last t n fs (λ x has is. none x (inr has) is))
  where
    go : (b : Bool) → is_final t n f ≡ b → last_final t n fs ≡ None → or_else (last_final t n fs) (cond b (Some f.content) None) ≡ None
    go true e rest = absurd (none f (inl refl) e)
    go false e rest = ap (λ o. or_else o None) rest

final-place : (t : TableName) (n : RowNo) (f : Final) → is_final t n f ≡ true → (f.table ≡ t) × (f.row ≡ n)
final-place t n f is =
    let parts = and_parts (same_table f.table t) (f.row.0 == n.0) is in
    (same_table-is f.table t parts.0, number-is f.row n parts.1)

-- in finals in order a row has its content
found-last : (finals : List Final) → is_in_order final_before finals ≡ true → (f : Final) → Has finals f → last_final f.table f.row finals ≡ Some f.content
found-last [] ordered f has = absurd has
found-last (x ∷ xs) ordered f (inl same) = subst (λ (y : Final). or_else (last_final y.table y.row xs) (cond (is_final y.table y.row x) (Some x.content) None) ≡ Some y.content) same
    (ap₂ or_else (none-last x.table x.row xs none) (ap (λ b. cond b (Some x.content) None) self))
  where
    self : is_final x.table x.row x ≡ true
    self = and_from (same_table x.table x.table) (x.row.0 == x.row.0) (same_table-self x.table) (number-self x.row.0)

    none : (f : Final) → Has xs f → is_final x.table x.row f ≡ true → ⊥
    none f has is =
        let place = final-place x.table x.row f is in
        let before : final_before x f ≡ true = all_from (final_before x) xs (first-before final_before x xs ordered) f has in
        let itself : final_before x x ≡ true = ap₂ (λ (u : TableName) (m : RowNo). fields_before (place_of x.table x.row) (place_of u m)) (sym place.0) (sym place.1) ∙ before in
        let wrong : true ≡ false = sym itself ∙ finals_irreflexive x in
        cc
found-last (x ∷ xs) ordered f (inr later) = ap (λ o. or_else o (cond (is_final f.table f.row x) (Some x.content) None)) (found-last xs (rest-ordered final_before x xs ordered) f later)

module _ (rows : List Row) (changes : List RowChange) where
  each : (finals : List Final) → AreFinals rows changes finals → (t : TableName) (n : RowNo) → row_at t n (laid_all rows finals) ≡ row_at t n (laid_over rows changes)
  each finals are t n = finals-at t n rows finals ∙ go (last_final t n finals) refl
    where
      named : (fs : List Final) (content : Option (List Cell)) → last_final t n fs ≡ Some content → (f : Final) × Has fs f × (is_final t n f ≡ true) × (f.content ≡ content)
      named [] content e = absurd (let wrong : None ≡ Some content = e in cc)
      named (f ∷ fs) content e = by_last (last_final t n fs) (is_final t n f) refl refl e (named fs content)
        where
          by_last : (o : Option (Option (List Cell))) (b : Bool) → last_final t n fs ≡ o → is_final t n f ≡ b → or_else o (cond b (Some f.content) None) ≡ Some content
              → (last_final t n fs ≡ Some content → (x : Final) × Has fs x × (is_final t n x ≡ true) × (x.content ≡ content))
              → (x : Final) × Has (f ∷ fs) x × (is_final t n x ≡ true) × (x.content ≡ content)
          by_last (Some x) b g h is rest = let it = rest (g ∙ is) in (it.0, inr it.1, it.2, it.3)
          by_last None true g h is rest = (f, inl refl, h, let same : f.content ≡ content = cc in same)
          by_last None false g h is rest = absurd (let wrong : None ≡ Some content = is in cc)

      go : (o : Option (Option (List Cell))) → last_final t n finals ≡ o → or_before o (row_at t n rows) ≡ row_at t n (laid_over rows changes)
      go (Some content) e =
          let it = named finals content e in
          let place = final-place t n it.0 it.2 in
          sym it.3 ∙ ((are.sound it.0 (has-contains finals it.0 it.1)).0 ∙ ap₂ (λ (u : TableName) (m : RowNo). row_at u m (laid_over rows changes)) place.0 place.1)
      go None e = elim (are.complete t n) [
        | inl same ↦ sym same
        | inr has ↦ absurd (let listed : last_final t n finals ≡ Some (row_at t n (laid_over rows changes)) = found-last finals are.ordered (record { table = t; row = n; content = row_at t n (laid_over rows changes) }) (contains-has finals _ has) in
            let wrong : None ≡ Some (row_at t n (laid_over rows changes)) = sym e ∙ listed in cc)
      ]

  pub finals-settle : (finals : List Final) → are_in_order rows ≡ true → AreFinals rows changes finals → laid_all rows finals ≡ laid_over rows changes
  finals-settle finals ordered are = same_rows (laid_all rows finals) (laid_over rows changes) (laid-ordered rows finals ordered) (laid_over-ordered rows changes ordered) (each finals are)

  one-way : (a b : List Final) → AreFinals rows changes a → AreFinals rows changes b → (f : Final) → Has a f → Has b f
  one-way a b first second f has =
      let it = first.sound f (has-contains a f has) in
      elim (second.complete f.table f.row) [
        | inl same ↦ absurd (it.1 (it.0 ∙ same))
        | inr listed ↦ subst (Has b) (λ i. record { table = f.table; row = f.row; content = sym it.0 i }) (contains-has b _ listed)
      ]

  pub one-finals : (a b : List Final) → AreFinals rows changes a → AreFinals rows changes b → a ≡ b
  one-finals a b first second = same_sorted final_before finals_transitive finals_irreflexive a b first.ordered second.ordered (one-way a b first second) (one-way b a second first)
