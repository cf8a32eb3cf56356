-- What is seen of a table is the rows that a client's changes leave of it.
use Rattle.std.proofs.Common.{◌≡◌, ◌∙◌, inl, inr, ℕ, Bool, true, false, cond, ◌&&◌, List, [], ◌∷◌, ◌++◌, map, refl, sym, ap, ap₂, subst, arith, Option, None, Some}
use Rattle.std.specs.Prelude.{◌==◌, nat_lt}
use Rattle.std.specs.List.{list_all}
use Rattle.std.specs.Option.{option_and_then}
use Rattle.std.specs.declared.cmp.Ordering.{Ordering}
use Rattle.std.specs.declared.cmp.Ordering.TheVariants.{Less, Equal, Greater}
use Rattle.std.specs.Ordering.{is_lt, nat_cmp, ordering_then}
use Rattle.std.specs.Cmp.Lexicographic.{slice_cmp}
use Rattle.std.proofs.lemmas.Bool.{and_from}
use Rattle.std.proofs.lemmas.Bool.Decides.{nat_tests}
use Rattle.std.proofs.lemmas.Cmp.{lists_total, nat_cmp_total, tied_itself}
use Rattle.std.proofs.lemmas.Grind.{common_steps}
use Rattle.au_base.specs.declared.cell.Cell.{Cell}
use Rattle.au_base.specs.declared.numbers.ClientNo.{ClientNo}
use Rattle.au_base.specs.declared.numbers.RowNo.{RowNo}
use Rattle.au_base.specs.declared.table.TableName.{TableName}
use Rattle.au_base.specs.Order.{fields_before}
use Rattle.au_base.specs.Sameness.{same_table}
use Rattle.au_rows.specs.Held.{Contents, Held, entry, number_of, row_at as kept_at, seen_at, seen_by, shown_to, view_of}
use Rattle.au_txn.specs.declared.change.RowChange.{RowChange}
use Rattle.au_txn.specs.Desks.{contents_of}
use Rattle.au_txn.specs.Inside.{Ties, committed, held_before, held_in_order}
use Rattle.au_txn.specs.Rows.{Row, are_in_order, is_in, place_of, row_at, row_before}
use Rattle.au_txn.specs.Transactions.{laid_over, view}
use Rattle.au_txn.proofs.Committed.{committed-ordered}
use Rattle.au_txn.proofs.HeldLemmas.{behind-none, find-step, first-of, rest-of}
use Rattle.au_txn.proofs.Histories.{laid_over-ordered}
use Rattle.au_txn.proofs.Ordered.{Has, all_from, all_to, filter-ordered, has-either}
use Rattle.au_txn.proofs.RowOrder.{is_row-is, number-is, row_at-filter, same_rows, same_table-is, same_table-self}
use Rattle.au_txn.proofs.Standing.{seen-is}

-- a row of the table
abbrev pub row_in : TableName → RowNo × List Cell → Row
row_in t pair = record { table = t; number = pair.0; cells = pair.1 }

-- of one table, the number decides
numbers-before : (t : TableName) (m n : RowNo) → nat_lt m.0 n.0 ≡ true → fields_before (place_of t m) (place_of t n) ≡ true
numbers-before t m n less =
    let owner : slice_cmp nat_cmp t.owner t.owner ≡ Equal = tied_itself (lists_total nat_cmp_total) t.owner in
    let name : slice_cmp nat_cmp t.name t.name ≡ Equal = tied_itself (lists_total nat_cmp_total) t.name in
    ap (λ (o : Ordering). is_lt (ordering_then o (ordering_then (slice_cmp nat_cmp t.name t.name) (ordering_then (ordering_then (nat_cmp m.0 n.0) Equal) Equal)))) owner
    ∙ (ap (λ (o : Ordering). is_lt (ordering_then o (ordering_then (ordering_then (nat_cmp m.0 n.0) Equal) Equal))) name
    ∙ ap (λ (b : Bool). is_lt (ordering_then (ordering_then (cond b Less (cond (m.0 == n.0) Equal Greater)) Equal) Equal)) less)

module _ (t : TableName) (k : ℕ) (c : ClientNo) where
  -- the rows that are seen
  abbrev pub seen_rows : List Held → List Row
  seen_rows hs = map (row_in t) (view_of k c hs)

  joined : (h : Held) (hs : List Held) → seen_rows (h ∷ hs) ≡ map (row_in t) (shown_to k c h) ++ seen_rows hs
  joined h hs = go (shown_to k c h)
    where
      go : (xs : List (RowNo × List Cell)) → map (row_in t) (xs ++ view_of k c hs) ≡ map (row_in t) xs ++ map (row_in t) (view_of k c hs)
      go [] = refl
      go (x ∷ xs) = ap (λ ys. row_in t x ∷ ys) (go xs)

  -- a row that is seen is one of the table's
  one-shown : (h : Held) (r : Row) → Has (map (row_in t) (shown_to k c h)) r → ((h.table == k) ≡ true) × (h.number ≡ r.number)
  one-shown h r has = go (h.table == k) (seen_by c h) refl has
    where
      go : (b : Bool) (s : Option (List Cell)) → (h.table == k) ≡ b → Has (map (row_in t) (cond b (entry h.number s) [])) r → ((h.table == k) ≡ true) × (h.number ≡ r.number)
      go true (Some cells) e (inl same) = (e, ap (λ (x : Row). x.number) same)
      go true (Some cells) e (inr later) = absurd later
      go true None e has = absurd has
      go false s e has = absurd has

  seen-from : (hs : List Held) (r : Row) → Has (seen_rows hs) r → (h : Held) × Has hs h × ((h.table == k) ≡ true) × (h.number ≡ r.number)
  seen-from [] r has = absurd has
  seen-from (h ∷ hs) r has = elim (has-either (map (row_in t) (shown_to k c h)) (seen_rows hs) r (subst (λ xs. Has xs r) (joined h hs) has)) [
    | inl here ↦ let it = one-shown h r here in (h, inl refl, it.0, it.1)
    | inr later ↦ let it = seen-from hs r later in (it.0, inr it.1, it.2, it.3)
  ]

  ordered-step : (h : Held) (hs : List Held) (b : Bool) (s : Option (List Cell)) → held_in_order (h ∷ hs) ≡ true → (h.table == k) ≡ b → are_in_order (seen_rows hs) ≡ true
      → are_in_order (map (row_in t) (cond b (entry h.number s) []) ++ seen_rows hs) ≡ true
  ordered-step h hs false s o e rest = rest
  ordered-step h hs true None o e rest = rest
  ordered-step h hs true (Some cells) o e rest =
      and_from (list_all (row_before (row_in t (h.number, cells))) (seen_rows hs)) (are_in_order (seen_rows hs))
      (all_to (row_before (row_in t (h.number, cells))) (seen_rows hs) (λ r has. later r (seen-from hs r has) has)) rest
    where
      less : (x : Held) → held_before h x ≡ true → (x.table == k) ≡ true → nat_lt h.number.0 x.number.0 ≡ true
      less x before here = grind (arith, common_steps)

      in_table : (xs : List (RowNo × List Cell)) (r : Row) → Has (map (row_in t) xs) r → r.table ≡ t
      in_table [] r has = absurd has
      in_table (x ∷ xs) r (inl same) = sym (ap (λ (y : Row). y.table) same)
      in_table (x ∷ xs) r (inr has) = in_table xs r has

      later : (r : Row) → (x : Held) × Has hs x × ((x.table == k) ≡ true) × (x.number ≡ r.number) → Has (seen_rows hs) r → row_before (row_in t (h.number, cells)) r ≡ true
      later r it has =
          let before = less it.0 (all_from (held_before h) hs (first-of h hs o) it.0 it.1) it.2 in
          ap₂ (λ (u : TableName) (n : RowNo). fields_before (place_of t h.number) (place_of u n)) (in_table (view_of k c hs) r has) (sym it.3)
          ∙ numbers-before t h.number it.0.number before

  pub seen-ordered : (hs : List Held) → held_in_order hs ≡ true → are_in_order (seen_rows hs) ≡ true
  seen-ordered [] o = refl
  seen-ordered (h ∷ hs) o = ap are_in_order (joined h hs) ∙ ordered-step h hs (h.table == k) (seen_by c h) o refl (seen-ordered hs (rest-of h hs o))

  answer-step : (n : RowNo) (h : Held) (hs : List Held) (b a : Bool) (s : Option (List Cell)) → held_in_order (h ∷ hs) ≡ true → (h.table == k) ≡ b → (h.number.0 == n.0) ≡ a → seen_by c h ≡ s
      → row_at t n (seen_rows hs) ≡ seen_at k n c hs
      → row_at t n (map (row_in t) (cond b (entry h.number s) []) ++ seen_rows hs) ≡ option_and_then (seen_by c) (cond (b && a) (Some h) (kept_at k n hs))
  answer-step n h hs false a s o e f g rest = rest
  answer-step n h hs true true (Some cells) o e f g rest =
      ap (λ b. cond b (Some cells) (row_at t n (seen_rows hs))) (and_from (same_table t t) (h.number.0 == n.0) (same_table-self t) f) ∙ sym g
  answer-step n h hs true true None o e f g rest = rest ∙ (ap (option_and_then (seen_by c)) none ∙ sym g)
    where
      place : h.table ≡ k
      place = grind (arith, nat_tests)

      none : kept_at k n hs ≡ None
      none = ap₂ (λ (j : ℕ) (m : RowNo). kept_at j m hs) (sym place) (sym (number-is h.number n f)) ∙ behind-none h hs o
  answer-step n h hs true false (Some cells) o e f g rest =
      ap (λ b. cond b (Some cells) (row_at t n (seen_rows hs))) (ap (λ b. same_table t t && b) f ∙ never (same_table t t)) ∙ rest
    where
      never : (b : Bool) → (b && false) ≡ false
      never true = refl
      never false = refl
  answer-step n h hs true false None o e f g rest = rest

  pub seen-answer : (n : RowNo) (hs : List Held) → held_in_order hs ≡ true → row_at t n (seen_rows hs) ≡ seen_at k n c hs
  seen-answer n [] o = refl
  seen-answer n (h ∷ hs) o =
      ap (row_at t n) (joined h hs)
      ∙ (answer-step n h hs (h.table == k) (h.number.0 == n.0) (seen_by c h) o refl refl refl (seen-answer n hs (rest-of h hs o))
      ∙ sym (ap (option_and_then (seen_by c)) (find-step k n h hs o)))

  elsewhere : (u : TableName) (n : RowNo) → same_table t u ≡ false → (xs : List (RowNo × List Cell)) → row_at u n (map (row_in t) xs) ≡ None
  elsewhere u n other [] = refl
  elsewhere u n other (x ∷ xs) = ap (λ b. cond (b && (x.0.0 == n.0)) (Some x.1) (row_at u n (map (row_in t) xs))) other ∙ elsewhere u n other xs

back : (t : TableName) (xs : List (RowNo × List Cell)) → map contents_of (map (row_in t) xs) ≡ xs
back t [] = refl
back t (x ∷ xs) = ap (λ ys. x ∷ ys) (back t xs)

-- a client sees the committed rows with its own changes laid over them
pub viewed : (kept : Contents) (transactions : ClientNo → List RowChange) → Ties kept transactions → (t : TableName) (c : ClientNo)
    → view_of (number_of t kept.tables) c kept.held ≡ map contents_of (view (committed kept.tables kept.held) (transactions c) t)
viewed kept transactions ties t c = sym (back t (view_of (number_of t kept.tables) c kept.held)) ∙ ap (map contents_of) same
  where
    rows-ordered : are_in_order (laid_over (committed kept.tables kept.held) (transactions c)) ≡ true
    rows-ordered = laid_over-ordered (committed kept.tables kept.held) (transactions c) (committed-ordered kept.tables kept.held ties.names ties.order ties.open_tables)

    inside : (u : TableName) (n : RowNo) → row_at u n (view (committed kept.tables kept.held) (transactions c) t) ≡ cond (same_table u t) (row_at u n (laid_over (committed kept.tables kept.held) (transactions c))) None
    inside u n = row_at-filter u n (is_in t) (same_table u t) (λ r is. ap (λ (x : TableName). same_table x t) (is_row-is u n r is).0) (laid_over (committed kept.tables kept.held) (transactions c))

    turned : (u : TableName) → same_table u t ≡ false → same_table t u ≡ false
    turned u e = go (same_table t u) refl
      where
        go : (b : Bool) → same_table t u ≡ b → same_table t u ≡ false
        go false f = f
        go true f = absurd (let wrong : true ≡ false = sym (subst (λ (x : TableName). same_table x t ≡ true) (same_table-is t u f) (same_table-self t)) ∙ e in cc)

    each : (u : TableName) (n : RowNo) (b : Bool) → same_table u t ≡ b
        → row_at u n (map (row_in t) (view_of (number_of t kept.tables) c kept.held)) ≡ cond b (row_at u n (laid_over (committed kept.tables kept.held) (transactions c))) None
    each u n true e = subst (λ (x : TableName). row_at x n (map (row_in t) (view_of (number_of t kept.tables) c kept.held)) ≡ row_at x n (laid_over (committed kept.tables kept.held) (transactions c)))
        (sym (same_table-is u t e)) (seen-answer t (number_of t kept.tables) c n kept.held ties.order ∙ seen-is kept transactions ties t n c)
    each u n false e = elsewhere t (number_of t kept.tables) c u n (turned u e) (view_of (number_of t kept.tables) c kept.held)

    same : map (row_in t) (view_of (number_of t kept.tables) c kept.held) ≡ view (committed kept.tables kept.held) (transactions c) t
    same = same_rows (map (row_in t) (view_of (number_of t kept.tables) c kept.held)) (view (committed kept.tables kept.held) (transactions c) t)
        (seen-ordered t (number_of t kept.tables) c kept.held ties.order)
        (filter-ordered row_before (is_in t) (laid_over (committed kept.tables kept.held) (transactions c)) rows-ordered)
        (λ u n. each u n (same_table u t) refl ∙ sym (inside u n))
