-- What the end of a client's changes leaves of how the rows that are kept stand to the open changes.
use Rattle.std.proofs.Common.{◌≡◌, ◌≢◌, ◌≤◌, ◌∙◌, inl, inr, ℕ, Bool, true, false, not, cond, ◌||◌, is_some, List, [], ◌∷◌, get_or, map, refl, sym, ap, arith, Option, None, Some}
use Rattle.std.specs.Prelude.{◌==◌, nat_le}
use Rattle.std.specs.List.{AllByRecursion, list_all}
use Rattle.std.specs.Option.{option_and_then, option_map}
use Rattle.std.proofs.lemmas.Bool.Decides.{nat_tests}
use Rattle.au_base.specs.declared.cell.Cell.{Cell}
use Rattle.au_base.specs.declared.numbers.ClientNo.{ClientNo}
use Rattle.au_base.specs.declared.numbers.RowNo.{RowNo}
use Rattle.au_base.specs.declared.table.TableName.{TableName}
use Rattle.au_rows.specs.declared.ending.Ending.{Ending}
use Rattle.au_rows.specs.declared.ending.Ending.TheVariants.{Settle, Undo}
use Rattle.au_rows.specs.Held.{Contents, Held, IsOpen, all_ended, changes_of_others, ended, is_by, is_left, is_others, last_change, number_of, owned, row_at as kept_at, row_ended, seen_at, seen_by, settled_of}
use Rattle.au_txn.specs.declared.change.RowChange.{RowChange}
use Rattle.au_txn.specs.Inside.{Ties, committed, held_in_order, held_numbered, held_open, kept_change, own_changes}
use Rattle.au_txn.specs.Rows.{Row, are_in_order, row_at}
use Rattle.au_txn.specs.Transactions.{AreFrom, laid_over, names_row}
use Rattle.au_txn.proofs.ChangeLemmas.{kept-names, last-none, last-others, last-own, last-passes, others-none, others-own, under}
use Rattle.au_txn.proofs.Committed.{committed-at, committed-ordered}
use Rattle.au_txn.proofs.HeldLemmas.{if_passes, kept-found, kept-order, map-found, map-order}
use Rattle.au_txn.proofs.Histories.{from-same, laid-untouched, laid_over-ordered}
use Rattle.au_txn.proofs.Ordered.{Has, all_from, all_to, was}
use Rattle.au_txn.proofs.RowOrder.{client-is, same_rows, same_table-is}
use Rattle.au_txn.proofs.Standing.{owned-some, seen-is}
use Rattle.au_txn.proofs.TableLemmas.{same-number}

ended-table : (e : Ending) (h : Held) → (ended e h).table ≡ h.table
ended-table Settle h = refl
ended-table Undo h = refl

ended-number : (e : Ending) (h : Held) → (ended e h).number ≡ h.number
ended-number Settle h = refl
ended-number Undo h = refl

ended-owner : (e : Ending) (h : Held) → (ended e h).owner ≡ None
ended-owner Settle h = refl
ended-owner Undo h = refl

row-table : (e : Ending) (c : ClientNo) (h : Held) → (row_ended e c h).table ≡ h.table
row-table e c h = go (is_by c h.owner)
  where
    go : (b : Bool) → (cond b (ended e h) h).table ≡ h.table
    go true = ended-table e h
    go false = refl

row-number : (e : Ending) (c : ClientNo) (h : Held) → (row_ended e c h).number ≡ h.number
row-number e c h = go (is_by c h.owner)
  where
    go : (b : Bool) → (cond b (ended e h) h).number ≡ h.number
    go true = ended-number e h
    go false = refl

-- the changes without those of one client
abbrev pub without_client : ClientNo → (ClientNo → List RowChange) → ClientNo → List RowChange
without_client c transactions = λ q. cond (q.0 == c.0) [] (transactions q)

has-mapped : {X Y : Type 0} (f : X → Y) (xs : List X) (y : Y) → Has (map f xs) y → (x : X) × Has xs x × (f x ≡ y)
has-mapped f [] y has = absurd has
has-mapped f (x ∷ xs) y (inl same) = (x, inl refl, same)
has-mapped f (x ∷ xs) y (inr later) = let it = has-mapped f xs y later in (it.0, inr it.1, it.2)

or-true : (b : Bool) → (b || true) ≡ true
or-true true = refl
or-true false = refl

module _ (kept : Contents) (transactions : ClientNo → List RowChange) (ties : Ties kept transactions) (c : ClientNo) (e : Ending) where
  order-ended : held_in_order (all_ended e c kept.held) ≡ true
  order-ended = kept-order is_left (map (row_ended e c) kept.held) (map-order (row_ended e c) (row-table e c) (row-number e c) kept.held ties.order)

  left-ended : list_all is_left (all_ended e c kept.held) ≡ true
  left-ended = all_to is_left (all_ended e c kept.held) (λ h has. (was is_left (map (row_ended e c) kept.held) h has).1)

  open-ended : list_all (held_open kept.tables) (all_ended e c kept.held) ≡ true
  open-ended = all_to (held_open kept.tables) (all_ended e c kept.held) (λ h has.
      let it = has-mapped (row_ended e c) kept.held h (was is_left (map (row_ended e c) kept.held) h has).0 in
      let table : h.table ≡ it.0.table = ap (λ (x : Held). x.table) (sym it.2) ∙ row-table e c it.0 in
      ap (λ (k : ℕ). is_some (get_or kept.tables k None)) table ∙ all_from (held_open kept.tables) kept.held ties.open_tables it.0 it.1)

  rows_numbered-ended : list_all held_numbered (all_ended e c kept.held) ≡ true
  rows_numbered-ended = all_to held_numbered (all_ended e c kept.held) (λ h has.
      let it = has-mapped (row_ended e c) kept.held h (was is_left (map (row_ended e c) kept.held) h has).0 in
      let number : h.number ≡ it.0.number = ap (λ (x : Held). x.number) (sym it.2) ∙ row-number e c it.0 in
      ap (λ (n : RowNo). nat_le 1 n.0) number ∙ all_from held_numbered kept.held ties.rows_numbered it.0 it.1)

  found-ended : (u : ℕ) (n : RowNo) → kept_at u n (all_ended e c kept.held) ≡ option_and_then (if_passes is_left) (option_map (row_ended e c) (kept_at u n kept.held))
  found-ended u n =
      kept-found is_left u n (map (row_ended e c) kept.held) (map-order (row_ended e c) (row-table e c) (row-number e c) kept.held ties.order)
      ∙ ap (option_and_then (if_passes is_left)) (map-found (row_ended e c) (row-table e c) (row-number e c) u n kept.held)

  -- of one row, the changes of one client alone are kept
  alone : (u : ℕ) (n : RowNo) (x y : ClientNo × Option (List Cell)) → x.0.0 ≢ y.0.0 → last_change u n (own_changes x.0 kept.changes) ≡ Some x → last_change u n (own_changes y.0 kept.changes) ≡ Some y → ⊥
  alone u n x y ne one two =
      let a = kept-names kept.tables u n x.0 (transactions x.0) x (ties.there x.0) (ap (last_change u n) (sym (ties.logged x.0)) ∙ one) in
      let b = kept-names kept.tables u n y.0 (transactions y.0) y (ties.there y.0) (ap (last_change u n) (sym (ties.logged y.0)) ∙ two) in
      let places : (number_of a.0 kept.tables == number_of b.0 kept.tables) ≡ true = let p : number_of a.0 kept.tables ≡ number_of b.0 kept.tables = a.1 ∙ sym b.1 in grind (arith, nat_tests) in
      let same : a.0 ≡ b.0 = same_table-is a.0 b.0 (sym (same-number a.0 b.0 kept.tables a.2) ∙ places) in
      let named : names_row b.0 n (transactions x.0) ≡ true = ap (λ (t : TableName). names_row t n (transactions x.0)) (sym same) ∙ a.3 in
      let wrong : true ≡ false = sym b.3 ∙ ties.apart x.0 y.0 b.0 n ne named in
      cc

  none-of-others : (u : ℕ) (n : RowNo) (d : ClientNo) (content : Option (List Cell)) → (d.0 == c.0) ≡ true → last_change u n kept.changes ≡ Some (under d content) → last_change u n (changes_of_others c kept.changes) ≡ None
  none-of-others u n d content mine last = go (last_change u n (changes_of_others c kept.changes)) refl
    where
      go : (o : Option (ClientNo × Option (List Cell))) → last_change u n (changes_of_others c kept.changes) ≡ o → last_change u n (changes_of_others c kept.changes) ≡ None
      go None f = f
      go (Some x) f =
          let it = last-passes (is_others c) u n kept.changes x f in
          let other : (x.0.0 == c.0) ≡ false = not-true (x.0.0 == c.0) (ap (λ (z : ClientNo). not (z.0 == c.0)) (sym it.2) ∙ it.1) in
          let ne : x.0.0 ≢ c.0 = grind (arith, nat_tests) in
          let same : d.0 ≡ c.0 = grind (arith, nat_tests) in
          absurd (alone u n x (under d content) (λ is. ne (is ∙ same))
          (ap (last_change u n) (sym (others-own c x.0 ne kept.changes)) ∙ last-own u n x.0 x.1 (changes_of_others c kept.changes) f)
          (last-own u n d content kept.changes last))
        where
          not-true : (b : Bool) → not b ≡ true → b ≡ false
          not-true true is = absurd (let wrong : false ≡ true = is in cc)
          not-true false is = refl

  agree-ended : (u : ℕ) (n : RowNo) → option_and_then owned (kept_at u n (all_ended e c kept.held)) ≡ last_change u n (changes_of_others c kept.changes)
  agree-ended u n = ap (option_and_then owned) (found-ended u n) ∙ go (last_change u n kept.changes) refl
    where
      bare : (h : Held) → h.owner ≡ None → (b : Bool) → option_and_then owned (cond b (Some h) None) ≡ None
      bare h f true = ap (option_map (λ (by : ClientNo). under by h.newest)) f
      bare h f false = refl

      unowned : (o : Option Held) → option_and_then owned o ≡ None → option_and_then owned (option_and_then (if_passes is_left) (option_map (row_ended e c) o)) ≡ None
      unowned None f = refl
      unowned (Some h) f =
          let none : h.owner ≡ None = owner-none h.owner refl f in
          ap (λ (w : Option ClientNo). option_and_then owned (if_passes is_left (cond (is_by c w) (ended e h) h))) none ∙ bare h none (is_left h)
        where
          owner-none : (w : Option ClientNo) → h.owner ≡ w → option_map (λ (by : ClientNo). under by h.newest) w ≡ None → h.owner ≡ None
          owner-none None g is = g
          owner-none (Some by) g is = absurd (let wrong : Some (under by h.newest) ≡ None = is in cc)

      taken : (h : Held) (d : ClientNo) (content : Option (List Cell)) → h.owner ≡ Some d → h.newest ≡ content → (b : Bool) → (d.0 == c.0) ≡ b → last_change u n kept.changes ≡ Some (under d content)
          → option_and_then owned (if_passes is_left (cond b (ended e h) h)) ≡ last_change u n (changes_of_others c kept.changes)
      taken h d content f g true m last = bare (ended e h) (ended-owner e h) (is_left (ended e h)) ∙ sym (none-of-others u n d content m last)
      taken h d content f g false m last =
          let left : is_left h ≡ true = ap (λ w. is_some h.settled || is_some w) f ∙ or-true (is_some h.settled) in
          let ne : d.0 ≢ c.0 = grind (arith, nat_tests) in
          ap (λ b. option_and_then owned (cond b (Some h) None)) left
          ∙ (ap (option_map (λ (by : ClientNo). under by h.newest)) f
          ∙ (ap (λ (x : Option (List Cell)). Some (under d x)) g
          ∙ sym (last-others u n c d content kept.changes ne last)))

      go : (o : Option (ClientNo × Option (List Cell))) → last_change u n kept.changes ≡ o
          → option_and_then owned (option_and_then (if_passes is_left) (option_map (row_ended e c) (kept_at u n kept.held))) ≡ last_change u n (changes_of_others c kept.changes)
      go None last = unowned (kept_at u n kept.held) (ties.agrees u n ∙ last) ∙ sym (last-none (is_others c) u n kept.changes last)
      go (Some x) last =
          let it = owned-some (kept_at u n kept.held) x.0 x.1 (ties.agrees u n ∙ last) in
          ap (λ (o : Option Held). option_and_then owned (option_and_then (if_passes is_left) (option_map (row_ended e c) o))) it.1
          ∙ (ap (λ (w : Option ClientNo). option_and_then owned (if_passes is_left (cond (is_by c w) (ended e it.0) it.0))) it.2
          ∙ taken it.0 x.0 x.1 it.2 it.3 (x.0.0 == c.0) refl last)

  log-ended : (q : ClientNo) → own_changes q (changes_of_others c kept.changes) ≡ map (kept_change kept.tables q) (without_client c transactions q)
  log-ended q = go (q.0 == c.0) refl
    where
      go : (b : Bool) → (q.0 == c.0) ≡ b → own_changes q (changes_of_others c kept.changes) ≡ map (kept_change kept.tables q) (cond b [] (transactions q))
      go true m = others-none c q m kept.changes
      go false m = others-own c q (grind (arith, nat_tests)) kept.changes ∙ ties.logged q

  there-ended : (q : ClientNo) → AllByRecursion (λ (x : RowChange). IsOpen x.table kept.tables) (without_client c transactions q)
  there-ended q = go (q.0 == c.0)
    where
      go : (b : Bool) → AllByRecursion (λ (x : RowChange). IsOpen x.table kept.tables) (cond b [] (transactions q))
      go true = tt
      go false = ties.there q

  numbered-ended : (q : ClientNo) → AllByRecursion (λ (x : RowChange). 1 ≤ x.row.0) (without_client c transactions q)
  numbered-ended q = go (q.0 == c.0)
    where
      go : (b : Bool) → AllByRecursion (λ (x : RowChange). 1 ≤ x.row.0) (cond b [] (transactions q))
      go true = tt
      go false = ties.numbered q

  apart-ended : (a b : ClientNo) (t : TableName) (n : RowNo) → a.0 ≢ b.0 → names_row t n (without_client c transactions a) ≡ true → names_row t n (without_client c transactions b) ≡ false
  apart-ended a b t n ne named = go (a.0 == c.0) (b.0 == c.0) named
    where
      go : (x y : Bool) → names_row t n (cond x [] (transactions a)) ≡ true → names_row t n (cond y [] (transactions b)) ≡ false
      go true y is = absurd (let wrong : false ≡ true = is in cc)
      go false true is = refl
      go false false is = ties.apart a b t n ne is

  -- the changes of the others are from the rows that are left
  from-ended : (rows : List Row) → ((t : TableName) (n : RowNo) → names_row t n (transactions c) ≡ false → row_at t n (committed kept.tables kept.held) ≡ row_at t n rows)
      → (q : ClientNo) → AreFrom rows (without_client c transactions q)
  from-ended rows same q = go (q.0 == c.0) refl
    where
      go : (b : Bool) → (q.0 == c.0) ≡ b → AreFrom rows (cond b [] (transactions q))
      go true m = tt
      go false m = from-same (committed kept.tables kept.held) rows (transactions q) (λ t n named. same t n (ties.apart q c t n (grind (arith, nat_tests)) named)) (ties.from q)

  ties-ended : ((t : TableName) (n : RowNo) → names_row t n (transactions c) ≡ false → row_at t n (committed kept.tables kept.held) ≡ row_at t n (committed kept.tables (all_ended e c kept.held)))
      → (spare : ℕ) → Ties (record { tables = kept.tables; held = all_ended e c kept.held; changes = changes_of_others c kept.changes; spare = spare }) (without_client c transactions)
  ties-ended same spare = record {
    order = order-ended;
    left = left-ended;
    open_tables = open-ended;
    rows_numbered = rows_numbered-ended;
    names = ties.names;
    agrees = agree-ended;
    logged = log-ended;
    there = there-ended;
    numbered = numbered-ended;
    apart = apart-ended;
    from = from-ended (committed kept.tables (all_ended e c kept.held)) same;
  }

  committed-ended : (rows : List Row) → are_in_order rows ≡ true → ((t : TableName) (n : RowNo) → settled_of (number_of t kept.tables) n (all_ended e c kept.held) ≡ row_at t n rows) → committed kept.tables (all_ended e c kept.held) ≡ rows
  committed-ended rows ordered same = same_rows (committed kept.tables (all_ended e c kept.held)) rows (committed-ordered kept.tables (all_ended e c kept.held) ties.names order-ended open-ended) ordered
      (λ t n. committed-at kept.tables (all_ended e c kept.held) ties.names order-ended open-ended t n ∙ same t n)

-- what is settled of a row, where it is left
left-settled : (h : Held) → option_and_then (λ (row : Held). row.settled) (cond (is_some h.settled || is_some h.owner) (Some h) None) ≡ h.settled
left-settled h = go h.settled refl (is_some h.owner)
  where
    go : (s : Option (List Cell)) → h.settled ≡ s → (b : Bool) → option_and_then (λ (row : Held). row.settled) (cond (is_some s || b) (Some h) None) ≡ s
    go (Some x) f b = f
    go None f true = f
    go None f false = refl

module _ (kept : Contents) (transactions : ClientNo → List RowChange) (ties : Ties kept transactions) (c : ClientNo) where
  settled-then : (u : ℕ) (n : RowNo) → settled_of u n (all_ended Settle c kept.held) ≡ seen_at u n c kept.held
  settled-then u n = ap (option_and_then (λ (row : Held). row.settled)) (found-ended kept transactions ties c Settle u n) ∙ go (kept_at u n kept.held)
    where
      by : (h : Held) (b : Bool) → option_and_then (λ (row : Held). row.settled) (if_passes is_left (cond b (ended Settle h) h)) ≡ cond b h.newest h.settled
      by h true = left-settled (ended Settle h)
      by h false = left-settled h

      go : (o : Option Held) → option_and_then (λ (row : Held). row.settled) (option_and_then (if_passes is_left) (option_map (row_ended Settle c) o)) ≡ option_and_then (seen_by c) o
      go None = refl
      go (Some h) = by h (is_by c h.owner)

  undone-then : (u : ℕ) (n : RowNo) → settled_of u n (all_ended Undo c kept.held) ≡ settled_of u n kept.held
  undone-then u n = ap (option_and_then (λ (row : Held). row.settled)) (found-ended kept transactions ties c Undo u n) ∙ go (kept_at u n kept.held)
    where
      by : (h : Held) (b : Bool) → option_and_then (λ (row : Held). row.settled) (if_passes is_left (cond b (ended Undo h) h)) ≡ h.settled
      by h true = left-settled (ended Undo h)
      by h false = left-settled h

      go : (o : Option Held) → option_and_then (λ (row : Held). row.settled) (option_and_then (if_passes is_left) (option_map (row_ended Undo c) o)) ≡ option_and_then (λ (row : Held). row.settled) o
      go None = refl
      go (Some h) = by h (is_by c h.owner)

  rows-ordered : are_in_order (committed kept.tables kept.held) ≡ true
  rows-ordered = committed-ordered kept.tables kept.held ties.names ties.order ties.open_tables

  -- a commit lays the client's changes over the committed rows
  pub committed-settled : committed kept.tables (all_ended Settle c kept.held) ≡ laid_over (committed kept.tables kept.held) (transactions c)
  committed-settled = committed-ended kept transactions ties c Settle (laid_over (committed kept.tables kept.held) (transactions c)) (laid_over-ordered (committed kept.tables kept.held) (transactions c) rows-ordered)
      (λ t n. settled-then (number_of t kept.tables) n ∙ seen-is kept transactions ties t n c)

  pub ties-settled : (spare : ℕ) → Ties (record { tables = kept.tables; held = all_ended Settle c kept.held; changes = changes_of_others c kept.changes; spare = spare }) (without_client c transactions)
  ties-settled spare = ties-ended kept transactions ties c Settle
      (λ t n unnamed. sym (ap (row_at t n) committed-settled ∙ laid-untouched t n (committed kept.tables kept.held) (transactions c) unnamed)) spare

  -- a rollback leaves them
  pub committed-undone : committed kept.tables (all_ended Undo c kept.held) ≡ committed kept.tables kept.held
  committed-undone = committed-ended kept transactions ties c Undo (committed kept.tables kept.held) rows-ordered
      (λ t n. undone-then (number_of t kept.tables) n ∙ sym (committed-at kept.tables kept.held ties.names ties.order ties.open_tables t n))

  pub ties-undone : (spare : ℕ) → Ties (record { tables = kept.tables; held = all_ended Undo c kept.held; changes = changes_of_others c kept.changes; spare = spare }) (without_client c transactions)
  ties-undone spare = ties-ended kept transactions ties c Undo (λ t n unnamed. ap (row_at t n) (sym committed-undone)) spare

-- lists that are as they were, but for one that is empty
pub cleared : (c : ClientNo) (old new : ClientNo → List RowChange) → new c ≡ [] → ((q : ClientNo) → q.0 ≢ c.0 → new q ≡ old q) → (q : ClientNo) → without_client c old q ≡ new q
cleared c old new own others q = go (q.0 == c.0) refl
  where
    go : (b : Bool) → (q.0 == c.0) ≡ b → cond b [] (old q) ≡ new q
    go true e = sym (ap new (client-is q c e) ∙ own)
    go false e = sym (others q (grind (arith, nat_tests)))
