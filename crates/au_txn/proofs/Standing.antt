-- What a client sees, what is locked and what is numbered, by the rows that are kept.
use Rattle.std.proofs.Common.{◌≡◌, ◌≢◌, ◌∙◌, ◌⊎◌, inl, inr, Bool, true, false, not, cond, List, refl, sym, ap, arith, Option, None, Some}
use Rattle.std.specs.Prelude.{◌==◌, ◌↔◌, IsTrue}
use Rattle.std.specs.Option.{option_and_then, option_map}
use Rattle.std.proofs.lemmas.Bool.Decides.{nat_tests}
use Rattle.au_base.specs.declared.cell.Cell.{Cell}
use Rattle.au_base.specs.declared.numbers.ClientNo.{ClientNo}
use Rattle.au_base.specs.declared.numbers.RowNo.{RowNo}
use Rattle.au_base.specs.declared.table.TableName.{TableName}
use Rattle.au_rows.specs.Held.{Contents, Held, is_by, is_free_for, last_change, number_of, owned, owner_of, row_at as kept_at, seen_at, seen_by, settled_of}
use Rattle.au_txn.specs.declared.change.RowChange.{RowChange}
use Rattle.au_txn.specs.Inside.{Ties, committed, is_own, own_changes}
use Rattle.au_txn.specs.Rows.{row_at}
use Rattle.au_txn.specs.Transactions.{IsRowLocked, laid_over, names_row}
use Rattle.au_txn.proofs.ChangeLemmas.{last-made, last-none, last-own, made-none, made-some, under}
use Rattle.au_txn.proofs.Committed.{committed-at}
use Rattle.au_txn.proofs.RowOrder.{client-is}
use Rattle.au_txn.proofs.Histories.{last_made, last_made-none, or_before, row_at-laid}

-- nobody has a change of the row
pub record IsUnowned (kept : Contents) (transactions : ClientNo → List RowChange) (t : TableName) (n : RowNo) : Type 0 where
  pub owner : owner_of (number_of t kept.tables) n kept.held ≡ None
  pub unnamed : (c : ClientNo) → names_row t n (transactions c) ≡ false

-- one client has changes of the row, and they make this of it
pub record IsOwned (kept : Contents) (transactions : ClientNo → List RowChange) (t : TableName) (n : RowNo) : Type 0 where
  pub by : ClientNo
  pub row : Held
  pub found : kept_at (number_of t kept.tables) n kept.held ≡ Some row
  pub owner : row.owner ≡ Some by
  pub newest : last_made t n (transactions by) ≡ Some row.newest
  pub others : (c : ClientNo) → c.0 ≢ by.0 → names_row t n (transactions c) ≡ false

owned-none : (o : Option Held) → option_and_then owned o ≡ None → option_and_then (λ (row : Held). row.owner) o ≡ None
owned-none None e = refl
owned-none (Some h) e = go h.owner refl e
  where
    go : (w : Option ClientNo) → h.owner ≡ w → option_map (λ (by : ClientNo). under by h.newest) w ≡ None → h.owner ≡ None
    go None f is = f
    go (Some by) f is = absurd (let wrong : Some (under by h.newest) ≡ None = is in cc)

pub owned-some : (o : Option Held) (d : ClientNo) (content : Option (List Cell)) → option_and_then owned o ≡ Some (under d content) → (h : Held) × (o ≡ Some h) × (h.owner ≡ Some d) × (h.newest ≡ content)
owned-some None d content e = absurd (let wrong : None ≡ Some (under d content) = e in cc)
owned-some (Some h) d content e = go h.owner refl e
  where
    go : (w : Option ClientNo) → h.owner ≡ w → option_map (λ (by : ClientNo). under by h.newest) w ≡ Some (under d content) → (x : Held) × (Some h ≡ Some x) × (x.owner ≡ Some d) × (x.newest ≡ content)
    go None f is = absurd (let wrong : None ≡ Some (under d content) = is in cc)
    go (Some by) f is =
        let pair : under by h.newest ≡ under d content = cc in
        (h, refl, f ∙ ap (λ (x : ClientNo × Option (List Cell)). Some x.0) pair, ap (λ (x : ClientNo × Option (List Cell)). x.1) pair)

map-none : (c : ClientNo) (o : Option (Option (List Cell))) → option_map (under c) o ≡ None → o ≡ None
map-none c None e = refl
map-none c (Some x) e = absurd (let wrong : Some (under c x) ≡ None = e in cc)

map-some : (c d : ClientNo) (o : Option (Option (List Cell))) (content : Option (List Cell)) → option_map (under c) o ≡ Some (under d content) → o ≡ Some content
map-some c d None content e = absurd (let wrong : None ≡ Some (under d content) = e in cc)
map-some c d (Some x) content e = let pair : under c x ≡ under d content = cc in ap Some (ap (λ (y : ClientNo × Option (List Cell)). y.1) pair)

module _ (kept : Contents) (transactions : ClientNo → List RowChange) (ties : Ties kept transactions) where
  -- the last change that is kept of a client is the last that its list makes
  pub own-last : (t : TableName) (n : RowNo) (c : ClientNo) → last_change (number_of t kept.tables) n (own_changes c kept.changes) ≡ option_map (under c) (last_made t n (transactions c))
  own-last t n c = ap (last_change (number_of t kept.tables) n) (ties.logged c) ∙ last-made kept.tables t n c (transactions c) (ties.there c)

  pub row-case : (t : TableName) (n : RowNo) → IsUnowned kept transactions t n ⊎ IsOwned kept transactions t n
  row-case t n = go (last_change (number_of t kept.tables) n kept.changes) refl
    where
      go : (o : Option (ClientNo × Option (List Cell))) → last_change (number_of t kept.tables) n kept.changes ≡ o → IsUnowned kept transactions t n ⊎ IsOwned kept transactions t n
      go None e = inl (record {
        owner = owned-none (kept_at (number_of t kept.tables) n kept.held) (ties.agrees (number_of t kept.tables) n ∙ e);
        unnamed = λ c. made-none t n (transactions c) (map-none c (last_made t n (transactions c)) (sym (own-last t n c) ∙ last-none (is_own c) (number_of t kept.tables) n kept.changes e));
      })
      go (Some x) e =
          let it = owned-some (kept_at (number_of t kept.tables) n kept.held) x.0 x.1 (ties.agrees (number_of t kept.tables) n ∙ e) in
          let newest : last_made t n (transactions x.0) ≡ Some x.1 = map-some x.0 x.0 (last_made t n (transactions x.0)) x.1 (sym (own-last t n x.0) ∙ last-own (number_of t kept.tables) n x.0 x.1 kept.changes e) in
          inr (record {
            by = x.0;
            row = it.0;
            found = it.1;
            owner = it.2;
            newest = newest ∙ ap Some (sym it.3);
            others = λ c ne. ties.apart x.0 c t n (λ same. ne (sym same)) (made-some t n (transactions x.0) x.1 newest);
          })

  -- what is committed of a row
  pub settled-is : (t : TableName) (n : RowNo) → row_at t n (committed kept.tables kept.held) ≡ settled_of (number_of t kept.tables) n kept.held
  settled-is t n = committed-at kept.tables kept.held ties.names ties.order ties.open_tables t n

  unowned-seen : (o : Option Held) (c : ClientNo) → option_and_then (λ (row : Held). row.owner) o ≡ None → option_and_then (seen_by c) o ≡ option_and_then (λ (row : Held). row.settled) o
  unowned-seen None c e = refl
  unowned-seen (Some h) c e = ap (λ w. cond (is_by c w) h.newest h.settled) e

  -- what a client sees of a row is what its changes leave of it
  pub seen-is : (t : TableName) (n : RowNo) (c : ClientNo) → seen_at (number_of t kept.tables) n c kept.held ≡ row_at t n (laid_over (committed kept.tables kept.held) (transactions c))
  seen-is t n c = elim (row-case t n) [
    | inl free ↦ unowned-seen (kept_at (number_of t kept.tables) n kept.held) c free.owner ∙ (sym (settled-is t n) ∙ sym (untouched (free.unnamed c)))
    | inr taken ↦ by_owner taken (taken.by.0 == c.0) refl
  ]
    where
      untouched : names_row t n (transactions c) ≡ false → row_at t n (laid_over (committed kept.tables kept.held) (transactions c)) ≡ row_at t n (committed kept.tables kept.held)
      untouched h = row_at-laid t n (committed kept.tables kept.held) (transactions c) ∙ ap (λ o. or_before o (row_at t n (committed kept.tables kept.held))) (last_made-none t n (transactions c) h)

      by_owner : (taken : IsOwned kept transactions t n) (b : Bool) → (taken.by.0 == c.0) ≡ b
          → seen_at (number_of t kept.tables) n c kept.held ≡ row_at t n (laid_over (committed kept.tables kept.held) (transactions c))
      by_owner taken true e =
          let client : taken.by ≡ c = client-is taken.by c e in
          ap (option_and_then (seen_by c)) taken.found
          ∙ (ap (λ w. cond (is_by c w) taken.row.newest taken.row.settled) taken.owner
          ∙ (ap (λ b. cond b taken.row.newest taken.row.settled) e
          ∙ (ap (λ o. or_before o (row_at t n (committed kept.tables kept.held))) (sym taken.newest)
          ∙ (ap (λ (x : ClientNo). or_before (last_made t n (transactions x)) (row_at t n (committed kept.tables kept.held))) client
          ∙ sym (row_at-laid t n (committed kept.tables kept.held) (transactions c))))))
      by_owner taken false e =
          ap (option_and_then (seen_by c)) taken.found
          ∙ (ap (λ w. cond (is_by c w) taken.row.newest taken.row.settled) taken.owner
          ∙ (ap (λ b. cond b taken.row.newest taken.row.settled) e
          ∙ (sym (settled-is t n ∙ ap (option_and_then (λ (row : Held). row.settled)) taken.found) ∙ sym (untouched (taken.others c (λ same. differ same))))))
        where
          differ : c.0 ≡ taken.by.0 → ⊥
          differ same = let wrong : (taken.by.0 == c.0) ≡ true = grind (arith, nat_tests) in let both : true ≡ false = sym wrong ∙ e in cc

  -- the owner of the row is the client that names it
  pub owner-none : (t : TableName) (n : RowNo) → ((c : ClientNo) → names_row t n (transactions c) ≡ false) → owner_of (number_of t kept.tables) n kept.held ≡ None
  owner-none t n unnamed = elim (row-case t n) [
    | inl free ↦ free.owner
    | inr taken ↦ absurd (let wrong : true ≡ false = sym (made-some t n (transactions taken.by) taken.row.newest taken.newest) ∙ unnamed taken.by in cc)
  ]

  pub owner-some : (t : TableName) (n : RowNo) (c : ClientNo) → names_row t n (transactions c) ≡ true → (d : ClientNo) × (owner_of (number_of t kept.tables) n kept.held ≡ Some d) × (d.0 ≡ c.0)
  owner-some t n c named = elim (row-case t n) [
    | inl free ↦ absurd (let wrong : true ≡ false = sym named ∙ free.unnamed c in cc)
    | inr taken ↦ (taken.by, ap (option_and_then (λ (row : Held). row.owner)) taken.found ∙ taken.owner, same taken (taken.by.0 == c.0) refl)
  ]
    where
      same : (taken : IsOwned kept transactions t n) (b : Bool) → (taken.by.0 == c.0) ≡ b → taken.by.0 ≡ c.0
      same taken true e = grind (arith, nat_tests)
      same taken false e = absurd (let wrong : true ≡ false = sym named ∙ taken.others c (λ is. differ is) in cc)
        where
          differ : c.0 ≡ taken.by.0 → ⊥
          differ is = let wrong : (taken.by.0 == c.0) ≡ true = grind (arith, nat_tests) in let both : true ≡ false = sym wrong ∙ e in cc

  -- a row is free for a client exactly where it isn't locked for it
  pub free-locked : (t : TableName) (n : RowNo) (c : ClientNo) → is_free_for c (owner_of (number_of t kept.tables) n kept.held) ≡ true → IsRowLocked transactions c t n → ⊥
  free-locked t n c free locked =
      let it = owner-some t n locked.0 locked.2 in
      let mine : (it.0.0 == c.0) ≡ true = ap (is_free_for c) (sym it.1) ∙ free in
      let same : it.0.0 ≡ c.0 = grind (arith, nat_tests) in
      locked.1 (sym it.2 ∙ same)

  pub locked-free : (t : TableName) (n : RowNo) (c : ClientNo) → is_free_for c (owner_of (number_of t kept.tables) n kept.held) ≡ false → IsRowLocked transactions c t n
  locked-free t n c busy = elim (row-case t n) [
    | inl free ↦ absurd (let wrong : true ≡ false = sym (ap (is_free_for c) free.owner) ∙ busy in cc)
    | inr taken ↦ (taken.by, differs taken, made-some t n (transactions taken.by) taken.row.newest taken.newest)
  ]
    where
      differs : (taken : IsOwned kept transactions t n) → taken.by.0 ≢ c.0
      differs taken =
          let other : (taken.by.0 == c.0) ≡ false = ap (is_free_for c) (sym (ap (option_and_then (λ (row : Held). row.owner)) taken.found ∙ taken.owner)) ∙ busy in
          grind (arith, nat_tests)

  pub unlocked-free : (t : TableName) (n : RowNo) (c : ClientNo) → (IsRowLocked transactions c t n → ⊥) → is_free_for c (owner_of (number_of t kept.tables) n kept.held) ≡ true
  unlocked-free t n c unlocked = go (is_free_for c (owner_of (number_of t kept.tables) n kept.held)) refl
    where
      go : (b : Bool) → is_free_for c (owner_of (number_of t kept.tables) n kept.held) ≡ b → is_free_for c (owner_of (number_of t kept.tables) n kept.held) ≡ true
      go true e = e
      go false e = absurd (unlocked (locked-free t n c e))

  -- a row is locked for a client exactly where it isn't free for it
  pub locked-iff : (t : TableName) (n : RowNo) (c : ClientNo) (b : Bool) → b ≡ is_free_for c (owner_of (number_of t kept.tables) n kept.held) → IsTrue (not b) ↔ IsRowLocked transactions c t n
  locked-iff t n c b e = (
    λ busy. locked-free t n c (sym e ∙ not-true b busy),
    λ locked. unlocked b e locked,
  )
    where
      not-true : (x : Bool) → IsTrue (not x) → x ≡ false
      not-true true is = absurd (let wrong : false ≡ true = is in cc)
      not-true false is = refl

      unlocked : (x : Bool) → x ≡ is_free_for c (owner_of (number_of t kept.tables) n kept.held) → IsRowLocked transactions c t n → IsTrue (not x)
      unlocked true f locked = absurd (free-locked t n c (sym f) locked)
      unlocked false f locked = refl
