-- What a pass is after each call.
use Rattle.std.proofs.Common.{◌≡◌, ℕ, suc, ◌+◌, true, false, List, [], ◌∷◌, ◌++◌, Some, None, refl, sym, ap, ◌∙◌, subst}
use Rattle.std.proofs.Math.Seq.{drop-append_seam}
use Rattle.std.specs.declared.option.Option.{Option}
use mathlib.Core.List.{IsPrefix}
use Rattle.atomic_table.specs.Seated.{TableId}
use Rattle.atomic_table.specs.Table.{Me, rest}
use Rattle.atomic_table.specs.declared.shared.Seat.{Seat}
use Rattle.au_turn.specs.declared.view.View.{View}
use Rattle.au_turn.specs.Entries.{StandsIn, longer, AllBegin}
use Rattle.au_turn.specs.View.{newcomer, holding, announcing, after, joined, meeting}
use Rattle.au_turn.specs.Pass.{IsPass, slots_of}
use Rattle.au_turn.proofs.EntriesLemmas.{stands_longer}
use Rattle.au_turn.specs.EntryLaws.{stands_nothing, stands_all, stands_both}

-- a view, and the slots that are out with it
abbrev pub Mind : Type 0 → Type 0 → Type 0
Mind T E = Me (Option T) (View E)

-- the view after the entries were made
abbrev pub handed : {E : Type 0} → View E → List E → View E
handed v more = record { seen = v.seen ++ more; mine = v.mine ++ more; next = v.seen ++ more; earlier = v.earlier; turns = suc v.turns; held = false; emptied = false; spent = false }

-- the view after a join
abbrev pub mixed : {E : Type 0} → View E → View E → View E
mixed v w = record { seen = longer v.seen w.seen; mine = v.mine; next = []; earlier = []; turns = v.turns + w.turns; held = false; emptied = false; spent = false }

module _ {T E : Type 0} where
  -- equal minds have equal views
  pub same_view : (m n : Mind T E) → m ≡ n → m.0 ≡ n.0
  same_view m n e = ap (λ (k : Mind T E). k.0) e

  -- equal minds have equal slots
  pub same_slots : (m n : Mind T E) → m ≡ n → m.1 ≡ n.1
  same_slots m n e = ap (λ (k : Mind T E). k.1) e

  -- the entries are announced, and the value lies in the slot again
  pub filled : (m m1 m2 : Mind T E) (more : List E) (y : T) → m.1 ≡ slots_of m.0.held → m.0.held ≡ true → m1 ≡ (announcing m.0 more, m.1) → m2 ≡ (m1.0, (0, Some y) ∷ rest m1.1)
      → m2 ≡ (announcing m.0 more, (0, Some y) ∷ [])
  filled m m1 m2 more y slots held said put =
      let at : List (ℕ × Option T) → Mind T E = λ cs. (announcing m.0 more, (0, Some y) ∷ rest cs) in
      let step : Mind T E → Mind T E = λ k. (k.0, (0, Some y) ∷ rest k.1) in
      put ∙ (ap step said ∙ ap at (slots ∙ ap slots_of held))

  -- the value was given back, and the announced entries are known
  pub handed_over : (v : View E) (m2 m3 : Mind T E) (more : List E) (y : T) → m2 ≡ (announcing v more, (0, Some y) ∷ []) → m3 ≡ (after m2.0, []) → m3 ≡ (handed v more, [])
  handed_over v m2 m3 more y is done =
      let go : Mind T E → Mind T E = λ k. (after k.0, []) in
      let say : List E → Mind T E = λ l. (record { seen = v.seen ++ more; mine = v.mine ++ l; next = v.seen ++ more; earlier = v.earlier; turns = suc v.turns; held = false; emptied = false; spent = false }, []) in
      done ∙ (ap go is ∙ ap say (drop-append_seam v.seen more))

  -- what a pass is, from what it knows
  is_pass : (z : TableId) (q : Seat (Option T) (View E)) (m : Mind T E) → q.table_id ≡ z → q.me ≡ m → m.0.spent ≡ false → m.0.emptied ≡ false → m.0.earlier ≡ [] → m.1 ≡ slots_of m.0.held → StandsIn m.0.mine m.0.seen → IsPass z q
  is_pass z q m table is live full met slots stands = record {
    table = table;
    live = ap (λ (k : Mind T E). k.0.spent) is ∙ live;
    full = ap (λ (k : Mind T E). k.0.emptied) is ∙ full;
    met = ap (λ (k : Mind T E). k.0.earlier) is ∙ met;
    slots = ap (λ (k : Mind T E). k.1) is ∙ (slots ∙ ap (λ (k : Mind T E). slots_of k.0.held) (sym is));
    stands = subst (λ (k : Mind T E). StandsIn k.0.mine k.0.seen) (sym is) stands;
  }

  -- a pass that gave the value back is one of the turn
  pub pass_handed : (z : TableId) (p q : Seat (Option T) (View E)) (more : List E) → IsPass z p → q.table_id ≡ z → q.me ≡ (handed p.me.0 more, []) → IsPass z q
  pass_handed z p q more own table is = is_pass z q _ table is refl refl own.met refl (stands_both more more own.stands (stands_all more))

  -- a pass that took the value is one of the turn
  pub pass_holding : (z : TableId) (p q : Seat (Option T) (View E)) (seen : List E) → IsPass z p → IsPrefix p.me.0.seen seen → q.table_id ≡ z → q.me ≡ (holding p.me.0 seen, (0, None) ∷ []) → IsPass z q
  pass_holding z p q seen own begins table is = is_pass z q _ table is refl refl own.met refl (stands_longer p.me.0.mine p.me.0.seen seen own.stands begins)

  -- a pass that made nothing yet is one of the turn
  pub pass_new : (z : TableId) (q : Seat (Option T) (View E)) (seen : List E) → q.table_id ≡ z → q.me ≡ (newcomer seen, []) → IsPass z q
  pass_new z q seen table is = is_pass z q _ table is refl refl refl refl (stands_nothing seen)

  -- both halves of a join
  pub mixed_by : (m m1 m2 : Mind T E) (w : View E) → m.1 ≡ [] → m1 ≡ (joined m.0 w, m.1) → m2 ≡ (meeting m1.0, m1.1) → m2 ≡ (mixed m.0 w, [])
  mixed_by m m1 m2 w slots one two =
      let go : Mind T E → Mind T E = λ k. (meeting k.0, k.1) in
      let at : List (ℕ × Option T) → Mind T E = λ cs. (mixed m.0 w, cs) in
      two ∙ (ap go one ∙ ap at slots)

  -- both earlier lists begin the longer one
  pub both_begin : (m m1 : Mind T E) (w : View E) → m1 ≡ (joined m.0 w, m.1) → AllBegin m1.0.earlier m1.0.seen → IsPrefix m.0.seen (longer m.0.seen w.seen) × IsPrefix w.seen (longer m.0.seen w.seen)
  both_begin m m1 w one all = let b = subst (λ (k : Mind T E). AllBegin k.0.earlier k.0.seen) one all in (b.0, b.1.0)

  -- a pass that took in another is one of the turn
  pub pass_mixed : (z : TableId) (p q : Seat (Option T) (View E)) (w : View E) → IsPass z p → IsPrefix p.me.0.seen (longer p.me.0.seen w.seen) → q.table_id ≡ z → q.me ≡ (mixed p.me.0 w, []) → IsPass z q
  pass_mixed z p q w own begins table is = is_pass z q _ table is refl refl refl refl (stands_longer p.me.0.mine p.me.0.seen _ own.stands begins)

  -- the value was taken out of the slot
  pub held_by : (v : View E) (m1 m2 : Mind T E) (seen : List E) (x : T) → m1 ≡ (holding v seen, (0, Some x) ∷ []) → m2 ≡ (m1.0, (0, None) ∷ rest m1.1) → m2 ≡ (holding v seen, (0, None) ∷ [])
  held_by v m1 m2 seen x one two = let go : Mind T E → Mind T E = λ k. (k.0, (0, None) ∷ rest k.1) in two ∙ ap go one

  -- a pass that did not change is one of the turn
  pub same_pass : (z : TableId) (p q : Seat (Option T) (View E)) → IsPass z p → q.table_id ≡ p.table_id → q.me ≡ p.me → IsPass z q
  same_pass z p q own table is = is_pass z q p.me (table ∙ own.table) is own.live own.full own.met own.slots own.stands
