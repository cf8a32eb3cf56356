-- Each step keeps the rule.
use Rattle.std.proofs.Common.{◌≡◌, ℕ, zero, suc, ◌+◌, ◌%◌, ◌^◌, ◌≤◌, ◌<◌, ◌⊎◌, eqb, Bool, true, false, true≢false, List, [], ◌∷◌, ◌++◌, get_or, set, length, Some, None, refl, sym, ap, ◌∙◌, subst, inl, inr, ⊎_elim, arith, length-set, get_or-set_same}
use mathlib.Core.Logic.{dite}
use mathlib.Core.Option.{none, some, some-injective, some-ne-none}
use mathlib.Core.Option as maybe
use mathlib.Core.List.{IsPrefix}
use native.Mathlib.Decide.{ℕ_discrete}
use lib.ListN.{get_elem?}
use lib.Seq.{set-get_or}
use Rattle.std.proofs.lemmas.List.Sums.{sum_by-cons, sum_by_push}
use prog.Atomic.{either}
use Rattle.std.specs.declared.option.Option.{Option}
use Rattle.atomic_table.specs.Table.{State, Me, Act, step, keeps, takes, gives, stepped, opening, Allows, Splits, Joins, Valid, carried_after, put_back, rest}
use Rattle.atomic_table.proofs.Lists.{at_snoc, at_longer, set_here, set_else, set_again, exchanged}
use Rattle.au_turn.specs.declared.view.View.{View}
use Rattle.au_turn.specs.Entries.{StandsIn}
use Rattle.au_turn.specs.View.{turns_of, newcomer, gone, holding, announcing, after, joined, meeting, emptying}
use Rattle.au_turn.specs.Rule.{free_after, held_after, IsHeldWord, BecomesHeld, BecomesFree, IsLegal, Fits, OneHistory, Counted, Kept, Taken, Announced, Released, Met, Emptied}
use Rattle.au_turn.proofs.EntriesLemmas.{prefix_self, prefix_more, prefix_trans, stands_longer, all_begin, rest_of, longer_fits, in_range, all_set}
use Rattle.au_turn.specs.EntryLaws.{stands_nothing, stands_all, stands_both}

-- no test is both true and false
not_both : {P : Type 0} → (b : Bool) → b ≡ true → b ≡ false → P
not_both b t f = absurd (true≢false (sym t ∙ f))

-- a test that isn't true is false
not_on : (b : Bool) → (b ≡ true → ⊥) → b ≡ false
not_on true h = absurd (h refl)
not_on false h = refl

-- a number is even or odd
even_or_odd : (n : ℕ) → (n % 2 ≡ 0) ⊎ (n % 2 ≡ 1)
even_or_odd n = dite (ℕ_discrete (n % 2) 0) (λ e. inl e) (λ ne. inr (omega arith))

-- the count after the view v became w
turns_set : {E : Type 0} (views : List (View E)) (id : ℕ) (v w : View E) → get_elem? views id ≡ some v → turns_of (set views id w) + v.turns ≡ turns_of views + w.turns
turns_set [] id v w at = absurd (some-ne-none v (sym at))
turns_set {E} (u ∷ views) zero v w at =
    let turns : View E → ℕ = λ y. y.turns in
    let same : u.turns ≡ v.turns = ap turns (some-injective _ _ at) in
    let old : turns_of (u ∷ views) ≡ u.turns + turns_of views = sum_by-cons turns u views in
    let new : turns_of (w ∷ views) ≡ w.turns + turns_of views = sum_by-cons turns w views in
    omega arith
turns_set {E} (u ∷ views) (suc id) v w at =
    let turns : View E → ℕ = λ y. y.turns in
    let rest = turns_set views id v w at in
    let old : turns_of (u ∷ views) ≡ u.turns + turns_of views = sum_by-cons turns u views in
    let new : turns_of (u ∷ set views id w) ≡ u.turns + turns_of (set views id w) = sum_by-cons turns u (set views id w) in
    omega arith

-- the count where a view that gave nothing back joined in
turns_more : {E : Type 0} (views : List (View E)) (w : View E) → w.turns ≡ 0 → turns_of (views ++ w ∷ []) ≡ turns_of views
turns_more views w new = let more = sum_by_push (λ y. y.turns) views w in omega arith

-- a word that counts so many turns is twice as many, and one more where it is odd
counts_to : (n turns : ℕ) → (n % 2 ≡ 0 → n ≡ free_after turns) → (n % 2 ≡ 1 → n ≡ held_after turns) → n ≡ free_after turns + n % 2
counts_to n turns free busy = ⊎_elim (λ even. let is = free even in omega arith) (λ odd. let is = busy odd in omega arith) (even_or_odd n)

-- a word that was found odd is one while a pass holds the value
held_at : (n turns : ℕ) → n ≡ free_after turns + n % 2 → n ≤ free_after (2 ^ 62) → n % 2 ≡ 1 → IsHeldWord n
held_at n turns count few odd = (turns, omega arith, omega arith)

-- a word that is one more than one that was found even becomes held
to_held : (n m turns : ℕ) → n ≡ free_after turns + n % 2 → n < free_after (2 ^ 62) → n % 2 ≡ 0 → m ≡ n + 1 → BecomesHeld n m
to_held n m turns count few even more = (turns, omega arith, omega arith, omega arith)

-- a word that is one more than one that was found odd becomes free
to_free : (n turns : ℕ) → n ≡ free_after turns + n % 2 → n ≤ free_after (2 ^ 62) → n % 2 ≡ 1 → BecomesFree n (n + 1)
to_free n turns count few odd = (turns, omega arith, omega arith, omega arith)

module _ {T E : Type 0} (stands : T → List E → Type 0) where
  -- a view, a state, the one history, the rule and the word, by short names
  abbrev V : Type 0
  V = View E

  abbrev St : Type 0
  St = State (Option T) V

  abbrev H : St → Type 0
  H = OneHistory stands

  abbrev R : St → Type 0
  R = Kept stands

  abbrev word : St → ℕ
  word s = get_or s.words 0 0

  -- what the rule says where the view v is held
  record Mine (s : St) (history : List E) (id : ℕ) (v : V) : Type 0 where
    odd : word s % 2 ≡ 1
    whole : v.seen ≡ history
    longer : IsPrefix v.seen v.next
    ready : IsLegal stands v.next
    out : v.emptied ≡ false → get_elem? s.homes 0 ≡ some none
    emptied : v.emptied ≡ true → get_elem? s.homes 0 ≡ some (some None)
    alone : (by : ℕ) (u : V) → get_elem? s.views by ≡ some u → u.held ≡ true → by ≡ id

  is_mine : (s : St) (k : H s) (id : ℕ) (v : V) → get_elem? s.views id ≡ some v → v.held ≡ true → Mine s k.history id v
  is_mine s k id v at held = ⊎_elim
      (λ even. not_both v.held held ((k.free even).idle id v at))
      (λ odd.
      let b = k.busy odd in
      let seat = b.alone id v at held in
      let same : b.view ≡ v = some-injective _ _ (sym b.at ∙ (ap (get_elem? s.views) (sym seat) ∙ at)) in
      record {
        odd = odd;
        whole = ap (λ (u : V). u.seen) (sym same) ∙ b.whole;
        longer = subst (λ (u : V). IsPrefix u.seen u.next) same b.longer;
        ready = subst (λ (u : V). IsLegal stands u.next) same b.ready;
        out = subst (λ (u : V). u.emptied ≡ false → get_elem? s.homes 0 ≡ some none) same b.out;
        emptied = subst (λ (u : V). u.emptied ≡ true → get_elem? s.homes 0 ≡ some (some None)) same b.emptied;
        alone = λ by u e h. b.alone by u e h ∙ sym seat;
      })
      (even_or_odd (word s))

  -- the holder changes its view, the word stays held
  hold_on : (s : St) (k : H s) (n id : ℕ) (hs : List (maybe.Option (Option T))) (v w : V) → get_elem? s.views id ≡ some v → Mine s k.history id v → n % 2 ≡ 1
      → w.held ≡ true → Fits k.history w → w.seen ≡ k.history → IsPrefix w.seen w.next → IsLegal stands w.next → (w.emptied ≡ false → get_elem? hs 0 ≡ some none) → (w.emptied ≡ true → get_elem? hs 0 ≡ some (some None))
      → H record { words = set s.words 0 n; homes = hs; views = set s.views id w }
  hold_on s k n id hs v w at mine odd held fits whole next ready out emptied =
      let one = k.one in
      let now : get_or (set s.words 0 n) 0 0 ≡ n = get_or-set_same s.words 0 n 0 (omega arith) in
      record {
        history = k.history;
        known = k.known;
        one = length-set s.words 0 n ∙ one;
        each = all_set (λ j u. u.spent ≡ false → Fits k.history u) s.views id w (λ _. fits) (λ j u _ e. k.each j u e);
        free = λ even. absurd (omega arith);
        busy = λ _. record {
          seat = id;
          view = w;
          at = set_here s.views id w (in_range s.views id v at);
          held = held;
          alone = all_set (λ j u. u.held ≡ true → j ≡ id) s.views id w (λ _. refl) (λ j u _ e h. mine.alone j u e h);
          whole = whole;
          longer = next;
          ready = ready;
          out = out;
          emptied = emptied;
        };
      }

  -- a pass that does not hold the value changes its view
  idle_on : (s : St) (k : H s) (id : ℕ) (v w : V) → get_elem? s.views id ≡ some v → v.held ≡ false → w.held ≡ false → (w.spent ≡ false → Fits k.history w)
      → H record { words = s.words; homes = s.homes; views = set s.views id w }
  idle_on s k id v w at idle idle' fits = record {
    history = k.history;
    known = k.known;
    one = k.one;
    each = all_set (λ j u. u.spent ≡ false → Fits k.history u) s.views id w fits (λ j u _ e. k.each j u e);
    free = λ even.
        let f = k.free even in
        record {
          idle = all_set (λ j u. u.held ≡ false) s.views id w idle' (λ j u _ e. f.idle j u e);
          value = f.value;
          there = f.there;
          stands_for = f.stands_for;
        };
    busy = λ odd.
        let b = k.busy odd in
        record {
          seat = b.seat;
          view = b.view;
          at = set_else s.views id b.seat w (λ e. not_both b.view.held b.held (ap (λ (u : V). u.held) (some-injective _ _ (sym b.at ∙ (ap (get_elem? s.views) e ∙ at))) ∙ idle)) ∙ b.at;
          held = b.held;
          alone = all_set (λ j u. u.held ≡ true → j ≡ b.seat) s.views id w (λ h. not_both w.held h idle') (λ j u _ e h. b.alone j u e h);
          whole = b.whole;
          longer = b.longer;
          ready = b.ready;
          out = b.out;
          emptied = b.emptied;
        };
  }

  -- a state whose word is stored again as it was
  as_stored : (s : St) (hs : List (maybe.Option (Option T))) (vs : List V) → H record { words = s.words; homes = hs; views = vs } → H record { words = set s.words 0 (word s); homes = hs; views = vs }
  as_stored s hs vs k = subst (λ ws. H record { words = ws; homes = hs; views = vs }) (sym (set-get_or s.words 0 0)) k

  -- the count of turns at a word that was stored
  counted_at : (ws : List ℕ) (n : ℕ) (hs : List (maybe.Option (Option T))) (vs : List V) → length ws ≡ 1 → n ≡ free_after (turns_of vs) + n % 2 → n ≤ free_after (2 ^ 62)
      → Counted record { words = set ws 0 n; homes = hs; views = vs }
  counted_at ws n hs vs one count few =
      let now : get_or (set ws 0 n) 0 0 ≡ n = get_or-set_same ws 0 n 0 (omega arith) in
      record { free = λ even. omega arith; busy = λ odd. omega arith; few = omega arith }

  -- how the word counts
  count_of : (s : St) → Counted s → word s ≡ free_after (turns_of s.views) + word s % 2
  count_of s c = counts_to (word s) (turns_of s.views) c.free c.busy

  -- the same word with other views of as many turns
  recounted : (s : St) (c : Counted s) (vs : List V) → turns_of vs ≡ turns_of s.views → Counted record { words = s.words; homes = s.homes; views = vs }
  recounted s c vs same = let count = count_of s c in record { free = λ even. omega arith; busy = λ odd. omega arith; few = c.few }

  -- the count of turns where the word is stored again as it was, and a view changed that gave nothing back
  counted_on : (s : St) (k : R s) (id : ℕ) (hs : List (maybe.Option (Option T))) (v w : V) → get_elem? s.views id ≡ some v → w.turns ≡ v.turns
      → Counted record { words = set s.words 0 (word s); homes = hs; views = set s.views id w }
  counted_on s k id hs v w at same =
      let c = k.counted in
      let count = count_of s c in
      let sum = turns_set s.views id v w at in
      counted_at s.words (word s) hs (set s.views id w) k.one_history.one (omega arith) c.few

  -- a turn starts with the value in the slot and one pass
  pub opens : (x : T) (first : List E) → stands x first → R (opening (0 ∷ []) (Some x ∷ []) (newcomer first))
  opens x first is = record {
    one_history = record {
      history = first;
      known = (x, is);
      one = refl;
      each = one;
      free = λ _. record { idle = idle; value = x; there = refl; stands_for = is };
      busy = λ odd. absurd (omega arith);
    };
    counted = record { free = λ _. refl; busy = λ odd. absurd (omega arith); few = omega arith };
  }
    where
      only : (by : ℕ) (v : V) → get_elem? (newcomer first ∷ []) by ≡ some v → newcomer first ≡ v
      only zero v e = some-injective _ _ e
      only (suc by) v e = absurd (some-ne-none v (sym e))

      one : (by : ℕ) (v : V) → get_elem? (newcomer first ∷ []) by ≡ some v → v.spent ≡ false → Fits first v
      one by v e _ = subst (Fits first) (only by v e) record { seen = prefix_self first; mine = stands_nothing first; earlier = tt }

      idle : (by : ℕ) (v : V) → get_elem? (newcomer first ∷ []) by ≡ some v → v.held ≡ false
      idle by v e = ap (λ (u : V). u.held) (sym (only by v e))

  -- taking: the word goes from even to odd, and the value comes out
  pub grabs : (slots id : ℕ) (m : Me (Option T) V) (n : ℕ) → slots ≡ 1 → m.0.held ≡ false → m.0.spent ≡ false → m.1 ≡ [] → n % 2 ≡ 0 → n < free_after (2 ^ 62)
      → Allows R slots id m 0 (λ z. either (eqb z n) (n + 1) z) (Taken stands (step slots 0 n (n + 1) none) m)
  grabs slots id m n one_slot idle live holds even below s kept len at small = let v = m.0 in let k = kept.one_history in let c = kept.counted in exchanged (word s) n (n + 1)
      (λ (z : ℕ). (w : V) × (a : Act (Option T)) × Valid s.homes m.1 a × R (stepped s 0 z id m.1 w a) × Taken stands (step slots 0 n (n + 1) none) m (word s) (w, carried_after m.1 a))
      (λ hit.
      let f = k.free (ap (λ (z : ℕ). z % 2) hit ∙ even) in
      let w = holding v k.history in
      let sum = turns_set s.views id v w at in
      let count = count_of s c in
      let fits = k.each id v at live in
      let one = k.one in
      let now : get_or (set s.words 0 (n + 1)) 0 0 ≡ n + 1 = get_or-set_same s.words 0 (n + 1) 0 (omega arith) in (
        w,
        takes 0 (Some f.value),
        f.there,
        record {
          one_history = record {
            history = k.history;
            known = k.known;
            one = length-set s.words 0 (n + 1) ∙ one;
            each = all_set (λ j u. u.spent ≡ false → Fits k.history u) s.views id w
                (λ _. record { seen = prefix_self k.history; mine = stands_longer v.mine v.seen k.history fits.mine fits.seen; earlier = all_begin v.earlier v.seen k.history fits.earlier fits.seen })
                (λ j u _ e. k.each j u e);
            free = λ even'. absurd (omega arith);
            busy = λ _. record {
              seat = id;
              view = w;
              at = set_here s.views id w (in_range s.views id v at);
              held = refl;
              alone = all_set (λ j u. u.held ≡ true → j ≡ id) s.views id w (λ _. refl) (λ j u _ e h. not_both u.held h (f.idle j u e));
              whole = refl;
              longer = prefix_self k.history;
              ready = k.known;
              out = λ _. set_here s.homes 0 none (omega arith);
              emptied = λ b. absurd (true≢false (sym b));
            };
          };
          counted = counted_at s.words (n + 1) (set s.homes 0 none) (set s.views id w) one (omega arith) (omega arith);
        },
        (
          (λ _.
              let put : List (ℕ × Option T) → Me (Option T) V = λ cs. (w, (0, Some f.value) ∷ cs) in
              (to_held (word s) (n + 1) (turns_of s.views) count (omega arith) (omega arith) (omega arith), (f.value, k.history, ap put holds, f.stands_for, fits.seen))),
          (λ ne. absurd (ne hit)),
        ),
      ))
      (λ miss. (
        v,
        keeps,
        tt,
        record {
          one_history = subst (λ vs. H record { words = set s.words 0 (word s); homes = s.homes; views = vs }) (sym (set_again s.views id v at)) (as_stored s s.homes s.views k);
          counted = counted_on s kept id s.homes v v at refl;
        },
        ((λ hit. absurd (miss hit)), (λ _. refl)),
      ))

  -- announcing: the holder says which entries are next
  pub announces : (id : ℕ) (m : Me (Option T) V) (told : List E → Type 0) → m.0.held ≡ true → m.0.spent ≡ false → m.0.emptied ≡ false → m.1 ≡ (0, None) ∷ []
      → (more : List E) × told more × IsLegal stands (m.0.seen ++ more)
      → (slots : ℕ) → Allows R slots id m 0 (λ n. n) (Announced stands told (step slots 0 0 0 none) m)
  announces id m told held live full holds t slots s kept len at small =
      let v = m.0 in
      let k = kept.one_history in
      let c = kept.counted in
      let w = announcing v t.0 in
      let mine = is_mine s k id v at held in
      let f = k.each id v at live in (
        w,
        keeps,
        tt,
        record {
          one_history = hold_on s k (word s) id s.homes v w at mine mine.odd refl record { seen = f.seen; mine = f.mine; earlier = f.earlier } mine.whole (prefix_more v.seen t.0) t.2 (λ _. mine.out full)
              (λ b. absurd (true≢false (sym b)));
          counted = counted_on s kept id s.homes v w at refl;
        },
        (held_at (word s) (turns_of s.views) (count_of s c) c.few mine.odd, holds, (t.0, t.1, t.2, refl)),
      )

  -- giving back: the word goes from odd to even, the value goes into the slot, and the history grows
  pub releases : (slots id : ℕ) (m : Me (Option T) V) (x : T) → slots ≡ 1 → m.0.held ≡ true → m.0.spent ≡ false → m.1 ≡ (0, Some x) ∷ [] → stands x m.0.next
      → Allows R slots id m 0 (λ n. (n + 1) % 2 ^ 64) (Released stands (step slots 0 1 0 none) m)
  releases slots id m x one_slot held live holds is s kept len at small =
      let v = m.0 in
      let k = kept.one_history in
      let c = kept.counted in
      let count = count_of s c in
      let few = c.few in
      let sum = turns_set s.views id v (after v) at in
      let w = after v in
      let mine = is_mine s k id v at held in
      let f = k.each id v at live in
      let one = k.one in
      let odd = mine.odd in
      let new : ℕ = (word s + 1) % 2 ^ 64 in
      let even : new % 2 ≡ 0 = omega arith in
      let now : get_or (set s.words 0 new) 0 0 ≡ new = get_or-set_same s.words 0 new 0 (omega arith) in
      let on : IsPrefix k.history v.next = subst (λ l. IsPrefix l v.next) mine.whole mine.longer in
      let made : StandsIn w.mine v.next = subst (λ l. StandsIn (v.mine ++ l) v.next) (sym (rest_of v.seen v.next mine.longer))
      (subst (λ l. StandsIn (v.mine ++ mine.longer.0) l) mine.longer.1 (stands_both mine.longer.0 mine.longer.0 f.mine (stands_all mine.longer.0))) in (
        w,
        gives,
        tt,
        subst (λ cs. R record { words = set s.words 0 new; homes = put_back s.homes cs; views = set s.views id w }) (sym holds) record {
          one_history = record {
            history = v.next;
            known = (x, is);
            one = length-set s.words 0 new ∙ one;
            each = all_set (λ j u. u.spent ≡ false → Fits v.next u) s.views id w
                (λ _. record { seen = prefix_self v.next; mine = made; earlier = all_begin v.earlier v.seen v.next f.earlier mine.longer })
                (λ j u _ e l. let g = k.each j u e l in record { seen = prefix_trans u.seen k.history v.next g.seen on; mine = g.mine; earlier = g.earlier });
            free = λ _. record {
              idle = all_set (λ j u. u.held ≡ false) s.views id w refl (λ j u apart e. not_on u.held (λ h. apart (mine.alone j u e h)));
              value = x;
              there = set_here s.homes 0 (some (Some x)) (omega arith);
              stands_for = is;
            };
            busy = λ odd'. absurd (omega arith);
          };
          counted = counted_at s.words new (set s.homes 0 (some (Some x))) (set s.views id w) one (omega arith) (omega arith);
        },
        (to_free (word s) (turns_of s.views) count few odd, (x, holds, is), let cut : List (ℕ × Option T) → Me (Option T) V = λ cs. (w, rest cs) in ap cut holds),
      )

  -- a pass is cut in two
  pub parts : (id : ℕ) (v : V) → v.spent ≡ false → Splits R id v v (newcomer v.seen)
  parts id v live s kept at =
      let k = kept.one_history in
      let w = newcomer v.seen in
      let sum = turns_more s.views w refl in
      let f = k.each id v at live in
      subst (λ vs. R record { words = s.words; homes = s.homes; views = vs ++ w ∷ [] }) (sym (set_again s.views id v at)) record {
        one_history = record {
          history = k.history;
          known = k.known;
          one = k.one;
          each = λ j u e l. ⊎_elim (λ was. k.each j u was l) (λ (same : w ≡ u). subst (Fits k.history) same record { seen = f.seen; mine = stands_nothing v.seen; earlier = tt }) (at_snoc s.views w u j e);
          free = λ even.
              let r = k.free even in
              record {
                idle = λ j u e. ⊎_elim (λ was. r.idle j u was) (λ (same : w ≡ u). ap (λ (y : V). y.held) (sym same)) (at_snoc s.views w u j e);
                value = r.value;
                there = r.there;
                stands_for = r.stands_for;
              };
          busy = λ odd.
              let b = k.busy odd in
              record {
                seat = b.seat;
                view = b.view;
                at = at_longer s.views (w ∷ []) b.seat b.view b.at;
                held = b.held;
                alone = λ j u e h. ⊎_elim (λ was. b.alone j u was h) (λ (same : w ≡ u). not_both u.held h (ap (λ (y : V). y.held) (sym same))) (at_snoc s.views w u j e);
                whole = b.whole;
                longer = b.longer;
                ready = b.ready;
                out = b.out;
                emptied = b.emptied;
              };
        };
        counted = recounted s kept.counted (s.views ++ w ∷ []) sum;
      }

  -- two passes become one
  pub joins : (id : ℕ) (v : V) (other : ℕ) (w : V) → v.held ≡ false → w.held ≡ false → v.spent ≡ false → w.spent ≡ false → Joins R id v other w (joined v w) gone
  joins id v other w idle idle' live live' s kept at apart there =
      let k = kept.one_history in
      let both = joined v w in
      let first_sum = turns_set s.views id v both at in
      let second_sum = turns_set (set s.views id both) other w gone there in
      let f = k.each id v at live in
      let was : get_elem? s.views other ≡ some w = sym (set_else s.views id other both apart) ∙ there in
      let g = k.each other w was live' in
      let l = longer_fits v.seen w.seen k.history f.seen g.seen in
      let first = idle_on s k id v both at idle refl (λ _. record { seen = l.2; mine = stands_longer v.mine v.seen both.seen f.mine l.0; earlier = (l.0, (l.1, tt)) }) in
      record {
        one_history = idle_on record { words = s.words; homes = s.homes; views = set s.views id both } first other w gone there idle' refl (λ alive. absurd (true≢false alive));
        counted = recounted s kept.counted (set (set s.views id both) other gone) (omega arith);
      }

  -- the second half of a join
  pub meets : (slots id : ℕ) (m : Me (Option T) V) → m.0.held ≡ false → m.0.spent ≡ false → Allows R slots id m 0 (λ n. n) (Met (step slots 0 0 0 none) m)
  meets slots id m idle live s kept len at small =
      let v = m.0 in
      let k = kept.one_history in
      let w = meeting v in
      let f = k.each id v at live in
      let still = as_stored s s.homes (set s.views id w) (idle_on s k id v w at idle refl (λ _. record { seen = f.seen; mine = f.mine; earlier = tt })) in
      (w, keeps, tt, record { one_history = still; counted = counted_on s kept id s.homes v w at refl }, (refl, f.earlier))

  -- the holder puts back the slot with nothing in it
  pub empties : (slots id : ℕ) (m : Me (Option T) V) → slots ≡ 1 → m.0.held ≡ true → m.0.spent ≡ false → m.1 ≡ (0, None) ∷ []
      → Allows R slots id m 0 (λ n. n) (Emptied (step slots 0 0 0 none) m)
  empties slots id m one_slot held live holds s kept len at small =
      let v = m.0 in
      let k = kept.one_history in
      let c = kept.counted in
      let w = emptying v in
      let mine = is_mine s k id v at held in
      let f = k.each id v at live in (
        w,
        gives,
        tt,
        subst (λ cs. R record { words = set s.words 0 (word s); homes = put_back s.homes cs; views = set s.views id w }) (sym holds)
            record {
              one_history = hold_on s k (word s) id (set s.homes 0 (some None)) v w at mine mine.odd refl record { seen = f.seen; mine = f.mine; earlier = f.earlier } mine.whole mine.longer mine.ready
                  (λ b. absurd (true≢false b)) (λ _. set_here s.homes 0 (some None) (omega arith));
              counted = counted_on s kept id (set s.homes 0 (some None)) v w at refl;
            },
        (held_at (word s) (turns_of s.views) (count_of s c) c.few mine.odd, let cut : List (ℕ × Option T) → Me (Option T) V = λ cs. (w, rest cs) in ap cut holds),
      )
