-- What a pass knows after each kind of step.
use Rattle.std.specs.Prelude.{ℕ, suc, ◌+◌, true, false, List, [], ◌∷◌, ◌++◌, length, drop, sum_by}
use Rattle.au_turn.specs.declared.view.View.{View}
use Rattle.au_turn.specs.Entries.{longer}

module _ {E : Type 0} where
  -- how often the passes gave the value back, all together
  abbrev pub turns_of : List (View E) → ℕ
  turns_of views = sum_by (λ v. v.turns) views

  -- it has seen these entries and made none
  abbrev pub newcomer : List E → View E
  newcomer seen = record { seen = seen; mine = []; next = []; earlier = []; turns = 0; held = false; emptied = false; spent = false }

  -- it was joined to another
  abbrev pub gone : View E
  gone = record { seen = []; mine = []; next = []; earlier = []; turns = 0; held = false; emptied = false; spent = true }

  -- it holds the value, which stands for the history
  abbrev pub holding : View E → List E → View E
  holding v history = record { seen = history; mine = v.mine; next = history; earlier = v.earlier; turns = v.turns; held = true; emptied = false; spent = false }

  -- it holds the value, and said which entries it is about to make known
  abbrev pub announcing : View E → List E → View E
  announcing v more = record { seen = v.seen; mine = v.mine; next = v.seen ++ more; earlier = v.earlier; turns = v.turns; held = true; emptied = false; spent = false }

  -- it gave the value back once more, and the entries that it announced are known
  abbrev pub after : View E → View E
  after v = record { seen = v.next; mine = v.mine ++ drop (length v.seen) v.next; next = v.next; earlier = v.earlier; turns = suc v.turns; held = false; emptied = false; spent = false }

  -- it took in another pass, and keeps what both had seen
  abbrev pub joined : View E → View E → View E
  joined v w = record { seen = longer v.seen w.seen; mine = v.mine; next = []; earlier = v.seen ∷ w.seen ∷ []; turns = v.turns + w.turns; held = false; emptied = false; spent = false }

  -- it knows that what both had seen begins what it has seen
  abbrev pub meeting : View E → View E
  meeting v = record { seen = v.seen; mine = v.mine; next = []; earlier = []; turns = v.turns; held = false; emptied = false; spent = false }

  -- it put back the slot with nothing in it
  abbrev pub emptying : View E → View E
  emptying v = record { seen = v.seen; mine = v.mine; next = v.next; earlier = v.earlier; turns = v.turns; held = true; emptied = true; spent = false }
