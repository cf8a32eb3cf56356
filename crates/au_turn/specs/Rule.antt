-- The rule of a turn, and what each step tells.
-- The one word is twice the number of turns that were given back, and one more while a pass holds the value.
-- The one slot has the value while nobody holds it.
use Rattle.std.specs.Prelude.{◌≡◌, ◌≢◌, ℕ, ◌+◌, ◌*◌, ◌^◌, ◌%◌, ◌≤◌, ◌<◌, true, false, List, [], ◌∷◌, ◌++◌, length, slice_index, Some, None}
use mathlib.Core.Option.{some, none}
use mathlib.Core.List.{IsPrefix}
use lib.ListN.{get_elem?}
use Rattle.std.specs.declared.option.Option.{Option}
use Rattle.atomic_table.specs.Table.{State, Me, Step}
use Rattle.au_turn.specs.declared.view.View.{View}
use Rattle.au_turn.specs.Entries.{StandsIn, AllBegin}
use Rattle.au_turn.specs.View.{turns_of, holding, announcing, after, meeting, emptying}

-- the word after so many turns, while nobody holds the value
abbrev pub free_after : ℕ → ℕ
free_after turns = 2 * turns

-- the word after so many turns, while a pass holds the value for one more
abbrev pub held_after : ℕ → ℕ
held_after turns = 2 * turns + 1

-- a pass holds the value at this word, after fewer than 2^62 turns
abbrev pub IsHeldWord : ℕ → Type 0
IsHeldWord word = (turns : ℕ) × (word ≡ held_after turns) × (turns < 2 ^ 62)

-- the word goes from free to held after the same number of turns, fewer than 2^62
abbrev pub BecomesHeld : ℕ → ℕ → Type 0
BecomesHeld word later = (turns : ℕ) × (word ≡ free_after turns) × (later ≡ held_after turns) × (turns < 2 ^ 62)

-- the word goes from held to free, and the number of turns is one more, 2^62 at most
abbrev pub BecomesFree : ℕ → ℕ → Type 0
BecomesFree word later = (turns : ℕ) × (word ≡ held_after turns) × (later ≡ free_after (turns + 1)) × (turns < 2 ^ 62)

-- a pass that isn't spent has seen a beginning of the history, in which what it made stands
pub record Fits {E : Type 0} (history : List E) (v : View E) : Type 0 where
  pub seen : IsPrefix v.seen history
  pub mine : StandsIn v.mine v.seen
  pub earlier : AllBegin v.earlier v.seen

module _ {T E : Type 0} where
  -- the list is legal: there is a value that stands for it
  abbrev pub IsLegal : (T → List E → Type 0) → List E → Type 0
  IsLegal stands list = (value : T) × stands value list

  -- no pass holds the value; it is in the slot and stands for the history
  pub record Free (stands : T → List E → Type 0) (s : State (Option T) (View E)) (history : List E) : Type 0 where
    pub idle : (by : ℕ) (v : View E) → get_elem? s.views by ≡ some v → v.held ≡ false
    pub value : T
    pub there : get_elem? s.homes 0 ≡ some (some (Some value))
    pub stands_for : stands value history

  -- one pass alone holds the value and the slot, and has seen the whole history; what it is about to make known is legal too
  pub record Busy (stands : T → List E → Type 0) (s : State (Option T) (View E)) (history : List E) : Type 0 where
    pub seat : ℕ
    pub view : View E
    pub at : get_elem? s.views seat ≡ some view
    pub held : view.held ≡ true
    pub alone : (by : ℕ) (v : View E) → get_elem? s.views by ≡ some v → v.held ≡ true → by ≡ seat
    pub whole : view.seen ≡ history
    pub longer : IsPrefix view.seen view.next
    pub ready : IsLegal stands view.next
    pub out : view.emptied ≡ false → get_elem? s.homes 0 ≡ some none
    pub emptied : view.emptied ≡ true → get_elem? s.homes 0 ≡ some (some None)

  -- there is one legal history, which each pass fits, and the value is in the slot or with one pass
  pub record OneHistory (stands : T → List E → Type 0) (s : State (Option T) (View E)) : Type 0 where
    pub history : List E
    pub known : IsLegal stands history
    pub one : length s.words ≡ 1
    pub each : (by : ℕ) (v : View E) → get_elem? s.views by ≡ some v → v.spent ≡ false → Fits history v
    pub free : slice_index s.words 0 % 2 ≡ 0 → Free stands s history
    pub busy : slice_index s.words 0 % 2 ≡ 1 → Busy stands s history

  -- the word is that after all turns which the passes gave back, and those are 2^62 at most
  pub record Counted (s : State (Option T) (View E)) : Type 0 where
    pub free : slice_index s.words 0 % 2 ≡ 0 → slice_index s.words 0 ≡ free_after (turns_of s.views)
    pub busy : slice_index s.words 0 % 2 ≡ 1 → slice_index s.words 0 ≡ held_after (turns_of s.views)
    pub few : slice_index s.words 0 ≤ free_after (2 ^ 62)

  -- the rule: there is one history, and the word counts the turns
  pub record Kept (stands : T → List E → Type 0) (s : State (Option T) (View E)) : Type 0 where
    pub one_history : OneHistory stands s
    pub counted : Counted s

  -- the pass got the value, and has seen the history for which it stands
  abbrev pub Got : (T → List E → Type 0) → Me (Option T) (View E) → Me (Option T) (View E) → Type 0
  Got stands m m' = (x : T) × (history : List E) × (m' ≡ (holding m.0 history, (0, Some x) ∷ [])) × stands x history × IsPrefix m.0.seen history

  -- the word was as expected, it went from free to held, and the pass got the value; or else nothing changed
  abbrev pub Taken : (T → List E → Type 0) → Step (Option T) → Me (Option T) (View E) → ℕ → Me (Option T) (View E) → Type 0
  Taken stands st m found m' = (found ≡ st.first → BecomesHeld found st.second × Got stands m m') × (found ≢ st.first → m' ≡ m)

  -- the holder, whose slot is empty, announced a list that is told, by which the history stays legal
  abbrev pub Announced : (T → List E → Type 0) → (List E → Type 0) → Step (Option T) → Me (Option T) (View E) → ℕ → Me (Option T) (View E) → Type 0
  Announced stands told st m found m' = IsHeldWord found × (m.1 ≡ (0, None) ∷ []) × ((more : List E) × told more × IsLegal stands (m.0.seen ++ more) × (m' ≡ (announcing m.0 more, m.1)))

  -- the holder, whose slot had a value that stands for what it announced, gave that back, and what was added to the word made it free
  abbrev pub Released : (T → List E → Type 0) → Step (Option T) → Me (Option T) (View E) → ℕ → Me (Option T) (View E) → Type 0
  Released stands st m found m' = BecomesFree found (found + st.first) × ((x : T) × (m.1 ≡ (0, Some x) ∷ []) × stands x m.0.next) × (m' ≡ (after m.0, []))

  -- the holder put back the slot with nothing in it, and the word stayed held
  abbrev pub Emptied : Step (Option T) → Me (Option T) (View E) → ℕ → Me (Option T) (View E) → Type 0
  Emptied st m found m' = IsHeldWord found × (m' ≡ (emptying m.0, []))

module _ {S E : Type 0} where
  -- the pass knows that the earlier lists begin what it has seen
  abbrev pub Met : Step S → Me S (View E) → ℕ → Me S (View E) → Type 0
  Met st m found m' = (m' ≡ (meeting m.0, m.1)) × AllBegin m.0.earlier m.0.seen
