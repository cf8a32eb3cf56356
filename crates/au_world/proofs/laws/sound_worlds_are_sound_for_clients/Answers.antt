use Rattle.std.proofs.Common.{◌≡◌, Bool, true, false, ◌||◌, inl, inr, List, [], ◌∷◌, refl, sym, ap, ◌∙◌}
use Rattle.std.specs.List.{Contains, list_any}
use Rattle.au_base.specs.Sameness.{same_table}
use Rattle.au_entries.specs.declared.table.Table.{Table}
use Rattle.au_txn.specs.Desks.{open_of}
use Rattle.au_world.specs.Sound.{IsSeenSoundly}
use Rattle.au_world.proofs.Members.{all_of, none, split}
use Rattle.au_world.proofs.Seen.{seen_sound}
use Rattle.au_world.proofs.laws.sound_worlds_are_sound_for_clients.Goals as goal

or_later : (a b : Bool) → b ≡ true → (a || b) ≡ true
or_later true b is = refl
or_later false b is = is

any_of : {X : Type 0} (test : X → Bool) (xs : List X) (x : X) → Contains xs x → test x ≡ true → list_any test xs ≡ true
any_of test [] x has passes = absurd (none x has)
any_of test (y ∷ xs) x has passes = elim (split y xs x has) [
  | inl same ↦ ap (λ b. b || list_any test xs) (ap test same ∙ passes)
  | inr later ↦ or_later (test y) (list_any test xs) (any_of test xs x later passes)
]

pub returns : goal.returns
returns c = λ world client sound.
    let desk = world.desk.now in
    let tables = world.catalog.now.tables in
    record {
      order = sound.order;
      tables = sound.tables;
      seen = all_of (λ (table : Table). IsSeenSoundly desk client table.name) tables (λ table has. record {
        cells = seen_sound tables desk.rows (open_of desk client) table.name sound.committed (sound.changed client) (c.laid_rows_answer.ensures.laid desk.rows (open_of desk client))
            (λ a b. (c.same_is_equal.ensures.table a b).0) (any_of (λ (other : Table). same_table other.name table.name) tables table has ((c.same_is_equal.ensures.table table.name table.name).1 refl));
        keys = sound.keys client table.name;
      });
      records = sound.records;
    }
