-- The image of what is kept is a frame, and makes of nothing what was kept.
use Rattle.std.proofs.Common.{◌≡◌, ◌≤◌, ◌<◌, ◌^◌, List, [], length, sym, ap, subst, arith}
use Rattle.std.specs.Prelude.{IsTrue, true}
use Rattle.std.proofs.lemmas.Bool.Decides.{nat_tests}
use Rattle.au_base.specs.BuiltIn.{sys}
use Rattle.au_base.specs.Limits.{LAST_MOMENT}
use Rattle.au_base.specs.declared.numbers.Stamp.{Stamp}
use Rattle.au_entries.specs.declared.kept.Kept.{Kept}
use Rattle.au_entries.specs.declared.trail_record.Record.{Record}
use Rattle.au_entries.specs.Changing.{changed_all}
use Rattle.au_entries.specs.Imaging.{image_changes, nothing}
use Rattle.au_entries.specs.Lawful.{IsLawful, IsWhole}
use Rattle.au_entries.specs.Replaying.{AllGoOn, Conditions, has_user}
use Rattle.au_image.specs.Image.{image_of}
use Rattle.rec_codec.specs.Changes.{change}
use Rattle.rec_codec.specs.Frames.{IsSpellable, body}
use Rattle.rec_parts.specs.Parts.{stamp}
use Rattle.au_kept.specs.Frames.{IsReplayable, after_frame}
use Rattle.au_kept.specs.Sound.{IsKept}

-- the changes of an image go on from nothing, and make of nothing what was kept but for the trail and the last stamp
pub record ComesBack : Type 0 where
  pub goes : (conditions : Conditions) (kept : Kept) → IsLawful conditions kept → AllGoOn conditions true nothing (image_changes kept)
  pub back : (conditions : Conditions) (kept : Kept) → IsLawful conditions kept → changed_all conditions.tree (image_changes kept) nothing ≡ record kept { trail = []; last = record { 0 = 0 } }

can_stamp : (moment : Stamp) → moment.0 ≤ LAST_MOMENT → stamp.IsSpellable moment
unfolding stamp
can_stamp moment within = (omega arith, grind (arith, nat_tests, within))

pub image_spellable : (conditions : Conditions) (kept : Kept) → IsKept conditions kept → length (image_changes kept) < 2 ^ 32 → length kept.trail < 2 ^ 32 → IsSpellable (image_of kept)
unfolding body change
image_spellable conditions kept h changes records = (
  can_stamp kept.last h.lawful.last,
  ((changes, h.spelled.entries), (records, h.spelled.records)),
)

pub image_leads : ComesBack → (conditions : Conditions) (kept : Kept) → IsKept conditions kept → after_frame conditions.tree nothing (image_of kept) ≡ kept
image_leads comes conditions kept h = ap (λ (k : Kept). record k { trail = kept.trail; last = kept.last }) (comes.back conditions kept h.lawful)

-- what is whole is so whatever the trail and the last stamp
without_trail : (kept : Kept) (trail : List Record) (last : Stamp) → IsWhole kept → IsWhole (record kept { trail = trail; last = last })
without_trail kept trail last h = record {
  fits = h.fits;
  keys = h.keys;
  few = record {
    users = h.few.users;
    roles = h.few.roles;
    tables = h.few.tables;
    policies = h.few.policies;
    fga = h.few.fga;
    grants = h.few.grants;
    columns = h.few.columns;
    rows = h.few.rows;
  };
}

pub image_goes : ComesBack → (conditions : Conditions) (kept : Kept) → IsKept conditions kept → IsTrue (has_user kept sys) → IsReplayable conditions nothing (image_of kept)
image_goes comes conditions kept h user =
    let same = sym (comes.back conditions kept h.lawful) in
    record {
      stamped = omega arith;
      go_on = comes.goes conditions kept h.lawful;
      sys = subst (λ (k : Kept). IsTrue (has_user k sys)) same user;
      whole = subst IsWhole same (without_trail kept [] (record { 0 = 0 }) h.whole);
    }
