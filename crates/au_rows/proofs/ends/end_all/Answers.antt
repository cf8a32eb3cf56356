use Rattle.std.proofs.Common.{◌≡◌, ◌∙◌, true, ◌∷◌, sym, refl, arith}
use Rattle.std.specs.List.{list_all}
use Rattle.au_rows.specs.Kept.{is_owned, is_logged}
use Rattle.au_rows.proofs.AllLemmas.{ended-none, ended-step}
use Rattle.au_rows.proofs.EndLemmas.{loose-frees, kept-is-loose}
use Rattle.au_rows.proofs.TakenLemmas.{all-others, ended-all, taken-all, taken-first, taken-length, taken-others}
use Rattle.au_rows.proofs.ends.end_all.Goals as goal

pub loop-change-init : goal.loop-change-init
loop-change-init c = record {
  left = c.requires.left;
  ended = ended-none c.args.ending c.args.by c.args.changes.now.listed c.args.places.now.listed c.args.versions.now.slots c.requires.order c.requires.whole c.requires.covered;
  others = refl;
  logged = c.requires.logged;
  owned = c.requires.owned;
  room = omega arith;
  places_room = refl;
  tables = refl;
  changes_room = omega arith;
}

pub end_change-requires-clause-loose : goal.end_change-requires-clause-loose
end_change-requires-clause-loose c =
    let change = c.in-Some.change in
    let before = c.args.versions.now.slots in
    let left = c.pop.new.self.listed in
    let all : list_all (is_logged before) (change ∷ left) ≡ true = sym (taken-all c.args.by change c.loop-change.changes.listed left c.in-Some.ensures.taken (is_logged before)) ∙ c.loop-change.invariant.logged in
    let logged : is_logged before change ≡ true = grind arith in
    loose-frees before c.loop-change.versions.slots change.table change.number.0 change.slot c.loop-change.invariant.ended.frees
    (kept-is-loose before change.table change.number.0 change.slot logged)

pub loop-change-preserved : goal.loop-change-preserved
loop-change-preserved c =
    let change = c.in-Some.change in
    let before = c.args.versions.now.slots in
    let places = c.args.places.now.listed in
    let old = c.loop-change.changes.listed in
    let left = c.pop.new.self.listed in
    let taken = c.in-Some.ensures.taken in
    let i = c.loop-change.invariant in
    let all : list_all (is_logged before) (change ∷ left) ≡ true = sym (taken-all c.args.by change old left taken (is_logged before)) ∙ i.logged in
    let logged : list_all (is_logged before) left ≡ true = grind arith in
    let mine : list_all (is_owned places) (change ∷ left) ≡ true = sym (taken-all c.args.by change old left taken (is_owned places)) ∙ i.owned in
    let first : is_owned places change ≡ true = grind arith in
    let owned : list_all (is_owned places) left ≡ true = grind arith in
    let most = i.changes_room in
    let room = c.pop.ensures.room in
    let versions_room = i.room in
    record {
      left = c.end_change.ensures.left;
      ended = ended-step c.args.ending c.args.by change left c.args.changes.now.listed places c.loop-change.places.listed c.end_change.new.places.listed before c.loop-change.versions.slots c.end_change.new.versions.slots
          (taken-first c.args.by change old left taken c.args.ending c.args.changes.now.listed places c.loop-change.places.listed before c.loop-change.versions.slots i.ended)
          first taken.own c.end_change.ensures.gone c.end_change.ensures.row;
      others = taken-others c.args.by change old left taken ∙ i.others;
      logged = logged;
      owned = owned;
      room = omega arith;
      places_room = c.end_change.ensures.places_room ∙ i.places_room;
      tables = c.end_change.ensures.tables ∙ i.tables;
      changes_room = omega arith;
    }

pub loop-change-smaller : goal.loop-change-smaller
loop-change-smaller c = let less = taken-length c.args.by c.in-Some.change c.loop-change.changes.listed c.pop.new.self.listed c.in-Some.ensures.taken in omega arith

pub returns-clause-ended : goal.returns-clause-ended
returns-clause-ended c =
    ended-all c.args.ending c.args.by c.loop-change.changes.listed c.args.changes.now.listed c.args.places.now.listed c.loop-change.places.listed c.args.versions.now.slots c.loop-change.versions.slots
    c.in_default.ensures.none c.loop-change.invariant.ended

pub returns-clause-others : goal.returns-clause-others
returns-clause-others c =
    c.in_default.ensures.same ∙ (sym (all-others c.args.by c.loop-change.changes.listed c.in_default.ensures.none) ∙ c.loop-change.invariant.others)
