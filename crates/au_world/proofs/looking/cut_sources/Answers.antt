use Rattle.std.proofs.Common.{◌∙◌, ◌++◌, ◌∷◌, [], List, map, ap, arith, sym, subst}
use Rattle.std.specs.List.{AllByRecursion, AllZip, enumerate_from}
use Rattle.std.proofs.lemmas.List.{append-nil, drop_all, map-append}
use Rattle.au_base.specs.declared.table.TableName.{TableName}
use Rattle.au_query.specs.declared.source.Source.{Source}
use Rattle.au_query.specs.Combos.{IsSoundLine, rows_of, views}
use Rattle.au_world.specs.Cutting.{IsPart}
use Rattle.au_world.specs.Inside.{IsFoundTable, conditions_asked, names_in, told_by, whole_of, wholes}
use Rattle.au_world.specs.Selecting.{Seen}
use Rattle.au_world.specs.Sights.{sight_of}
use Rattle.au_world.proofs.LookUps.{all_push, one_more, tail_of}
use Rattle.au_world.proofs.Told.{mapped_twice}
use Rattle.au_world.proofs.looking.cut_sources.Goals as goal

pub loop-place-preserved : goal.loop-place-preserved
loop-place-preserved c =
    let asked = c.args.asked.now in
    let tables = asked.tables.now in
    let whole = whole_of (sight_of c.args.world.now asked.client) in
    let part = IsPart asked.session.now (conditions_asked asked) (names_in tables) in
    let place = c.loop-place.place in
    let table = c.table-item.result in
    let source = c.in_ok-cut_source.field-0 in
    let told = ap (map told_by) c.in_ok-push.ensures.items ∙ map-append told_by c.loop-place.sources.items (source ∷ []) in
    let rows = ap views c.in_ok-push.ensures.items ∙ map-append rows_of c.loop-place.sources.items (source ∷ []) in (
      λ rest all. subst (λ done. AllZip part (enumerate_from 0 (wholes (sight_of c.args.world.now asked.client) tables)) (done ++ rest)) (sym told)
          (one_more part whole tables place table (map told_by c.loop-place.sources.items) (told_by source) c.loop-place-test.true c.table-item.is c.in_ok-cut_source.ensures.part c.loop-place.invariant.0 rest all),
      subst (AllByRecursion (AllByRecursion IsSoundLine)) (sym rows) (all_push (AllByRecursion IsSoundLine) (views c.loop-place.sources.items) (rows_of source) c.loop-place.invariant.1 c.in_ok-cut_source.ensures.sound),
      tail_of (IsFoundTable c.args.world.now) tables place table c.loop-place-test.true c.table-item.is c.loop-place.invariant.2,
    )

pub returns-clause-parts : goal.returns-clause-parts
returns-clause-parts c =
    let asked = c.args.asked.now in
    let tables = asked.tables.now in
    let sight = sight_of c.args.world.now asked.client in
    let all = λ (names : List TableName). AllZip (IsPart asked.session.now (conditions_asked asked) names) in
    let told = map told_by c.loop-place.sources.items in
    subst (λ (names : List TableName). all names (enumerate_from 0 (wholes sight tables)) told) (sym (mapped_twice (whole_of sight) (λ (t : Seen). t.0) tables))
    (subst (all (names_in tables) (enumerate_from 0 (wholes sight tables))) (append-nil told)
    (c.loop-place.invariant.0 [] (subst (λ rest. all (names_in tables) (enumerate_from c.loop-place.place (wholes sight rest)) []) (sym (drop_all c.loop-place.place tables (omega (arith, c.loop-place-test.false)))) tt)))
