use Rattle.std.proofs.Common.{◌≡◌, ◌∙◌, refl, ap, subst, length, map}
use Rattle.std.proofs.lemmas.List.{length-map}
use Rattle.std.proofs.lemmas.List.Sorted.{length_permutation}
use Rattle.au_query.specs.Combos.{cells_at}
use Rattle.au_query.specs.Ordering.{IsOrdered}
use Rattle.au_query.specs.descent.Outputs.{trees_in}
use Rattle.au_query.specs.Queries.{query_of}
use Rattle.au_query.proofs.query.reply.Goals as goal

pub returns : goal.returns
returns c =
    let plan = c.requires.plan in
    let passing = c.args.combos.items in
    let put = c.put_in_order.new.combos.items in
    let query = query_of c.args.ranges.now c.args.select.now in
    let ordered : IsOrdered query.order passing put = subst (λ keys. IsOrdered keys passing put) (c.as_slice.ensures.value ∙ plan.order) c.in_ok-put_in_order.ensures in
    let rows : c.in_ok-rows.rows ≡ map (cells_at c.args.session.now query.items) put =
    c.in_ok-rows.ensures
    ∙ ap (λ trees. map (cells_at c.args.session.now trees) c.as_slice-3.result.now) (ap trees_in c.as_slice-2.ensures.value ∙ plan.items)
    ∙ ap (map (cells_at c.args.session.now query.items)) c.as_slice-3.ensures.value in
    record {
      code = refl;
      columns = c.in_ok-columns.ensures;
      count = c.len.ensures ∙ ap length rows ∙ length-map put (cells_at c.args.session.now query.items) ∙ length_permutation passing put ordered.same;
      rows = (put, ordered, rows);
    }
