use Rattle.std.proofs.Common.{◌≡◌, ◌∙◌, ◌++◌, Global, List, Vec, ap, map}
use Rattle.std.proofs.lemmas.List.{map-append}
use Rattle.au_base.specs.declared.cell.Cell.{Cell}
use Rattle.au_engine.proofs.Taken.{one_there}
use Rattle.au_engine.proofs.rows.add_content.Goals as goal

pub returns-in_ok-push-in-Some : goal.returns-in_ok-push-in-Some
returns-in_ok-push-in-Some c =
    ap (λ (l : List (Vec Cell Global)). map (λ (cells : Vec Cell Global). cells.items) l) c.in_ok-push-in-Some.ensures.items
    ∙ (map-append (λ (cells : Vec Cell Global). cells.items) c.args.contents.now.items _
    ∙ ap (λ (rest : List (List Cell)). map (λ (cells : Vec Cell Global). cells.items) c.args.contents.now.items ++ rest)
    (one_there c.args.change.now.new c.in-Some.cells c.into_vec.result.items c.in-Some.is (c.into_vec.ensures ∙ c.in_ok-copy-in-Some.ensures)))
