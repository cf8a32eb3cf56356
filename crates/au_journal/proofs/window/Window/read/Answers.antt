use Rattle.std.proofs.Common.{ℕ, ◌-◌, List, ◌++◌, length, take, drop, ◌∙◌, ap, sym, drop-drop}
use Rattle.au_io.specs.Areas.{area_of}
use Rattle.au_journal.proofs.Pieces.{joined}
use Rattle.au_journal.proofs.window.Window.read.Goals as goal

pub returns-clause-bytes : goal.returns-clause-bytes
returns-clause-bytes g c = λ told.
    let area = area_of c.args.area (g.D.Disk.meaning c.args.disk.now).reads in
    let d = drop c.args.at area in
    let held = c.copy_to-held.result in
    let more = c.in_ok-more.more in
    let mid = c.copy_to-held.new.room in
    joined d c.args.room.now mid c.read_on.new.room held more (c.copy_to-held.ensures.bytes area (c.requires.shown told)) c.copy_to-held.auto.room c.copy_to-held.ensures.count
    (c.in_ok-more.ensures.bytes told ∙ ap (λ (l : List ℕ). take more l ++ drop more (take (length mid - held) (drop held mid))) (sym (drop-drop held c.args.at area)))
