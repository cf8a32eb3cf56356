use Rattle.std.proofs.Common.{◌≡◌, map, take}
use Rattle.serde_json.specs.View.{view}
use Rattle.au_http.specs.Replies.{cell_data}
use Rattle.au_http.proofs.replies.row_value.Given as goal

abbrev pub invariant-loop-cell : goal.invariant-loop-cell
invariant-loop-cell l = map view l.items.items ≡ map cell_data (take l.cell-index l.cells)
