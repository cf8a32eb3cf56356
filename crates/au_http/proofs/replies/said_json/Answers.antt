use Rattle.std.proofs.Common.{rules}
use Rattle.serde_json.proofs.OnLiterals.{serde_json_on_literals}
use Rattle.au_http.specs.Replies.{fault_text}
use Rattle.au_http.proofs.replies.said_json.Goals as goal

pub returns-in-Disk : goal.returns-in-Disk
unfolding serde_json_on_literals fault_text
returns-in-Disk c = search rules

pub returns-in-Full : goal.returns-in-Full
unfolding serde_json_on_literals fault_text
returns-in-Full c = search rules

pub returns-in-Memory : goal.returns-in-Memory
unfolding serde_json_on_literals fault_text
returns-in-Memory c = search rules
