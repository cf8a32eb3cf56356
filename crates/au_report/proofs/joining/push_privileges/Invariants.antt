use Rattle.std.proofs.Common.{◌≡◌, ◌++◌, map, take}
use Rattle.std.specs.String.{string_bytes}
use Rattle.au_base.specs.Privileges.{name_of}
use Rattle.au_audit.specs.TrailRows.{further}
use Rattle.au_report.proofs.joining.push_privileges.Given as goal

abbrev pub invariant-loop-privilege : goal.invariant-loop-privilege
invariant-loop-privilege l = string_bytes l.text ≡ string_bytes l.fn.text ++ further (map name_of (take l.privilege-index l.privileges))
