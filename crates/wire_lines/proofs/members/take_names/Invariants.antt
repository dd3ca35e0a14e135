use Rattle.std.proofs.Common.{◌≡◌, ◌+◌, ◌-◌, length}
use Rattle.rbac_policy.specs.declared.names.TheConstants.{LISTED_ROLES}
use Rattle.wire_lines.specs.Inner.Members.{names_in, with_front}
use Rattle.wire_lines.proofs.members.take_names.Given as goal

abbrev pub invariant-loop-reader : goal.invariant-loop-reader
invariant-loop-reader l = with_front l.names.items (names_in l.reader) ≡ names_in l.initial.reader

abbrev pub decreases-loop-reader : goal.decreases-loop-reader
decreases-loop-reader l = LISTED_ROLES + 1 - length l.names.items
