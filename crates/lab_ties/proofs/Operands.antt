-- Whether the operands of a test ask for a signal, one after another.
use Rattle.std.specs.Prelude.{◌≡◌, ◌||◌, Bool, List, [], ◌∷◌, map}
use Rattle.std.proofs.Common.{refl, ap, sym, ◌∙◌}
use Rattle.std.proofs.Math.Bool.{or_assoc}
use Rattle.std.specs.List.{fold}
use Rattle.est_kernel.specs.Term.{Name, Query}
use Rattle.est_kernel.specs.View.{query_of, queries_of, joint_of}
use Rattle.est_kernel.specs.declared.statement.Operands.{Operands}
use Rattle.est_kernel.specs.declared.statement.Test.{Test}
use Rattle.est_kernel.specs.declared.statement.Test.TheViews.{out-Operands}
use Rattle.est_kernel.proofs.Tests.{operands_seen}
use Rattle.lab_ties.specs.Ties.{reads, reads_of_all, reads_of_joint}

-- one more operand
abbrev pub read_with : Name → Bool → Test → Bool
read_with x v t = v || reads x (query_of t)

listed_read : (x : Name) (v : Bool) (t : Query) (ts : List Test)
    → (v || reads_of_all x (queries_of t (map query_of ts))) ≡ fold (read_with x) (v || reads x t) ts
listed_read x v t [] = refl
listed_read x v t (w ∷ ws) = sym (or_assoc v (reads x t) _) ∙ listed_read x (v || reads x t) (query_of w) ws

pub operands_read : (x : Name) (o : Operands)
    → reads_of_joint x (joint_of o) ≡ fold (read_with x)
    (reads x (query_of (out-Operands o).first.value) || reads x (query_of (out-Operands o).second.value))
    (out-Operands o).later.items
operands_read x o =
    let parts = out-Operands o in
    ap (reads_of_joint x) (operands_seen o)
    ∙ listed_read x (reads x (query_of parts.first.value)) (query_of parts.second.value) parts.later.items
