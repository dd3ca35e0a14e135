-- The status of a test, one operand after another.
use Rattle.std.proofs.Common.{◌≡◌, List, [], ◌∷◌, map, refl, ap, sym, ◌∙◌}
use Rattle.std.specs.List.{fold}
use Rattle.est_kernel.specs.Term.{Query}
use Rattle.est_kernel.specs.View.{query_of, queries_of, joint_of}
use Rattle.est_kernel.specs.declared.statement.Connective.{Connective}
use Rattle.est_kernel.specs.declared.statement.Connective.TheVariants.{And, Or}
use Rattle.est_kernel.specs.declared.statement.Operands.{Operands}
use Rattle.est_kernel.specs.declared.statement.Test.{Test}
use Rattle.est_kernel.specs.declared.statement.Test.TheViews.{out-Operands}
use Rattle.est_kernel.proofs.Tests.{operands_seen}
use Rattle.est_meaning.specs.declared.status.Status.{Status}
use Rattle.est_meaning.specs.declared.status.Status.TheVariants.{Present, Absent, Unknown}
use Rattle.est_meaning.specs.Environments.{Env, and_status, or_status, joint_status, status_of, status_of_all}
use Rattle.est_meaning.specs.Environments.{status_of_joint}

and_in_turn : (u v w : Status) → and_status (and_status u v) w ≡ and_status u (and_status v w)
and_in_turn Present v w = refl
and_in_turn Absent v w = refl
and_in_turn Unknown Present w = refl
and_in_turn Unknown Absent w = refl
and_in_turn Unknown Unknown Present = refl
and_in_turn Unknown Unknown Absent = refl
and_in_turn Unknown Unknown Unknown = refl

or_in_turn : (u v w : Status) → or_status (or_status u v) w ≡ or_status u (or_status v w)
or_in_turn Present v w = refl
or_in_turn Absent v w = refl
or_in_turn Unknown Present w = refl
or_in_turn Unknown Absent w = refl
or_in_turn Unknown Unknown Present = refl
or_in_turn Unknown Unknown Absent = refl
or_in_turn Unknown Unknown Unknown = refl

-- three tests with a connective between them may be taken from either end
joint_in_turn : (c : Connective) (u v w : Status) → joint_status c (joint_status c u v) w
    ≡ joint_status c u (joint_status c v w)
joint_in_turn And u v w = and_in_turn u v w
joint_in_turn Or u v w = or_in_turn u v w

-- one more operand
abbrev pub joined_with : Connective → Env → Status → Test → Status
joined_with c e v t = joint_status c v (status_of e (query_of t))

listed_status : (c : Connective) (e : Env) (v : Status) (t : Query) (ts : List Test)
    → joint_status c v (status_of_all c e (queries_of t (map query_of ts)))
    ≡ fold (joined_with c e) (joint_status c v (status_of e t)) ts
listed_status c e v t [] = refl
listed_status c e v t (u ∷ us) = sym (joint_in_turn c v (status_of e t) _)
    ∙ listed_status c e (joint_status c v (status_of e t)) (query_of u) us

-- the status of operands, from the first and the second on
pub operands_status : (c : Connective) (e : Env) (o : Operands)
    → status_of_joint c e (joint_of o) ≡ fold (joined_with c e)
    (joint_status c (status_of e (query_of (out-Operands o).first.value))
    (status_of e (query_of (out-Operands o).second.value)))
    (out-Operands o).later.items
operands_status c e o =
    let parts = out-Operands o in
    ap (status_of_joint c e) (operands_seen o)
    ∙ listed_status c e (status_of e (query_of parts.first.value)) (query_of parts.second.value) parts.later.items
