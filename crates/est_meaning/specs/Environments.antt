-- What is known of a signal and of a test, and environments (Berry, The Constructive Semantics of Pure Esterel).
use Rattle.std.specs.Prelude.{ℕ, Bool, true, false, cond}
use Rattle.est_kernel.specs.Term.{Name, inner, Query, tick, of, negated, joined, Queries, last, more, Joint}
use Rattle.est_kernel.specs.declared.statement.Connective.{Connective}
use Rattle.est_kernel.specs.declared.statement.Connective.TheVariants.{And, Or}
use Rattle.est_meaning.specs.Signals.{same_name}
use Rattle.est_meaning.specs.declared.status.Status.{Status}
use Rattle.est_meaning.specs.declared.status.Status.TheVariants.{Present, Absent, Unknown}

-- an environment gives each signal its status
abbrev pub Env : Type 0
Env = Name → Status

-- `not`: present and absent are exchanged, what is unknown stays so
abbrev pub opposite : Status → Status
opposite Present = Absent
opposite Absent = Present
opposite Unknown = Unknown

-- `and`: absent where a side is absent, present where both are present, else unknown
abbrev pub and_status : Status → Status → Status
and_status Present w = w
and_status Absent w = Absent
and_status Unknown Present = Unknown
and_status Unknown Absent = Absent
and_status Unknown Unknown = Unknown

-- `or`: present where a side is present, absent where both are absent, else unknown
abbrev pub or_status : Status → Status → Status
or_status Present w = Present
or_status Absent w = w
or_status Unknown Present = Present
or_status Unknown Absent = Unknown
or_status Unknown Unknown = Unknown

-- the status of two tests with a connective between them
abbrev pub joint_status : Connective → Status → Status → Status
joint_status And v w = and_status v w
joint_status Or v w = or_status v w

abbrev mutual
  -- the status of what a test asks: `tick` is always present
  pub status_of : Env → Query → Status
  status_of e tick = Present
  status_of e (of s) = e s
  status_of e (negated t) = opposite (status_of e t)
  status_of e (joined c t ts) = joint_status c (status_of e t) (status_of_all c e ts)

  -- the status of these tests with a connective between each two
  pub status_of_all : Connective → Env → Queries → Status
  status_of_all c e (last t) = status_of e t
  status_of_all c e (more t ts) = joint_status c (status_of e t) (status_of_all c e ts)

-- the same for operands
abbrev pub status_of_joint : Connective → Env → Joint → Status
status_of_joint c e o = joint_status c (status_of e o.first) (status_of_all c e o.later)

-- the environment with the local signal set to this status
unfoldable pub with_local : Env → ℕ → Status → Env
with_local e s v t = cond (same_name (inner s) t) v (e t)

-- the verdict on a signal, from whether it must be emitted and whether it can be: present, absent or still unknown
abbrev pub verdict : Bool → Bool → Status
verdict true can_be = Present
verdict false true = Unknown
verdict false false = Absent

-- whether nothing is known
abbrev pub is_unknown : Status → Bool
is_unknown Present = false
is_unknown Absent = false
is_unknown Unknown = true

-- one of three, by a status
abbrev pub by_status : {A : Type 0} → Status → A → A → A → A
by_status Present a b c = a
by_status Absent a b c = b
by_status Unknown a b c = c
