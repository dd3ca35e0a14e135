use Rattle.std.proofs.Common.{refl, inl, inr, arith}
use Rattle.rbac_admin.proofs.Shaping.{repeated_twice, none_twice}
use Rattle.rbac_admin.proofs.rules.check_dsd_shape.Goals as goal

pub returns-in-Some : goal.returns-in-Some
returns-in-Some c = (refl, inl (repeated_twice c.args.roles.now _ c.in-Some.ensures))

pub returns-in-None : goal.returns-in-None
returns-in-None c = λ bad. elim bad [
  | inl twice ↦ twice (none_twice c.args.roles.now c.in-None.ensures)
  | inr size ↦ elim size [
    | inl few ↦ omega (arith, few, c.if-count-lt2.false)
    | inr many ↦ omega (arith, many, c.if-len-count.false, c.len.ensures.same)
  ]
]
