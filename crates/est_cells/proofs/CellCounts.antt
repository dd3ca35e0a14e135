-- How many cells the tables of three statements have.
use Rattle.std.specs.Prelude.{◌≡◌, ◌+◌, true}
use Rattle.std.proofs.Common.{refl}
use Rattle.est_kernel.specs.declared.statement.Statement.TheVariants.{Pause, Emit, Present', Seq', Loop', Par', Trap'}
use Rattle.est_kernel.specs.declared.statement.Statement.TheVariants.{Exit, Local' as Binder'}
use Rattle.est_cells.specs.Tables.{sheet_size}

pub opening_script : (a b c d : _) (i : _) (o p : _)
    → sheet_size true
    (Seq' a
    (Seq' b
    (Emit o) c
    (Pause i)) d
    (Emit p)) 0 + 2 ≡ 17
opening_script a b c d i o p = refl

pub two_incarnations : (a1 a2 a3 a4 a5 a6 a7 a8 : _) (i : _) (s1 : _) (t : _) (o p q : _)
    → sheet_size true
    (Loop' a1 (Binder' s1 a2 (Seq' a3 (Seq' a4 (Present' t a5 (Emit o) a6 (Emit p)) a7 (Pause i)) a8 (Emit q))))
    0 + 2 ≡ 55
two_incarnations a1 a2 a3 a4 a5 a6 a7 a8 i s1 t o p q = refl

pub weak_exit : (a1 a2 a3 a4 a5 a6 a7 a8 a9 : _) (i : _) (k : _) (o p q : _)
    → sheet_size true (Seq' a1 (Trap' a2 (Par' a3 (Seq' a4 (Emit o) a5 (Exit k)) a6
    (Seq' a7 (Pause i) a8 (Emit p)))) a9 (Emit q)) 0 + 3 ≡ 40
weak_exit a1 a2 a3 a4 a5 a6 a7 a8 a9 i k o p q = refl
