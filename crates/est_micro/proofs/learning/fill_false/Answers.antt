use Rattle.std.proofs.Common.{◌≡◌, ◌≢◌, refl, arith}
use Rattle.est_meaning.specs.declared.status.Status.{Status}
use Rattle.est_meaning.specs.declared.status.Status.TheVariants.{Absent, Present, Unknown}
use Rattle.est_net.specs.Cells.{AllDecided, NoneTrue, cell_at}
use Rattle.est_micro.proofs.learning.fill_false.Goals as goal

-- what is decided and not true is false
decided_false : (v : Status) → v ≢ Present → v ≢ Unknown → v ≡ Absent
decided_false Absent f g = refl
decided_false Present f g = absurd (f refl)
decided_false Unknown f g = absurd (g refl)

pub returns-else-not-all_decided-clause-cells : goal.returns-else-not-all_decided-clause-cells
unfolding NoneTrue AllDecided
returns-else-not-all_decided-clause-cells c =
    let decided = c.all_decided.ensures.0 c.if-not-all_decided.false in
    record {
      false_now = λ i a b. decided_false (cell_at c.args.net.now.cells.items i) (c.requires.none i a b) (decided i a b);
      before = λ i a. refl;
      after = λ i a. refl;
      size = refl;
      more = omega arith;
      quiet = λ z. refl;
    }
