use Rattle.std.proofs.Common.{ap}
use Rattle.est_reduce.specs.Reductions.{aborting, weakly_aborting, looping_each, doing_every}
use Rattle.est_reduce.proofs.Lifts.{fresh_lifts}
use Rattle.est_reduce.proofs.laws.fresh_traps_shift_exits.Goals as goal

pub returns : goal.returns
returns c = record {
  abort = λ leads l now s p. ap (aborting now s) (fresh_lifts leads l p);
  weak_abort = λ leads l now s p. ap (weakly_aborting now s) (fresh_lifts leads l p);
  each = λ leads l s p. ap (looping_each s) (fresh_lifts leads l p);
  every = λ leads l now s p. ap (doing_every now s) (fresh_lifts leads l p);
}
