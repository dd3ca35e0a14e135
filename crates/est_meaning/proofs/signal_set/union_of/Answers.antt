use mathlib.Core.Path.{fun_ext}
use Rattle.est_kernel.specs.Term.{outer, inner}
use Rattle.est_meaning.specs.Signals.{union}
use Rattle.est_meaning.proofs.signal_set.union_of.Goals as goal
use Rattle.est_meaning.specs.Views.{set_of}

pub returns : goal.returns
unfolding set_of union
returns c = fun_ext (elim [ outer n ↦ c.union.ensures n | inner n ↦ c.union-2.ensures n ])
