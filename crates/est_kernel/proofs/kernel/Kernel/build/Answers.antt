use Rattle.std.proofs.Common.{◌≡◌, ◌∙◌, sym, refl, None, Option, arith}
use Rattle.std.specs.Prelude.{Some}
use Rattle.est_kernel.proofs.Counts.{pauses_within_limits}
use Rattle.est_kernel.proofs.FitsMasks.{fits_within_limits}
use Rattle.est_kernel.proofs.kernel.Kernel.build.Goals as goal

is_none : {A : Type 0} (o : Option A) → ((x : A) → o ≡ Some x → ⊥) → o ≡ None
is_none None h = refl
is_none (Some x) h = absurd (h x refl)

pub number-requires : goal.number-requires
number-requires c =
    omega (arith, pauses_within_limits c.args.root (sym c.limit_passed.ensures ∙ is_none _ c.in_default.not-Some))

pub start_codes-requires : goal.start_codes-requires
start_codes-requires c =
    record {
      fits = fits_within_limits c.args.interface c.args.root c.requires
          (sym c.limit_passed.ensures ∙ is_none _ c.in_default.not-Some);
    }
