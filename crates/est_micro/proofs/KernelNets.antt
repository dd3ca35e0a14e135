-- The table of a kernel: the cells of its statement are there, and it stays that table while cells are opened and
-- decided.
use Rattle.std.specs.Prelude.{◌≡◌, ◌≤◌, ◌+◌, ℕ, true, length}
use Rattle.std.proofs.Common.{◌∙◌, ap, sym, subst, arith}
use Rattle.est_kernel.proofs.FitsMasks.{fits_within_limits}
use Rattle.est_kernel.specs.Bits.{bits}
use Rattle.est_kernel.specs.Masks.{FitsMasks}
use Rattle.est_kernel.specs.declared.kernel.Kernel.{Kernel}
use Rattle.est_kernel.specs.declared.statement.Statement.{Statement}
use Rattle.est_cells.specs.Tables.{sheet_size}
use Rattle.est_net.specs.Kept.{Kept, kept}
use Rattle.est_net.specs.Reach.{IsReachOf}
use Rattle.est_net.specs.declared.net.Net.{Net}
use Rattle.est_net.specs.declared.reach.Reach.{Reach}
use Rattle.est_micro.specs.Engine.{IsNetOf}
use Rattle.est_micro.proofs.KeptExtents.{still}

pub root_fits : (k : Kernel) (root : Statement) → root ≡ k.root → FitsMasks root
root_fits k root a =
    subst (λ (z : Statement). FitsMasks z) (sym a) (fits_within_limits k.interface k.root k.closed k.within_limits)

pub root_within : (net : Net) (k : Kernel) (root : Statement) (c : ℕ) → IsNetOf net k → root ≡ k.root
    → c ≡ net.output_count
    → c + sheet_size true root 0 ≤ length net.cells.items
root_within net k root c h a b =
    let size = h.size in
    let outputs = h.outputs in
    subst (λ (z : Statement). c + sheet_size true z 0 ≤ length net.cells.items) (sym a)
    (omega (arith, size, outputs, b))

-- all that is kept but for how many cells were decided earlier
abbrev kept_after : ℕ → Net → Kept
kept_after n net = record {
  earlier = n;
  emittable = net.emittable;
  output_count = net.output_count;
  reach = net.reach;
  extents = net.extents.items;
  emissions = net.emissions.items;
}

pub still_net : (k : Kernel) (n : ℕ) (old new : Net) → IsNetOf old k → length new.cells.items ≡ length old.cells.items
    → kept new ≡ kept_after n old → IsNetOf new k
still_net k n old new h size e = record {
  size = size ∙ h.size;
  signals = ap (λ (z : Kept). bits z.emittable) e ∙ h.signals;
  outputs = ap (λ (z : Kept). z.output_count) e ∙ h.outputs;
  reach = subst (λ (z : Reach). IsReachOf z k.root) (sym (ap (λ (z : Kept). z.reach) e)) h.reach;
  extents = still (kept new) (kept_after n old) 0 0 k.root e h.extents;
  emissions = ap (λ (z : Kept). z.emissions) e ∙ h.emissions;
}
