-- The open list of cells stands for the open sheet.
use Rattle.std.specs.Prelude.{◌≡◌, ◌<◌, ◌+◌, ℕ, zero, suc, Bool, true, false, ltb, ◌&&◌, replicate}
use Rattle.std.proofs.Common.{refl, arith}
use mathlib.Core.Path.{fun_ext}
use Rattle.est_kernel.specs.Codes.{no_codes}
use Rattle.est_kernel.specs.declared.statement.Statement.{Statement}
use Rattle.est_kernel.specs.declared.statement.Statement.TheVariants.{Nothing, Pause, Emit, Present', Suspend', Seq'}
use Rattle.est_kernel.specs.declared.statement.Statement.TheVariants.{Loop', Par', Trap', Exit, Local' as Binder'}
use Rattle.est_meaning.specs.declared.status.Status.{Status}
use Rattle.est_meaning.specs.declared.status.Status.TheVariants.{Unknown}
use Rattle.est_meaning.proofs.SteppingLemmas.{and_false}
use Rattle.est_cells.proofs.ValuesAreMeant.{two}
use Rattle.est_cells.specs.Opening.{with_cell, opened, open_parts, open_sheet}
use Rattle.est_cells.specs.Tables.{make_again}
use Rattle.est_net.specs.Cells.{cell_at}
use Rattle.est_net.specs.Layout.{sure_codes, possible_codes, node_in, parts_in, sheet_in}
use Rattle.est_micro.proofs.Frames.{same_node_of, scoped}

-- every cell is open
abbrev pub all_open : ℕ → Status
all_open i = Unknown

and_true : (b : Bool) → (b && true) ≡ b
and_true true = refl
and_true false = refl

sure_open : (c n : ℕ) → sure_codes all_open c n ≡ no_codes
unfolding sure_codes no_codes
sure_open c n = fun_ext (λ k. and_false (ltb k n))

possible_open : (c t : ℕ) → possible_codes all_open c (t + 2) ≡ with_cell t
unfolding possible_codes with_cell
possible_open c t = fun_ext (λ k. and_true (ltb k (t + 2)))

open_node : {P : Type 0} (c t : ℕ) (x y : P) → x ≡ y → node_in all_open c t x ≡ opened t y
open_node c t x y e = same_node_of Unknown Unknown _ _ _ _ x y refl (sure_open (c + 1) (t + 2))
    (possible_open (c + 1) t) e

open_again : (main : Bool) (p : Statement) (c t : ℕ) → parts_in all_open false p c t ≡ open_parts false p t
    → make_again main (node_in all_open c t (parts_in all_open false p c t))
    ≡ make_again main (opened t (open_parts false p t))
open_again true p c t e = open_node c t _ _ e
open_again false p c t e = refl

parts_open : (main : Bool) (s : Statement) (c t : ℕ) → parts_in all_open main s c t ≡ open_parts main s t
parts_open main Nothing c t = refl
parts_open main (Pause n) c t = refl
parts_open main (Emit s) c t = refl
parts_open main (Exit k) c t = refl
parts_open main (Present' x a p b q) c t = two (open_node _ t _ _ (parts_open main p _ t))
    (open_node _ t _ _ (parts_open main q _ t))
parts_open main (Suspend' x a p) c t = open_node _ t _ _ (parts_open main p _ t)
parts_open main (Seq' a p b q) c t = two (open_node _ t _ _ (parts_open main p _ t))
    (open_node _ t _ _ (parts_open main q _ t))
parts_open main (Loop' a p) c t =
    two (open_node _ t _ _ (parts_open main p _ t)) (open_again main p _ t (parts_open false p _ t))
parts_open main (Par' a p b q) c t = two (open_node _ t _ _ (parts_open main p _ t))
    (open_node _ t _ _ (parts_open main q _ t))
parts_open main (Trap' a p) c t = open_node _ (t + 1) _ _ (parts_open main p _ (t + 1))
parts_open main (Binder' s a p) c t = scoped refl (open_node _ t _ _ (parts_open main p _ t))

pub sheet_open : (main : Bool) (s : Statement) (c t : ℕ) → sheet_in all_open main s c t ≡ open_sheet main s t
sheet_open main s c t = open_node c t _ _ (parts_open main s c t)

pub open_there : (n i : ℕ) → i < n → cell_at (replicate n Unknown) i ≡ Unknown
open_there zero i l = absurd (omega arith)
open_there (suc n) zero l = refl
open_there (suc n) (suc i) l = open_there n i (omega arith)
