-- The signals that a statement's cells say are emitted, as they are put together.
use Rattle.std.specs.Prelude.{◌≡◌, ◌+◌, ℕ, Bool, true, false, List}
use Rattle.std.proofs.Common.{ap, sym, ◌∙◌, arith, subst}
use mathlib.Core.Path.{fun_ext}
use Rattle.est_kernel.specs.declared.statement.LocalSignal.{LocalSignal}
use Rattle.est_kernel.specs.declared.statement.Statement.{Statement}
use Rattle.est_kernel.specs.declared.statement.Statement.TheVariants.{Loop', Local' as Binder'}
use Rattle.est_meaning.specs.Signals.{Signals, no_signals, union, without}
use Rattle.est_meaning.specs.declared.status.Status.{Status}
use Rattle.est_meaning.specs.Views.{set_of}
use Rattle.est_meaning.specs.declared.signal_set.SignalSet.{SignalSet}
use Rattle.est_cells.proofs.Reach.{none_union, union_none}
use Rattle.est_cells.specs.Tables.{emits, is_sure, sheet_size}
use Rattle.est_net.specs.Cells.{cell_at}
use Rattle.est_net.specs.Layout.{sheet_in}
use Rattle.est_net.proofs.Reaching.{or_assoc}
use Rattle.est_micro.specs.Inner.Views.{AddsBoth, AddsEmitted}

union_over : (a b c : Signals) → union (union a b) c ≡ union a (union b c)
unfolding union
union_over a b c = fun_ext (λ n. or_assoc (a n) (b n) (c n))

pub both_added : (main : Bool) (p q : Statement) (c t : ℕ) (cells : List Status) (old mid new : SignalSet)
    (past end : ℕ) → AddsEmitted main p c t cells old mid past → AddsEmitted main q past t cells mid new end
    → AddsBoth main p q c t cells old new end
both_added main p q c t cells old mid new past end x y' =
    let y = subst (λ (z : ℕ). AddsEmitted main q z t cells mid new end) x.past_is y' in
    let f = cell_at cells in
    let b = emits is_sure main q (sheet_in f main q (c + sheet_size main p t) t) in
    record {
      adds = y.adds ∙ (ap (λ (z : Signals). union z b) x.adds
          ∙ union_over (set_of old) (emits is_sure main p (sheet_in f main p c t)) b);
      past_is = y.past_is;
    }

-- a loop that can go on, and one that was begun again
pub loop_added : (main : Bool) (a : _) (p : Statement) (c t : ℕ) (cells : List Status) (old mid new : SignalSet)
    (past end : ℕ) → main ≡ true → AddsEmitted main p (c + t + 3) t cells old mid past
    → AddsEmitted false p past t cells mid new end → AddsEmitted main (Loop' a p) c t cells old new end
loop_added false a p c t cells old mid new past end h x y = let z : false ≡ true = h in cc
loop_added true a p c t cells old mid new past end h x y' =
    let y = subst (λ (z : ℕ). AddsEmitted false p z t cells mid new end) x.past_is y' in
    let f = cell_at cells in
    let d = c + t + 3 in
    let b = emits is_sure false p (sheet_in f false p (d + sheet_size true p t) t) in
    let e = y.past_is in
    record {
      adds = y.adds ∙ (ap (λ (z : Signals). union z b) x.adds
          ∙ union_over (set_of old) (emits is_sure true p (sheet_in f true p d t)) b);
      past_is = omega arith;
    }

pub again_added : (main : Bool) (a : _) (p : Statement) (c t : ℕ) (cells : List Status) (old new : SignalSet)
    (end : ℕ) → main ≡ false → AddsEmitted main p (c + t + 3) t cells old new end
    → AddsEmitted main (Loop' a p) c t cells old new end
again_added true a p c t cells old new end h x = let z : true ≡ false = h in cc
again_added false a p c t cells old new end h x =
    let e = x.past_is in
    record {
      adds = x.adds ∙ ap (union (set_of old))
          (sym (union_none (emits is_sure false p (sheet_in (cell_at cells) false p (c + t + 3) t))));
      past_is = omega arith;
    }

-- a local signal isn't seen outside its scope
pub local_added : (main : Bool) (s : LocalSignal) (a : _) (p : Statement) (c t : ℕ) (cells : List Status)
    (old none inside new : SignalSet) (but : SignalSet) (end : ℕ) → set_of none ≡ no_signals
    → AddsEmitted main p (c + t + 4) t cells none inside end → set_of but ≡ without s.index (set_of inside)
    → set_of new ≡ union (set_of old) (set_of but) → AddsEmitted main (Binder' s a p) c t cells old new end
local_added main s a p c t cells old none inside new but end n x b h =
    let e = x.past_is in
    let T = sheet_in (cell_at cells) main p (c + t + 4) t in
    record {
      adds = h ∙ ap (union (set_of old)) (b ∙ ap (without s.index) (x.adds
          ∙ (ap (λ (z : Signals). union z (emits is_sure main p T)) n ∙ none_union (emits is_sure main p T))));
      past_is = omega arith;
    }
