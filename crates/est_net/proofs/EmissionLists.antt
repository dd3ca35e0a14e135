-- A signal of the interface is emitted where one of its emissions is run.
use Rattle.std.specs.Prelude.{◌≡◌, ℕ, ◌+◌, Bool, true, false, cond, nat_eq, ◌&&◌, ◌||◌, List, [], ◌++◌}
use Rattle.std.specs.List.{list_any}
use Rattle.std.proofs.Common.{refl, ap, sym, ◌∙◌}
use Rattle.std.proofs.lemmas.List.Folds.{list_any-append}
use Rattle.est_kernel.specs.Term.{outer}
use Rattle.est_kernel.specs.declared.statement.Signal.{Signal}
use Rattle.est_kernel.specs.declared.statement.Signal.TheVariants.{Interface, Local}
use Rattle.est_kernel.specs.View.{name_of}
use Rattle.est_kernel.specs.declared.statement.Statement.{Statement}
use Rattle.est_kernel.specs.declared.statement.Statement.TheVariants.{Nothing, Pause, Emit, Present', Suspend', Seq'}
use Rattle.est_kernel.specs.declared.statement.Statement.TheVariants.{Loop', Par', Trap', Exit, Local' as Binder'}
use Rattle.est_meaning.specs.Signals.{Signals, no_signals, only, union, without}
use Rattle.est_meaning.specs.declared.status.Status.{Status}
use Rattle.est_cells.specs.Tables.{emits, if_run, make_again, of_again, sheet_size}
use Rattle.est_net.specs.Emissions.{emission_of, emissions, is_of}
use Rattle.est_net.specs.Layout.{sheet_in}
use Rattle.est_net.specs.declared.emissions.Emission.{Emission}

-- one emission
one_listed : (pick : Status → Bool) (f : ℕ → Status) (n : ℕ) (s : Signal) (c : ℕ)
    → if_run (pick (f c)) (name_of s) (outer n) ≡ list_any (is_of pick f n) (emission_of s c)
unfolding if_run only
one_listed pick f n (Interface i) c = go (pick (f c)) (nat_eq i.index n)
  where
    go : (a b : Bool) → (a && b) ≡ ((b && a) || false)
    go true true = refl
    go true false = refl
    go false true = refl
    go false false = refl
one_listed pick f n (Local l) c = go (pick (f c))
  where
    go : (a : Bool) → (a && false) ≡ false
    go true = refl
    go false = refl

-- those of two parts
two_listed : (p : Emission → Bool) (a b : Bool) (xs ys : List Emission) → a ≡ list_any p xs → b ≡ list_any p ys
    → (a || b) ≡ list_any p (xs ++ ys)
two_listed p a b xs ys h k =
    ap (λ (z : Bool). z || b) h ∙ (ap (λ (z : Bool). list_any p xs || z) k ∙ sym (list_any-append p xs ys))

-- those of a restart
again_listed : {A : Type 0} (main : Bool) (p : Emission → Bool) (f : A → Signals) (y : A) (n : ℕ)
    (ys : List Emission) → f y (outer n) ≡ list_any p ys
    → of_again main no_signals f (make_again main y) (outer n) ≡ list_any p (cond main ys [])
unfolding no_signals
again_listed true p f y n ys h = h
again_listed false p f y n ys h = refl

pub emitted_listed : (pick : Status → Bool) (n : ℕ) (main : Bool) (s : Statement) (c t : ℕ) (f : ℕ → Status)
    → emits pick main s (sheet_in f main s c t) (outer n) ≡ list_any (is_of pick f n) (emissions main s c t)
unfolding no_signals union without
emitted_listed pick n main Nothing c t f = refl
emitted_listed pick n main (Pause i) c t f = refl
emitted_listed pick n main (Emit s) c t f = one_listed pick f n s c
emitted_listed pick n main (Exit k) c t f = refl
emitted_listed pick n main (Present' y a p b q) c t f =
    two_listed (is_of pick f n) _ _ (emissions main p (c + t + 3) t)
    (emissions main q (c + t + 3 + sheet_size main p t) t) (emitted_listed pick n main p (c + t + 3) t f)
    (emitted_listed pick n main q (c + t + 3 + sheet_size main p t) t f)
emitted_listed pick n main (Suspend' y a p) c t f = emitted_listed pick n main p (c + t + 3) t f
emitted_listed pick n main (Seq' a p b q) c t f =
    two_listed (is_of pick f n) _ _ (emissions main p (c + t + 3) t)
    (emissions main q (c + t + 3 + sheet_size main p t) t) (emitted_listed pick n main p (c + t + 3) t f)
    (emitted_listed pick n main q (c + t + 3 + sheet_size main p t) t f)
emitted_listed pick n main (Loop' a p) c t f =
    let e = c + t + 3 + sheet_size main p t in
    two_listed (is_of pick f n) _ _ (emissions main p (c + t + 3) t)
    (cond main (emissions false p e t) []) (emitted_listed pick n main p (c + t + 3) t f)
    (again_listed main (is_of pick f n) (emits pick false p) (sheet_in f false p e t) n (emissions false p e t)
    (emitted_listed pick n false p e t f))
emitted_listed pick n main (Par' a p b q) c t f =
    two_listed (is_of pick f n) _ _ (emissions main p (c + t + 3) t)
    (emissions main q (c + t + 3 + sheet_size main p t) t) (emitted_listed pick n main p (c + t + 3) t f)
    (emitted_listed pick n main q (c + t + 3 + sheet_size main p t) t f)
emitted_listed pick n main (Trap' a p) c t f = emitted_listed pick n main p (c + t + 3) (t + 1) f
emitted_listed pick n main (Binder' s a p) c t f = emitted_listed pick n main p (c + t + 4) t f
