-- Where the signals of the interface are emitted: a list of all emissions, in the order of the cells (this project's
-- own form).
use Rattle.std.specs.Prelude.{◌≡◌, ℕ, ◌+◌, ◌&&◌, Bool, false, cond, nat_eq, List, [], ◌∷◌, ◌++◌}
use Rattle.std.specs.List.{list_any}
use Rattle.est_kernel.specs.Term.{outer}
use Rattle.est_kernel.specs.declared.statement.Signal.{Signal}
use Rattle.est_kernel.specs.declared.statement.Signal.TheVariants.{Interface, Local}
use Rattle.est_kernel.specs.declared.statement.Statement.{Statement}
use Rattle.est_kernel.specs.declared.statement.Statement.TheVariants.{Nothing, Pause, Emit, Present', Suspend', Seq'}
use Rattle.est_kernel.specs.declared.statement.Statement.TheVariants.{Loop', Par', Trap', Exit, Local' as Binder'}
use Rattle.est_meaning.specs.declared.status.Status.{Status}
use Rattle.est_cells.specs.Tables.{emits, sheet_size}
use Rattle.est_net.specs.Layout.{sheet_in}
use Rattle.est_net.specs.declared.emissions.Emission.{Emission}

-- the emission of a signal, if it is one of the interface, whose go cell has place c
abbrev pub emission_of : Signal → (c : ℕ) → List Emission
emission_of (Interface i) c = record { signal = i; go = c } ∷ []
emission_of (Local l) c = []

-- those in a statement whose cells begin at place c, inside t traps
abbrev pub emissions : (main : Bool) (s : Statement) (c t : ℕ) → List Emission
emissions main Nothing c t = []
emissions main (Pause n) c t = []
emissions main (Emit s) c t = emission_of s c
emissions main (Exit k) c t = []
emissions main (Present' y a p b q) c t =
    emissions main p (c + t + 3) t ++ emissions main q (c + t + 3 + sheet_size main p t) t
emissions main (Suspend' y a p) c t = emissions main p (c + t + 3) t
emissions main (Seq' a p b q) c t =
    emissions main p (c + t + 3) t ++ emissions main q (c + t + 3 + sheet_size main p t) t
emissions main (Loop' a p) c t =
    emissions main p (c + t + 3) t ++ cond main (emissions false p (c + t + 3 + sheet_size main p t) t) []
emissions main (Par' a p b q) c t =
    emissions main p (c + t + 3) t ++ emissions main q (c + t + 3 + sheet_size main p t) t
emissions main (Trap' a p) c t = emissions main p (c + t + 3) (t + 1)
emissions main (Binder' s a p) c t = emissions main p (c + t + 4) t

-- whether an emission is one of signal n, and its go cell passes the test `pick`
abbrev pub is_of : (pick : Status → Bool) (cells : ℕ → Status) (n : ℕ) → Emission → Bool
is_of pick cells n e = nat_eq e.signal.index n && pick (cells e.go)

-- in a sheet that is read off a list of cells, a signal is emitted where one of its emissions passes the test
pub record EmissionsAreListed : Type 0 where
  pub emitted : (pick : Status → Bool) (n : ℕ) (main : Bool) (s : Statement) (c t : ℕ) (cells : ℕ → Status)
      → emits pick main s (sheet_in cells main s c t) (outer n) ≡ list_any (is_of pick cells n) (emissions main s c t)
