-- A run in which some inputs are not asked: nothing is known of them (this project's own form).
use Rattle.std.specs.Prelude.{◌≡◌, ℕ, Bool, true, false, cond, List}
use Rattle.est_kernel.specs.Interfaces.{emittable}
use Rattle.est_kernel.specs.Term.{outer, inner}
use Rattle.est_kernel.specs.declared.interface.Declaration.{Declaration}
use Rattle.est_kernel.specs.declared.state.State.{State}
use Rattle.est_kernel.specs.declared.statement.Statement.{Statement}
use Rattle.est_meaning.specs.Rounds.{judged_signals}
use Rattle.est_meaning.specs.Environments.{Env, verdict}
use Rattle.est_meaning.specs.declared.status.Status.{Status}
use Rattle.est_meaning.specs.declared.status.Status.TheVariants.{Unknown}
use Rattle.est_cells.specs.Tables.{emits, is_sure, is_possible}
use Rattle.est_cells.specs.Whole.{Table, TableBelow, known, sheet_gates}

-- what is known where some signals of the interface are not asked: of these nothing, of any other the same
unfoldable pub opened : (ℕ → Bool) → Env → Env
opened unasked e (outer n) = cond (unasked n) Unknown (e (outer n))
opened unasked e (inner n) = e (inner n)

-- none of these signals may be emitted
abbrev pub AreInputsAlone : List Declaration → (ℕ → Bool) → Type 0
AreInputsAlone i unasked = (n : ℕ) → unasked n ≡ true → emittable i n ≡ false

-- the others are the inputs, but for those that are not asked
abbrev pub AgreeBut : (unasked inputs others : ℕ → Bool) → Type 0
AgreeBut unasked inputs others = (n : ℕ) → unasked n ≡ false → others n ≡ inputs n

-- what is known by the cells of a table, where some inputs are not asked
abbrev pub known_but : (ℕ → Bool) → List Declaration → (ℕ → Bool) → (ℕ → Status) → Env
known_but unasked i inputs outputs = opened unasked (known (judged_signals i inputs) inputs outputs)

-- the gates of a table, where some inputs are not asked
abbrev pub gates_but : (ℕ → Bool) → List Declaration → (ℕ → Bool) → (s : Statement) → State → Table s → Table s
gates_but unasked i inputs s x T = record {
  outputs = λ n. verdict (emits is_sure true s T.sheet (outer n)) (emits is_possible true s T.sheet (outer n));
  sheet = sheet_gates s x (known_but unasked i inputs T.outputs) T.sheet;
}

-- where these inputs are not asked, the gates decide nothing more
abbrev pub IsClosedBut : (ℕ → Bool) → List Declaration → (ℕ → Bool) → (s : Statement) → State → Table s → Type 0
IsClosedBut unasked i inputs s x T = TableBelow (judged_signals i inputs) s (gates_but unasked i inputs s x T) T
