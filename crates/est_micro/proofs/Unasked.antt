-- Where some inputs are not asked: less is known, and what is emitted is none of them.
use Rattle.std.specs.Prelude.{◌≡◌, ◌≢◌, ℕ, ◌+◌, Bool, true, false, not, ◌&&◌, cond, List}
use Rattle.std.proofs.Common.{refl, ap, sym, ◌∙◌, inl, inr}
use Rattle.std.proofs.lemmas.Bool.{and_parts, or_cases, eqb-true}
use mathlib.Core.Path.{fun_ext}
use Rattle.est_kernel.specs.Interfaces.{emittable}
use Rattle.est_kernel.specs.Scope.{IsClosed, IsEmitted}
use Rattle.est_kernel.specs.Term.{Name, outer, inner}
use Rattle.est_kernel.specs.View.{name_of, term_of}
use Rattle.est_kernel.specs.declared.interface.Declaration.{Declaration}
use Rattle.est_kernel.specs.declared.state.State.{State}
use Rattle.est_kernel.specs.declared.statement.Statement.{Statement}
use Rattle.est_kernel.specs.declared.statement.Statement.TheVariants.{Nothing, Pause, Emit, Present', Suspend', Seq'}
use Rattle.est_kernel.specs.declared.statement.Statement.TheVariants.{Loop', Par', Trap', Exit, Local' as Binder'}
use Rattle.est_meaning.specs.Environments.{Env, verdict}
use Rattle.est_meaning.specs.Knowledge.{IsBelow, KnowsLess}
use Rattle.est_meaning.specs.Signals.{Signals, no_signals, only, union, without}
use Rattle.est_meaning.specs.declared.status.Status.{Status}
use Rattle.est_meaning.specs.declared.status.Status.TheVariants.{Present, Unknown}
use Rattle.est_meaning.specs.declared.signal_set.Env.{Env as Known}
use Rattle.est_cells.specs.Tables.{Again, Sheet, emits, if_run, of_again}
use Rattle.est_cells.specs.Whole.{known}
use Rattle.est_net.specs.Cells.{learned}
use Rattle.est_micro.specs.Inner.Hearing.{Heard, Seen}
use Rattle.est_micro.specs.Parts.{AgreeBut, AreInputsAlone, known_but, opened}
use Rattle.est_micro.specs.Runs.{output_cells, AreSignalsUpdated, IsRound}
use Rattle.est_micro.specs.declared.cells.Swept.{Swept}
use Rattle.est_micro.specs.declared.direction.Direction.{Direction}

-- less is known
pub opened_less : (unasked : ℕ → Bool) (e : Env) → KnowsLess (opened unasked e) e
unfolding opened
opened_less unasked e (outer n) = go (unasked n)
  where
    go : (b : Bool) → IsBelow (cond b Unknown (e (outer n))) (e (outer n))
    go true = inl refl
    go false = inr refl
opened_less unasked e (inner n) = inr refl

-- where each input is asked, as much
pub none_opened : (unasked : ℕ → Bool) (e : Env) → ((n : ℕ) → unasked n ≡ false) → opened unasked e ≡ e
unfolding opened
none_opened unasked e h = fun_ext (elim [
  | outer n ↦ ap (λ (b : Bool). cond b Unknown (e (outer n))) (h n)
  | inner n ↦ refl
])

-- what is emitted may be emitted
only_there : (s : Name) (n : ℕ) (i : List Declaration) (locals : ℕ) → IsEmitted i locals s → only s (outer n) ≡ true
    → emittable i n ≡ true
unfolding only
only_there (outer m) n i locals c h = ap (emittable i) (sym (eqb-true m n h)) ∙ c
only_there (inner m) n i locals c h = let z : false ≡ true = h in cc

run_there : (b : Bool) (s : Name) (n : ℕ) (i : List Declaration) (locals : ℕ) → IsEmitted i locals s
    → if_run b s (outer n) ≡ true → emittable i n ≡ true
unfolding if_run
run_there b s n i locals c h = only_there s n i locals c (and_parts b (only s (outer n)) h).1

none_there : {A : Type 0} (n : Name) → no_signals n ≡ true → A
unfolding no_signals
none_there n h = let z : false ≡ true = h in cc

two_there : {A : Type 0} (a b : Signals) (n : Name) → (a n ≡ true → A) → (b n ≡ true → A) → union a b n ≡ true → A
unfolding union
two_there a b n f g h = elim (or_cases (a n) (b n) h) [ inl x ↦ f x | inr y ↦ g y ]

within : (s : ℕ) (a : Signals) (n : Name) → without s a n ≡ true → a n ≡ true
unfolding without
within s a n h = (and_parts _ (a n) h).1

again_there : {A B : Type 0} (main : Bool) (f : A → Signals) (x : Again main A) (n : Name)
    → ((y : A) → f y n ≡ true → B) → of_again main no_signals f x n ≡ true → B
again_there true f x n g h = g x h
again_there false f x n g h = none_there n h

pub emitted_there : (pick : Status → Bool) (main : Bool) (s : Statement) (i : List Declaration) (traps locals : ℕ)
    → IsClosed i traps locals (term_of s) → (T : Sheet main s) (n : ℕ) → emits pick main s T (outer n) ≡ true
    → emittable i n ≡ true
emitted_there pick main Nothing i t l c T n h = none_there (outer n) h
emitted_there pick main (Pause m) i t l c T n h = none_there (outer n) h
emitted_there pick main (Emit s) i t l c T n h = run_there (pick T.cells.go) (name_of s) n i l c h
emitted_there pick main (Exit k) i t l c T n h = none_there (outer n) h
emitted_there pick main (Present' q a p b r) i t l c T n h =
    two_there (emits pick main p T.parts.first) (emits pick main r T.parts.second) (outer n)
    (emitted_there pick main p i t l c.1 T.parts.first n) (emitted_there pick main r i t l c.2 T.parts.second n) h
emitted_there pick main (Suspend' q a p) i t l c T n h = emitted_there pick main p i t l c.1 T.parts n h
emitted_there pick main (Seq' a p b r) i t l c T n h =
    two_there (emits pick main p T.parts.first) (emits pick main r T.parts.second) (outer n)
    (emitted_there pick main p i t l c.0 T.parts.first n) (emitted_there pick main r i t l c.1 T.parts.second n) h
emitted_there pick main (Loop' a p) i t l c T n h =
    two_there (emits pick main p T.parts.first) (of_again main no_signals (emits pick false p) T.parts.second)
    (outer n) (emitted_there pick main p i t l c T.parts.first n)
    (again_there main (emits pick false p) T.parts.second (outer n) (λ y. emitted_there pick false p i t l c y n)) h
emitted_there pick main (Par' a p b r) i t l c T n h =
    two_there (emits pick main p T.parts.first) (emits pick main r T.parts.second) (outer n)
    (emitted_there pick main p i t l c.0 T.parts.first n) (emitted_there pick main r i t l c.1 T.parts.second n) h
emitted_there pick main (Trap' a p) i t l c T n h = emitted_there pick main p i (t + 1) l c T.parts n h
emitted_there pick main (Binder' s a p) i t l c T n h =
    emitted_there pick main p i t (l + 1) c.1 T.parts.body n
    (within s.index (emits pick main p T.parts.body) (outer n) h)

-- so all of it is asked
not_both : {A : Type 0} (b : Bool) → b ≡ true → b ≡ false → A
not_both true h k = let z : true ≡ false = k in cc
not_both false h k = let z : false ≡ true = h in cc

pub heard_but : (unasked : ℕ → Bool) (i : List Declaration) (x : Signals) (e l : Env) → AreInputsAlone i unasked
    → ((n : ℕ) → x (outer n) ≡ true → emittable i n ≡ true) → Heard x e l → Heard x e (opened unasked l)
unfolding opened
heard_but unasked i x e l a f h (outer n) m o = go (unasked n) refl o
  where
    go : (b : Bool) → unasked n ≡ b → cond b Unknown (l (outer n)) ≡ Unknown → e (outer n) ≡ Present
    go true u v = not_both (emittable i n) (f n m) (a n u)
    go false u v = h (outer n) m v
heard_but unasked i x e l a f h (inner n) m o = h (inner n) m o

pub seen_but : (unasked : ℕ → Bool) (i : List Declaration) (x : Signals) (l : Env) → AreInputsAlone i unasked
    → ((n : ℕ) → x (outer n) ≡ true → emittable i n ≡ true) → Seen x l → Seen x (opened unasked l)
unfolding opened
seen_but unasked i x l a f h (outer n) m = go (unasked n) refl
  where
    go : (b : Bool) → unasked n ≡ b → cond b Unknown (l (outer n)) ≢ Unknown
    go true u = not_both (emittable i n) (f n m) (a n u)
    go false u = h (outer n) m
seen_but unasked i x l a f h (inner n) m = h (inner n) m

-- what is known is the same by all inputs that agree
known_agree : (unasked inputs others : ℕ → Bool) (i : List Declaration) (outputs : ℕ → Status)
    → AgreeBut unasked inputs others → known_but unasked i inputs outputs ≡ known_but unasked i others outputs
unfolding opened known
known_agree unasked inputs others i outputs h = fun_ext (elim [ outer n ↦ go n (unasked n) refl | inner n ↦ refl ])
  where
    go : (n : ℕ) (b : Bool) → unasked n ≡ b
        → cond b Unknown (cond (emittable i n && not (inputs n)) (outputs n) (verdict (inputs n) false))
        ≡ cond b Unknown (cond (emittable i n && not (others n)) (outputs n) (verdict (others n) false))
    go n true u = refl
    go n false u = ap (λ (x : Bool). cond (emittable i n && not x) (outputs n) (verdict x false)) (sym (h n u))

-- what may be emitted is asked
pub asked_at : (unasked : ℕ → Bool) (i : List Declaration) (n : ℕ) → AreInputsAlone i unasked → emittable i n ≡ true
    → unasked n ≡ false
asked_at unasked i n a o = go (unasked n) refl
  where
    go : (b : Bool) → unasked n ≡ b → b ≡ false
    go true u = not_both (emittable i n) o (a n u)
    go false u = refl

exchange_agrees : (i : List Declaration) (unasked inputs others sure possible : ℕ → Bool) (old new : List Status)
    (e : Known) → AreInputsAlone i unasked → AgreeBut unasked inputs others
    → AreSignalsUpdated i unasked inputs sure possible old new e
    → AreSignalsUpdated i unasked others sure possible old new e
exchange_agrees i unasked inputs others sure possible old new e a h x = record {
  changes = x.changes;
  told = λ n l o. x.told n l o
      ∙ ap (λ (b : Bool). learned (output_cells i old n) (cond b Present (verdict (sure n) (possible n))))
      (sym (h n (asked_at unasked i n a o)));
  knows = x.knows ∙ known_agree unasked inputs others i (output_cells i new) h;
}

-- an update of the signals and a round by some inputs are those by all that agree
pub update_by : (i : List Declaration) (unasked inputs sure possible : ℕ → Bool) (old new : List Status)
    (e : Known) → AreInputsAlone i unasked → AreSignalsUpdated i unasked inputs sure possible old new e
    → (others : ℕ → Bool) → AgreeBut unasked inputs others → AreSignalsUpdated i unasked others sure possible old new e
update_by i unasked inputs sure possible old new e a x others h =
    exchange_agrees i unasked inputs others sure possible old new e a h x

pub round_by : (way : Direction) (i : List Declaration) (unasked inputs : ℕ → Bool) (s : Statement) (x : State)
    (e f : Known) (old new : List Status) (r : Swept) → AreInputsAlone i unasked
    → IsRound way i unasked inputs s x e f old new r → (others : ℕ → Bool) → AgreeBut unasked inputs others
    → IsRound way i unasked others s x e f old new r
round_by way i unasked inputs s x e f old new r a y others h = record {
  mid = y.mid;
  sweep = y.sweep;
  updated = exchange_agrees i unasked inputs others _ _ y.mid new f a h y.updated;
}
