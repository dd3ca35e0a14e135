-- Which state words keep, and which they don't.
use Rattle.std.proofs.Common.{◌≡◌, ◌≢◌, ◌∙◌, ◌≤◌, ◌<◌, ◌+◌, ◌*◌, ◌/◌, ◌%◌, inl, inr, ℕ, Bool, false}
use Rattle.std.proofs.Common.{◌&&◌, ◌||◌, nat_lt, List, refl, sym, ap, arith}
use Rattle.std.specs.Prelude.{slice_index}
use Rattle.std.proofs.lemmas.Bool.{cases_lt, ne_eqb, or_from}
use Rattle.std.proofs.lemmas.Bool.Decides.{nat_tests}
use mathlib.Core.Path.{fun_ext}
use Rattle.est_kernel.specs.Bits.{bits}
use Rattle.est_kernel.specs.PauseNumbers.{has_pause}
use Rattle.est_kernel.specs.Pauses.{pauses_of}
use Rattle.est_kernel.specs.declared.state.State.{State}
use Rattle.est_kernel.specs.declared.state.State.TheVariants.{Fresh, Done, Paused}
use Rattle.est_kernel.specs.declared.statement.Statement.{Statement}
use Rattle.est_kernel.specs.declared.statement.Statement.TheVariants.{Nothing, Pause, Emit, Present', Suspend', Seq'}
use Rattle.est_kernel.specs.declared.statement.Statement.TheVariants.{Loop', Par', Trap', Exit, Local' as Binder'}
use Rattle.est_meaning.specs.States.{IsState}
use Rattle.est_machine.proofs.Words.{looked_at}
use Rattle.est_machine.specs.Inner.Words.{AreStateWords, has_bit}
use Rattle.est_machine.specs.Machines.{MachineState}
use Rattle.est_machine.specs.Saved.{AreSaved, is_paused_at, kind_of}

-- ---- states that words keep, from the pauses that were read in them

not_read : (f all : ℕ → Bool) (most : ℕ) → ((n : ℕ) → f n ≡ (nat_lt n most && all n)) → (n : ℕ) → most ≤ n
    → f n ≡ false
not_read f all most before n g = rw (before n) (grind (arith, nat_tests))

-- ---- one state by one set of words

-- a statement has no pause beyond the numbers that there are
no_pause_beyond : (s : Statement) (i : ℕ) → 2048 ≤ i → has_pause s i ≡ false
no_pause_beyond Nothing i g = refl
no_pause_beyond (Pause n) i g = ne_eqb n.index i (λ e. let l : n.index < 2048 = n.in_range in omega (arith, l, e, g))
no_pause_beyond (Emit s) i g = refl
no_pause_beyond (Present' t a p b q) i g = or_from _ _ (no_pause_beyond p i g) (no_pause_beyond q i g)
no_pause_beyond (Suspend' t a p) i g = no_pause_beyond p i g
no_pause_beyond (Seq' a p b q) i g = or_from _ _ (no_pause_beyond p i g) (no_pause_beyond q i g)
no_pause_beyond (Loop' a p) i g = no_pause_beyond p i g
no_pause_beyond (Par' a p b q) i g = or_from _ _ (no_pause_beyond p i g) (no_pause_beyond q i g)
no_pause_beyond (Trap' a p) i g = no_pause_beyond p i g
no_pause_beyond (Exit k) i g = refl
no_pause_beyond (Binder' s a p) i g = no_pause_beyond p i g

not_paused_beyond : (s : Statement) (x : State) → IsState s x → (i : ℕ) → 2048 ≤ i → is_paused_at x i ≡ false
not_paused_beyond s Fresh h i g = refl
not_paused_beyond s Done h i g = refl
not_paused_beyond s (Paused p) h i g = h.own i (no_pause_beyond s i g)

place_of : (x : State) (i : ℕ) → is_paused_at x (64 * (i / 64) + i % 64) ≡ is_paused_at x i
place_of x i = ap (is_paused_at x) (omega arith)

-- the words of a saved state are those of that state
pub state_words : (m : MachineState) (words : List ℕ) → IsState m.0.root m.3 → AreSaved m words
    → AreStateWords m.3 words
state_words m words is h = record {
  kind = (h 32 (omega arith)).kind refl;
  pauses = λ i l. (h (33 + i / 64) (omega (arith, l))).pauses (i / 64) refl (i % 64) (omega arith) ∙ place_of m.3 i;
  beyond = not_paused_beyond m.0.root m.3 is;
}

either_way : (x y : State) (words : List ℕ) → AreStateWords x words → AreStateWords y words → (i : ℕ)
    → is_paused_at x i ≡ is_paused_at y i
either_way x y words a b i = elim (cases_lt i 2048) [
  | inl l ↦ sym (a.pauses i l) ∙ b.pauses i l
  | inr g ↦ a.beyond i g ∙ sym (b.beyond i g)
]

kinds : (x y : State) (words : List ℕ) → AreStateWords x words → AreStateWords y words → kind_of x ≡ kind_of y
kinds x y words a b = sym a.kind ∙ b.kind

same_state : (s : Statement) (x y : State) → kind_of x ≡ kind_of y
    → ((i : ℕ) → is_paused_at x i ≡ is_paused_at y i) → IsState s x → IsState s y
same_state s x Fresh k same h = tt
same_state s x Done k same h = tt
same_state s Fresh (Paused q) k same h = absurd (omega (arith, k))
same_state s Done (Paused q) k same h = absurd (omega (arith, k))
same_state s (Paused p) (Paused q) k same h = let e : pauses_of p ≡ pauses_of q = fun_ext same in rw (← e) h

-- where the words' state is none of the statement, they were not saved of any
pub no_other : (s : Statement) (x y : State) (words : List ℕ) → AreStateWords x words → AreStateWords y words
    → IsState s y → IsState s x
no_other s x y words a b h = same_state s y x (kinds y x words b a) (either_way y x words b a) h
