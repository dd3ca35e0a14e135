-- Whether a statement can have paused at some pauses, by Boolean functions.
use Rattle.std.proofs.Common.{◌≡◌, ◌∙◌, ◌≤◌, ◌/◌, ◌%◌, ℕ, zero, suc, Bool, true, false, not, ◌&&◌, List, [], ◌∷◌}
use Rattle.std.proofs.Common.{length}
use Rattle.std.proofs.Common.{refl, sym, arith}
use Rattle.std.specs.Prelude.{slice_index}
use Rattle.std.proofs.lemmas.Bool.{false≢true, and_from}
use Rattle.est_kernel.proofs.Masks.{bits_zero}
use Rattle.est_kernel.specs.Bits.{bits}
use Rattle.est_kernel.specs.PauseNumbers.{has_pause}
use Rattle.est_kernel.specs.declared.statement.Statement.{Statement}
use Rattle.est_kernel.specs.declared.statement.Statement.TheVariants.{Nothing, Pause, Emit, Present', Suspend', Seq'}
use Rattle.est_kernel.specs.declared.statement.Statement.TheVariants.{Loop', Par', Trap', Exit, Local' as Binder'}
use Rattle.est_meaning.specs.States.{HasPausedAt, IsExclusive, is_live}
use Rattle.est_machine.specs.Inner.Pauses.{are_exclusive}
use Rattle.est_relations.proofs.Answering.{and_second, and_first}

-- a list has no words after its end
no_word : (ws : List ℕ) (k : ℕ) → length ws ≤ k → slice_index ws k ≡ 0
no_word [] k l = refl
no_word (w ∷ ws) zero l = absurd (omega (arith, l))
no_word (w ∷ ws) (suc k) l = no_word ws k (omega (arith, l))

-- no bit is set in 32 words from place 2,048 on
pub no_bit : (ws : List ℕ) (i : ℕ) → length ws ≡ 32 → 2048 ≤ i → bits (slice_index ws (i / 64)) (i % 64) ≡ false
no_bit ws i e l = rw (no_word ws (i / 64) (omega (arith, e, l))) (bits_zero (i % 64))

no_both : (a b : Bool) → not (a && b) ≡ true → (a && b) ≡ false
no_both true true h = absurd (false≢true h)
no_both true false h = refl
no_both false b h = refl

not_both : (a b : Bool) → (a && b) ≡ false → not (a && b) ≡ true
not_both a b h = rw h refl

pub is_exclusive : (s : Statement) (f : ℕ → Bool) → are_exclusive s f ≡ true → IsExclusive s f
is_exclusive Nothing f h = tt
is_exclusive (Pause n) f h = tt
is_exclusive (Emit s) f h = tt
is_exclusive (Exit k) f h = tt
is_exclusive (Present' t a p b q) f h = let rest = and_second _ _ h in (
  is_exclusive p f (and_first _ _ h),
  is_exclusive q f (and_first _ _ rest),
  no_both (is_live p f) (is_live q f) (and_second (are_exclusive q f) _ rest),
)
is_exclusive (Suspend' t a p) f h = is_exclusive p f h
is_exclusive (Seq' a p b q) f h = let rest = and_second _ _ h in (
  is_exclusive p f (and_first _ _ h),
  is_exclusive q f (and_first _ _ rest),
  no_both (is_live p f) (is_live q f) (and_second (are_exclusive q f) _ rest),
)
is_exclusive (Loop' a p) f h = is_exclusive p f h
is_exclusive (Par' a p b q) f h =
    (is_exclusive p f (and_first _ _ h), is_exclusive q f (and_second (are_exclusive p f) _ h))
is_exclusive (Trap' a p) f h = is_exclusive p f h
is_exclusive (Binder' s a p) f h = is_exclusive p f h

pub exclusive : (s : Statement) (f : ℕ → Bool) → IsExclusive s f → are_exclusive s f ≡ true
exclusive Nothing f h = refl
exclusive (Pause n) f h = refl
exclusive (Emit s) f h = refl
exclusive (Exit k) f h = refl
exclusive (Present' t a p b q) f h =
    and_from _ _ (exclusive p f h.0) (and_from _ _ (exclusive q f h.1) (not_both (is_live p f) (is_live q f) h.2))
exclusive (Suspend' t a p) f h = exclusive p f h
exclusive (Seq' a p b q) f h =
    and_from _ _ (exclusive p f h.0) (and_from _ _ (exclusive q f h.1) (not_both (is_live p f) (is_live q f) h.2))
exclusive (Loop' a p) f h = exclusive p f h
exclusive (Par' a p b q) f h = and_from _ _ (exclusive p f h.0) (exclusive q f h.1)
exclusive (Trap' a p) f h = exclusive p f h
exclusive (Binder' s a p) f h = exclusive p f h

left_in : (a b : Bool) → b ≡ false → (a && not b) ≡ false → a ≡ false
left_in true true h k = h
left_in true false h k = k
left_in false b h k = refl

taken_out : (a b : Bool) → (b ≡ false → a ≡ false) → (a && not b) ≡ false
taken_out true true h = refl
taken_out true false h = h refl
taken_out false b h = refl

-- where none is left without the statement's own, the others are not set
pub own : (s : Statement) (f g : ℕ → Bool) → ((i : ℕ) → g i ≡ (f i && not (has_pause s i)))
    → ((i : ℕ) → g i ≡ false) → (i : ℕ) → has_pause s i ≡ false → f i ≡ false
own s f g are none i h = left_in (f i) (has_pause s i) h (sym (are i) ∙ none i)

pub none_left : (s : Statement) (f g : ℕ → Bool) → ((i : ℕ) → g i ≡ (f i && not (has_pause s i)))
    → HasPausedAt s f → (i : ℕ) → g i ≡ false
none_left s f g are h i = are i ∙ taken_out (f i) (has_pause s i) (h.own i)
