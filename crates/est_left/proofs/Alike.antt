-- Statements of one term, whose pauses are numbered in text order, stand for one term at each state.
use Rattle.std.proofs.Common.{◌≡◌, ◌∙◌, ℕ, ◌+◌, refl, ap, sym, subst}
use Rattle.std.specs.Prelude.{Bool, true}
use Rattle.std.proofs.lemmas.Bool.{and_parts, eqb-true}
use Rattle.est_kernel.specs.PauseNumbers.{pause_count}
use Rattle.est_kernel.specs.Pauses.{pauses_of}
use Rattle.est_kernel.specs.View.{term_of}
use Rattle.est_kernel.specs.declared.state.State.{State}
use Rattle.est_kernel.specs.declared.state.State.TheVariants.{Fresh, Done, Paused}
use Rattle.est_kernel.specs.declared.statement.Statement.{Statement}
use Rattle.est_kernel.specs.declared.statement.Statement.TheVariants.{Nothing, Pause, Emit, Present', Suspend', Seq'}
use Rattle.est_kernel.specs.declared.statement.Statement.TheVariants.{Loop', Par', Trap', Exit, Local' as Binder'}
use Rattle.est_meaning.specs.States.{is_live, term_at, state_term}
use Rattle.est_left.specs.Orders.{are_in_order}

-- as many pauses, and with these set the same is live and left
record IsAlike (s t : Statement) (bits : ℕ → Bool) : Type 0 where
  count : pause_count s ≡ pause_count t
  live : is_live s bits ≡ is_live t bits
  left : term_at s bits ≡ term_at t bits

-- where the first parts are alike, the second begin with one number
begins : (p r s : Statement) (n : ℕ) → pause_count p ≡ pause_count r → are_in_order s (n + pause_count r) ≡ true
    → are_in_order s (n + pause_count p) ≡ true
begins p r s n same h = subst (λ (k : ℕ). are_in_order s (n + k) ≡ true) (sym same) h

alike : (s t : Statement) (bits : ℕ → Bool) (n : ℕ) → term_of s ≡ term_of t → are_in_order s n ≡ true
    → are_in_order t n ≡ true → IsAlike s t bits
alike Nothing Nothing bits n e h k = record { count = refl; live = refl; left = refl }
alike (Pause i) (Pause j) bits n e h k =
    record { count = refl; live = ap bits (eqb-true i.index n h ∙ sym (eqb-true j.index n k)); left = refl }
alike (Emit s) (Emit t) bits n e h k = record { count = refl; live = refl; left = refl }
alike (Exit i) (Exit j) bits n e h k = record { count = refl; live = refl; left = refl }
alike (Present' t a p b q) (Present' u c r d s) bits n e h k =
    let one = and_parts (are_in_order p n) (are_in_order q (n + pause_count p)) h in
    let two = and_parts (are_in_order r n) (are_in_order s (n + pause_count r)) k in
    let firsts : term_of p ≡ term_of r = cc in
    let seconds : term_of q ≡ term_of s = cc in
    let x : IsAlike p r bits = alike p r bits n firsts one.0 two.0 in
    let y : IsAlike q s bits =
    alike q s bits (n + pause_count p) seconds one.1 (begins p r s n x.count two.1) in
    record { count = cc; live = cc; left = cc }
alike (Suspend' t a p) (Suspend' u b q) bits n e h k =
    let bodies : term_of p ≡ term_of q = cc in
    let x : IsAlike p q bits = alike p q bits n bodies h k in
    record { count = x.count; live = x.live; left = cc }
alike (Seq' a p b q) (Seq' c r d s) bits n e h k =
    let one = and_parts (are_in_order p n) (are_in_order q (n + pause_count p)) h in
    let two = and_parts (are_in_order r n) (are_in_order s (n + pause_count r)) k in
    let firsts : term_of p ≡ term_of r = cc in
    let seconds : term_of q ≡ term_of s = cc in
    let x : IsAlike p r bits = alike p r bits n firsts one.0 two.0 in
    let y : IsAlike q s bits =
    alike q s bits (n + pause_count p) seconds one.1 (begins p r s n x.count two.1) in
    record { count = cc; live = cc; left = cc }
alike (Loop' a p) (Loop' b q) bits n e h k =
    let bodies : term_of p ≡ term_of q = cc in
    let x : IsAlike p q bits = alike p q bits n bodies h k in
    record { count = x.count; live = x.live; left = cc }
alike (Par' a p b q) (Par' c r d s) bits n e h k =
    let one = and_parts (are_in_order p n) (are_in_order q (n + pause_count p)) h in
    let two = and_parts (are_in_order r n) (are_in_order s (n + pause_count r)) k in
    let firsts : term_of p ≡ term_of r = cc in
    let seconds : term_of q ≡ term_of s = cc in
    let x : IsAlike p r bits = alike p r bits n firsts one.0 two.0 in
    let y : IsAlike q s bits =
    alike q s bits (n + pause_count p) seconds one.1 (begins p r s n x.count two.1) in
    record { count = cc; live = cc; left = cc }
alike (Trap' a p) (Trap' b q) bits n e h k =
    let bodies : term_of p ≡ term_of q = cc in
    let x : IsAlike p q bits = alike p q bits n bodies h k in
    record { count = x.count; live = x.live; left = cc }
alike (Binder' s a p) (Binder' t b q) bits n e h k =
    let bodies : term_of p ≡ term_of q = cc in
    let x : IsAlike p q bits = alike p q bits n bodies h k in
    record { count = x.count; live = x.live; left = cc }
alike _ _ bits n e h k = absurd cc

-- a state stands for one term
pub one_state : (s t : Statement) (x : State) → term_of s ≡ term_of t → are_in_order s 0 ≡ true
    → are_in_order t 0 ≡ true → state_term s x ≡ state_term t x
one_state s t Fresh e h k = e
one_state s t Done e h k = refl
one_state s t (Paused p) e h k = (alike s t (pauses_of p) 0 e h k).left
