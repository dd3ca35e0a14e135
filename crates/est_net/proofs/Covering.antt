-- Whatever a statement can emit is told by its pauses.
use Rattle.std.specs.Prelude.{◌≡◌, ◌<◌, ◌+◌, ℕ, suc, nat_eq, Bool, true, false, cond, ◌&&◌, ◌||◌}
use Rattle.std.proofs.Common.{refl, sym, ◌∙◌, arith}
use Rattle.std.proofs.lemmas.Bool.{eqb-true, or_right, or_left}
use Rattle.est_kernel.specs.Codes.{code, either_code, but_zero, max_codes, codes_out_of_trap}
use Rattle.est_kernel.specs.Codes.{some_up_to}
use Rattle.est_kernel.specs.Pauses.{pauses_of}
use Rattle.est_kernel.specs.Term.{Name, outer, Term, nothing, par, seq}
use Rattle.est_kernel.specs.View.{name_of, query_of, term_of}
use Rattle.est_kernel.specs.declared.state.State.{State}
use Rattle.est_kernel.specs.declared.state.State.TheVariants.{Fresh, Done, Paused}
use Rattle.est_kernel.specs.declared.statement.Statement.{Statement}
use Rattle.est_kernel.specs.declared.statement.Statement.TheVariants.{Nothing, Pause, Emit, Present', Suspend', Seq'}
use Rattle.est_kernel.specs.declared.statement.Statement.TheVariants.{Loop', Par', Trap', Exit, Local' as Binder'}
use Rattle.est_meaning.specs.Environments.{Env, by_status, status_of}
use Rattle.est_meaning.specs.MustCan.{Acts, Mode, sure, maybe, must, can, can_then, either, together, hide, just_code}
use Rattle.est_meaning.specs.MustCan.{acts_out_of_trap, may_stay, next_mode, env_within}
use Rattle.est_meaning.specs.Signals.{no_signals, only, union, without, same_name}
use Rattle.est_meaning.specs.States.{IsState, is_live, term_at}
use Rattle.est_meaning.specs.declared.status.Status.{Status}
use Rattle.est_meaning.specs.declared.status.Status.TheVariants.{Present, Absent, Unknown}
use Rattle.est_meaning.proofs.KnowledgeIsMonotone.{no_true}
use Rattle.est_net.specs.Reach.{HasEmissions, IsReachOf, Tells, from_pauses, from_state, may_emit}
use Rattle.est_net.specs.declared.reach.Reach.{Reach}

-- if signal n is among the acts, or in what may follow their end or exit, this says so
record Covers (n : ℕ) (end exit : Bool) (a : Acts) (said : Bool) : Type 0 where
  emits : a.signals (outer n) ≡ true → said ≡ true
  ends : a.codes 0 ≡ true → end ≡ true → said ≡ true
  exits : (k : ℕ) → a.codes (suc (suc k)) ≡ true → exit ≡ true → said ≡ true

-- one of two
one_of : {A : Type 0} (a b : Bool) → (a || b) ≡ true → (a ≡ true → A) → (b ≡ true → A) → A
one_of true b h f g = f refl
one_of false b h f g = g h

first_of : {A : Type 0} (a b : Bool) → (a && b) ≡ true → (a ≡ true → A) → A
first_of true b h f = f refl
first_of false b h f = no_true h

-- code 0 or 1 is no exit's
other_code : {A : Type 0} (j k : ℕ) → (j < 2) → nat_eq j (suc (suc k)) ≡ true → A
other_code j k l h = let z : j ≡ suc (suc k) = eqb-true j (suc (suc k)) h in absurd (omega arith)

-- more may be said
wider : (n : ℕ) (end exit : Bool) (a : Acts) (x y : Bool) → (x ≡ true → y ≡ true) → Covers n end exit a x
    → Covers n end exit a y
wider n end exit a x y f c = record {
  emits = λ h. f (c.emits h);
  ends = λ h e. f (c.ends h e);
  exits = λ k h e. f (c.exits k h e);
}

-- a statement that gives one code and emits nothing
ended : (n : ℕ) (end exit : Bool) → Covers n end exit (just_code 0) end
unfolding no_signals code
ended n end exit = record { emits = λ h. no_true h; ends = λ h e. e; exits = λ k h e. other_code 0 k (omega arith) h }

paused : (n : ℕ) (end exit said : Bool) → Covers n end exit (just_code 1) said
unfolding no_signals code
paused n end exit said = record {
  emits = λ h. no_true h;
  ends = λ h e. no_true h;
  exits = λ k h e. other_code 1 k (omega arith) h;
}

exited : (n k : ℕ) (end exit : Bool) → Covers n end exit (just_code (k + 2)) exit
unfolding no_signals code
exited n k end exit = record {
  emits = λ h. no_true h;
  ends = λ h e. let z : k + 2 ≡ 0 = eqb-true (k + 2) 0 h in absurd (omega arith);
  exits = λ i h e. e;
}

-- either of two
either_covers : (n : ℕ) (end exit : Bool) (a b : Acts) (said : Bool) → Covers n end exit a said
    → Covers n end exit b said → Covers n end exit (either a b) said
unfolding union either_code
either_covers n end exit a b said c d = record {
  emits = λ h. one_of (a.signals (outer n)) (b.signals (outer n)) h c.emits d.emits;
  ends = λ h e. one_of (a.codes 0) (b.codes 0) h (λ i. c.ends i e) (λ i. d.ends i e);
  exits = λ k h e. one_of (a.codes (suc (suc k))) (b.codes (suc (suc k))) h (λ i. c.exits k i e) (λ i. d.exits k i e);
}

by_covers : (n : ℕ) (end exit : Bool) (v : Status) (a b c : Acts) (said : Bool) → Covers n end exit a said
    → Covers n end exit b said → Covers n end exit c said → Covers n end exit (by_status v a b c) said
by_covers n end exit Present a b c said x y z = x
by_covers n end exit Absent a b c said x y z = y
by_covers n end exit Unknown a b c said x y z = z

-- one after the other
then_covers : (n : ℕ) (end exit next : Bool) (a b : Acts) (said : Bool) → Covers n next exit a said
    → Covers n end exit b next → Covers n end exit (can_then a b) said
unfolding union either_code but_zero
then_covers n end exit next a b said c d = go (a.codes 0) refl
  where
    go : (v : Bool) → a.codes 0 ≡ v → Covers n end exit
        (cond v (record { signals = union a.signals b.signals; codes = either_code (but_zero a.codes) b.codes }) a) said
    go true i = record {
      emits = λ h. one_of (a.signals (outer n)) (b.signals (outer n)) h c.emits (λ j. c.ends i (d.emits j));
      ends = λ h e. c.ends i (d.ends h e);
      exits = λ k h e. one_of (a.codes (suc (suc k))) (b.codes (suc (suc k))) h (λ j. c.exits k j e)
          (λ j. c.ends i (d.exits k j e));
    }
    go false i = record { emits = c.emits; ends = λ h e. no_true (sym i ∙ h); exits = c.exits }

-- side by side
together_covers : (n : ℕ) (end exit : Bool) (a b : Acts) (said : Bool) → Covers n end exit a said
    → Covers n end exit b said → Covers n end exit (together a b) said
unfolding union max_codes
together_covers n end exit a b said c d = record {
  emits = λ h. one_of (a.signals (outer n)) (b.signals (outer n)) h c.emits d.emits;
  ends = λ h e. one_of (a.codes 0 && b.codes 0) (b.codes 0 && a.codes 0) h
      (λ i. first_of (a.codes 0) (b.codes 0) i (λ j. c.ends j e))
      (λ i. first_of (b.codes 0) (a.codes 0) i (λ j. d.ends j e));
  exits = λ k h e. one_of (a.codes (suc (suc k)) && some_up_to b.codes (suc (suc k)))
      (b.codes (suc (suc k)) && some_up_to a.codes (suc (suc k))) h
      (λ i. first_of (a.codes (suc (suc k))) (some_up_to b.codes (suc (suc k))) i (λ j. c.exits k j e))
      (λ i. first_of (b.codes (suc (suc k))) (some_up_to a.codes (suc (suc k))) i (λ j. d.exits k j e));
}

-- beside a side that has ended
beside_ended : (n : ℕ) (end exit : Bool) (a : Acts) (said : Bool) → Covers n end exit a said
    → Covers n end exit (together a (just_code 0)) said
unfolding union max_codes no_signals code
beside_ended n end exit a said c = record {
  emits = λ h. one_of (a.signals (outer n)) false h c.emits (λ i. no_true i);
  ends = λ h e. one_of (a.codes 0 && true) (a.codes 0) h (λ i. first_of (a.codes 0) true i (λ j. c.ends j e))
      (λ j. c.ends j e);
  exits = λ k h e. one_of (a.codes (suc (suc k)) && some_up_to (code 0) (suc (suc k)))
      (code 0 (suc (suc k)) && some_up_to a.codes (suc (suc k))) h
      (λ i. first_of (a.codes (suc (suc k))) (some_up_to (code 0) (suc (suc k))) i (λ j. c.exits k j e))
      (λ i. first_of (code 0 (suc (suc k))) (some_up_to a.codes (suc (suc k))) i
      (λ j. other_code 0 k (omega arith) j));
}

ended_beside : (n : ℕ) (end exit : Bool) (b : Acts) (said : Bool) → Covers n end exit b said
    → Covers n end exit (together (just_code 0) b) said
unfolding union max_codes no_signals code
ended_beside n end exit b said d = record {
  emits = d.emits;
  ends = λ h e. one_of (b.codes 0) (b.codes 0 && true) h (λ j. d.ends j e)
      (λ i. first_of (b.codes 0) true i (λ j. d.ends j e));
  exits = λ k h e. one_of (code 0 (suc (suc k)) && some_up_to b.codes (suc (suc k)))
      (b.codes (suc (suc k)) && some_up_to (code 0) (suc (suc k))) h
      (λ i. first_of (code 0 (suc (suc k))) (some_up_to b.codes (suc (suc k))) i (λ j. other_code 0 k (omega arith) j))
      (λ i. first_of (b.codes (suc (suc k))) (some_up_to (code 0) (suc (suc k))) i (λ j. d.exits k j e));
}

-- out of a trap, and out of a binder
trap_covers : (n : ℕ) (end exit : Bool) (a : Acts) (said : Bool) → Covers n end (end || exit) a said
    → Covers n end exit (acts_out_of_trap a) said
unfolding codes_out_of_trap
trap_covers n end exit a said c = record {
  emits = c.emits;
  ends = λ h e. one_of (a.codes 0) (a.codes 2) h (λ i. c.ends i e) (λ i. c.exits 0 i (or_left end exit e));
  exits = λ k h e. c.exits (suc k) h (or_right end exit e);
}

hide_covers : (n s : ℕ) (end exit : Bool) (a : Acts) (said : Bool) → Covers n end exit a said
    → Covers n end exit (hide s a) said
unfolding without
hide_covers n s end exit a said c = record { emits = c.emits; ends = c.ends; exits = c.exits }

stay_covers : (n : ℕ) (end exit : Bool) (a : Acts) (said : Bool) → Covers n end exit a said
    → Covers n end exit (may_stay a) said
unfolding either_code code
stay_covers n end exit a said c = record {
  emits = c.emits;
  ends = λ h e. one_of (a.codes 0) false h (λ i. c.ends i e) (λ i. no_true i);
  exits = λ k h e. one_of (a.codes (suc (suc k))) (code 1 (suc (suc k))) h (λ i. c.exits k i e)
      (λ i. other_code 1 k (omega arith) i);
}

emit_covers : (n : ℕ) (s : Name) (end exit : Bool)
    → Covers n end exit (record { signals = only s; codes = code 0 }) (same_name s (outer n) || end)
unfolding only code
emit_covers n s end exit = record {
  emits = λ h. or_left (same_name s (outer n)) end h;
  ends = λ h e. or_right (same_name s (outer n)) end e;
  exits = λ k h e. other_code 0 k (omega arith) h;
}

-- a statement that is begun
begun_covers : (n : ℕ) (s : Statement) (end exit : Bool) (m : Mode) (e : Env)
    → Covers n end exit (can (term_of s) m e) (may_emit n s end exit)
begun_covers n Nothing end exit m e = ended n end exit
begun_covers n (Pause i) end exit m e = paused n end exit false
begun_covers n (Emit s) end exit m e = emit_covers n (name_of s) end exit
begun_covers n (Exit k) end exit m e = exited n k.index end exit
begun_covers n (Present' t a p b q) end exit m e =
    let x = may_emit n p end exit in
    let y = may_emit n q end exit in
    let first : (i : Mode) → Covers n end exit (can (term_of p) i e) (x || y)
    = λ i. wider n end exit (can (term_of p) i e) x (x || y) (or_left x y) (begun_covers n p end exit i e) in
    let second : (i : Mode) → Covers n end exit (can (term_of q) i e) (x || y)
    = λ i. wider n end exit (can (term_of q) i e) y (x || y) (or_right x y) (begun_covers n q end exit i e) in
    by_covers n end exit (status_of e (query_of t)) (can (term_of p) m e) (can (term_of q) m e)
    (either (can (term_of p) maybe e) (can (term_of q) maybe e)) (x || y) (first m) (second m)
    (either_covers n end exit (can (term_of p) maybe e) (can (term_of q) maybe e) (x || y) (first maybe) (second maybe))
begun_covers n (Suspend' t a p) end exit m e = begun_covers n p end exit m e
begun_covers n (Seq' a p b q) end exit m e =
    let next = may_emit n q end exit in
    let i = next_mode m ((must (term_of p) e).codes 0) in
    then_covers n end exit next (can (term_of p) m e) (can (term_of q) i e) (may_emit n p next exit)
    (begun_covers n p next exit m e) (begun_covers n q end exit i e)
begun_covers n (Loop' a p) end exit m e = begun_covers n p end exit m e
begun_covers n (Par' a p b q) end exit m e =
    let x = may_emit n p end exit in
    let y = may_emit n q end exit in
    together_covers n end exit (can (term_of p) m e) (can (term_of q) m e) (x || y)
    (wider n end exit (can (term_of p) m e) x (x || y) (or_left x y) (begun_covers n p end exit m e))
    (wider n end exit (can (term_of q) m e) y (x || y) (or_right x y) (begun_covers n q end exit m e))
begun_covers n (Trap' a p) end exit m e =
    trap_covers n end exit (can (term_of p) m e) (may_emit n p end (end || exit))
    (begun_covers n p end (end || exit) m e)
begun_covers n (Binder' s a p) end exit m e =
    let f = env_within m s.index (term_of p) e in
    hide_covers n s.index end exit (can (term_of p) m f) (may_emit n p end exit) (begun_covers n p end exit m f)

-- one of two terms
choice : (n : ℕ) (end exit said : Bool) (m : Mode) (e : Env) (v : Bool) (p q : Term)
    → (v ≡ true → Covers n end exit (can p m e) said) → (v ≡ false → Covers n end exit (can q m e) said)
    → Covers n end exit (can (cond v p q) m e) said
choice n end exit said m e true p q f g = f refl
choice n end exit said m e false p q f g = g refl

-- two sides, of which one lives at least
sides : (n : ℕ) (end exit said : Bool) (m : Mode) (e : Env) (v w : Bool) (p q : Term) → (v || w) ≡ true
    → (v ≡ true → Covers n end exit (can p m e) said) → (w ≡ true → Covers n end exit (can q m e) said)
    → Covers n end exit (can (par (cond v p nothing) (cond w q nothing)) m e) said
sides n end exit said m e true true p q l f g =
    together_covers n end exit (can p m e) (can q m e) said (f refl) (g refl)
sides n end exit said m e true false p q l f g = beside_ended n end exit (can p m e) said (f refl)
sides n end exit said m e false true p q l f g = ended_beside n end exit (can q m e) said (g refl)
sides n end exit said m e false false p q l f g = no_true l

other : (a b : Bool) → a ≡ false → (a || b) ≡ true → b ≡ true
other true b h l = no_true (sym h)
other false b h l = l

-- a statement that goes on from pauses
resumed_covers : (n : ℕ) (s : Statement) (end exit : Bool) (told : (ℕ → Bool) → Bool) (bits : ℕ → Bool) (m : Mode)
    (e : Env) → Tells n s end exit told → is_live s bits ≡ true
    → Covers n end exit (can (term_at s bits) m e) (told bits)
resumed_covers n Nothing end exit told bits m e t l = no_true l
resumed_covers n (Pause i) end exit told bits m e t l =
    wider n end exit (just_code 0) end (told bits) (t bits l) (ended n end exit)
resumed_covers n (Emit s) end exit told bits m e t l = no_true l
resumed_covers n (Exit k) end exit told bits m e t l = no_true l
resumed_covers n (Present' x a p b q) end exit told bits m e t l =
    choice n end exit (told bits) m e (is_live p bits) (term_at p bits) (term_at q bits)
    (λ i. resumed_covers n p end exit told bits m e t.0 i)
    (λ i. resumed_covers n q end exit told bits m e t.1 (other (is_live p bits) (is_live q bits) i l))
resumed_covers n (Suspend' x a p) end exit told bits m e t l =
    let c : (i : Mode) → Covers n end exit (can (term_at p bits) i e) (told bits)
    = λ i. resumed_covers n p end exit told bits i e t l in
    by_covers n end exit (status_of e (query_of x)) (just_code 1) (can (term_at p bits) m e)
    (may_stay (can (term_at p bits) maybe e)) (told bits) (paused n end exit (told bits)) (c m)
    (stay_covers n end exit (can (term_at p bits) maybe e) (told bits) (c maybe))
resumed_covers n (Seq' a p b q) end exit told bits m e t l =
    let next = may_emit n q end exit in
    let i = next_mode m ((must (term_at p bits) e).codes 0) in
    choice n end exit (told bits) m e (is_live p bits) (seq (term_at p bits) (term_of q)) (term_at q bits)
    (λ j. then_covers n end exit next (can (term_at p bits) m e) (can (term_of q) i e) (told bits)
    (resumed_covers n p next exit told bits m e t.0 j) (begun_covers n q end exit i e))
    (λ j. resumed_covers n q end exit told bits m e t.1 (other (is_live p bits) (is_live q bits) j l))
resumed_covers n (Loop' a p) end exit told bits m e t l =
    let next = may_emit n p end exit in
    let i = next_mode m ((must (term_at p bits) e).codes 0) in
    then_covers n end exit next (can (term_at p bits) m e) (can (term_of p) i e) (told bits)
    (resumed_covers n p next exit told bits m e t l) (begun_covers n p end exit i e)
resumed_covers n (Par' a p b q) end exit told bits m e t l =
    sides n end exit (told bits) m e (is_live p bits) (is_live q bits) (term_at p bits) (term_at q bits) l
    (λ i. resumed_covers n p end exit told bits m e t.0 i) (λ i. resumed_covers n q end exit told bits m e t.1 i)
resumed_covers n (Trap' a p) end exit told bits m e t l =
    trap_covers n end exit (can (term_at p bits) m e) (told bits)
    (resumed_covers n p end (end || exit) told bits m e t l)
resumed_covers n (Binder' s a p) end exit told bits m e t l =
    let f = env_within m s.index (term_at p bits) e in
    hide_covers n s.index end exit (can (term_at p bits) m f) (told bits)
    (resumed_covers n p end exit told bits m f t l)

-- what a reach tells of a state has every emission
pub reach_has_emissions : (s : Statement) (x : State) (r : Reach) → IsReachOf r s → IsState s x
    → HasEmissions s x (from_state r x)
unfolding no_signals
reach_has_emissions s Fresh r h w e n k = h.first n ∙ (begun_covers n s false false sure e).emits k
reach_has_emissions s Done r h w e n k = no_true k
reach_has_emissions s (Paused p) r h w e n k =
    (resumed_covers n s false false (λ set. from_pauses r.pauses.items set n) (pauses_of p) sure e (h.later n)
    w.live).emits k
