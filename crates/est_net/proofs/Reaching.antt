-- The pauses that are added to a list, part by part.
use Rattle.std.specs.Prelude.{◌≡◌, ◌<◌, ◌+◌, ℕ, Bool, true, false, ◌&&◌, ◌||◌, List, [], ◌∷◌, ◌++◌, length}
use Rattle.std.specs.Prelude.{get_or, take}
use Rattle.std.proofs.Common.{refl, sym, ap, ◌∙◌, subst}
use Rattle.std.proofs.lemmas.List.{take_more}
use Rattle.std.proofs.lemmas.Bool.{or_right, or_left, and_from}
use Rattle.est_kernel.specs.Bits.{bits}
use Rattle.est_kernel.specs.declared.statement.PauseIndex.{PauseIndex}
use Rattle.est_kernel.specs.declared.statement.Statement.{Statement}
use Rattle.est_kernel.specs.declared.statement.Statement.TheVariants.{Nothing, Pause, Emit, Present', Suspend', Seq'}
use Rattle.est_kernel.specs.declared.statement.Statement.TheVariants.{Loop', Par', Trap', Exit, Local' as Binder'}
use Rattle.est_net.specs.Inner.Adding.{IsAdded}
use Rattle.est_net.specs.Reach.{IsReachOf, Tells, from_pauses, may_emit}
use Rattle.est_net.specs.declared.reach.Reach.{Reach}
use Rattle.est_net.specs.declared.reach.FromPause.{FromPause}
use Rattle.est_meaning.proofs.PauseWordLemmas.{or_false}

-- what is told of one list is told of a longer one
tells_more : (n : ℕ) (s : Statement) (end exit : Bool) (f g : (ℕ → Bool) → Bool)
    → ((set : ℕ → Bool) → f set ≡ true → g set ≡ true) → Tells n s end exit f → Tells n s end exit g
tells_more n Nothing end exit f g h t = tt
tells_more n (Pause i) end exit f g h t = λ set here e. h set (t set here e)
tells_more n (Emit s) end exit f g h t = tt
tells_more n (Present' x a p b q) end exit f g h t =
    (tells_more n p end exit f g h t.0, tells_more n q end exit f g h t.1)
tells_more n (Suspend' x a p) end exit f g h t = tells_more n p end exit f g h t
tells_more n (Seq' a p b q) end exit f g h t =
    (tells_more n p (may_emit n q end exit) exit f g h t.0, tells_more n q end exit f g h t.1)
tells_more n (Loop' a p) end exit f g h t = tells_more n p (may_emit n p end exit) exit f g h t
tells_more n (Par' a p b q) end exit f g h t =
    (tells_more n p end exit f g h t.0, tells_more n q end exit f g h t.1)
tells_more n (Trap' a p) end exit f g h t = tells_more n p end (end || exit) f g h t
tells_more n (Exit k) end exit f g h t = tt
tells_more n (Binder' s a p) end exit f g h t = tells_more n p end exit f g h t

or_step : (a b c : Bool) → (b ≡ true → c ≡ true) → (a || b) ≡ true → (a || c) ≡ true
or_step true b c f h = refl
or_step false b c f h = f h

longer : (xs : List FromPause) (x : FromPause) (set : ℕ → Bool) (n : ℕ) → from_pauses xs set n ≡ true
    → from_pauses (xs ++ x ∷ []) set n ≡ true
longer [] x set n h = let z : false ≡ true = h in cc
longer (y ∷ ys) x set n h =
    or_step (set y.pause.index && bits y.signals n) (from_pauses ys set n) (from_pauses (ys ++ x ∷ []) set n)
    (longer ys x set n) h

in_it : (xs : List FromPause) (x : FromPause) (set : ℕ → Bool) (n : ℕ) → set x.pause.index ≡ true
    → bits x.signals n ≡ true → from_pauses (xs ++ x ∷ []) set n ≡ true
in_it [] x set n here e = or_left (set x.pause.index && bits x.signals n) false (and_from _ _ here e)
in_it (y ∷ ys) x set n here e =
    or_right (set y.pause.index && bits y.signals n) (from_pauses (ys ++ x ∷ []) set n) (in_it ys x set n here e)

-- a pause
pub pause_added : (i : PauseIndex) (end exit : ℕ → Bool) (old new : List FromPause) (x : FromPause) (signals : ℕ)
    → new ≡ old ++ x ∷ [] → x.pause ≡ i → bits x.signals ≡ end → ((n : ℕ) → bits signals n ≡ false)
    → IsAdded (Pause i) end exit old new signals
pause_added i end exit old new x signals new_is pause_is end_is none =
    let longer_one : (xs : List FromPause) (set : ℕ → Bool) (n : ℕ) → new ≡ xs → from_pauses xs set n ≡ true
    → from_pauses new set n ≡ true
    = λ xs set n e h. ap (λ (z : List FromPause). from_pauses z set n) e ∙ h in
    record {
      begun = none;
      grown = λ set n h. longer_one (old ++ x ∷ []) set n new_is (longer old x set n h);
      tells = λ n set here e. longer_one (old ++ x ∷ []) set n new_is
          (in_it old x set n (ap (λ (j : PauseIndex). set j.index) pause_is ∙ here)
          (ap (λ (f : ℕ → Bool). f n) end_is ∙ e));
    }

-- one after which nothing is emitted may be left out
pub pause_left_out : (i : PauseIndex) (end exit : ℕ → Bool) (old : List FromPause) (signals : ℕ)
    → ((n : ℕ) → end n ≡ false) → ((n : ℕ) → bits signals n ≡ false) → IsAdded (Pause i) end exit old old signals
pause_left_out i end exit old signals silent none = record {
  begun = none;
  grown = λ set n h. h;
  tells = λ n set has e. (let z : true ≡ false = sym e ∙ silent n in cc);
}

-- two parts of which each may be begun
pub two_added : (p q : Statement) (end exit : ℕ → Bool) (old mid new : List FromPause) (x y signals : ℕ)
    → IsAdded p end exit old mid x → IsAdded q end exit mid new y
    → ((n : ℕ) → bits signals n ≡ (bits x n || bits y n)) → (t a b : _)
    → IsAdded (Present' t a p b q) end exit old new signals
two_added p q end exit old mid new x y signals first second either t a b = record {
  begun = λ n. either n ∙ (ap (λ (z : Bool). z || bits y n) (first.begun n)
      ∙ ap (λ (z : Bool). may_emit n p (end n) (exit n) || z) (second.begun n));
  grown = λ set n h. second.grown set n (first.grown set n h);
  tells = λ n. (
    tells_more n p (end n) (exit n) (λ set. from_pauses mid set n) (λ set. from_pauses new set n)
        (λ set. second.grown set n) (first.tells n),
    second.tells n,
  );
}

pub par_added : (p q : Statement) (end exit : ℕ → Bool) (old mid new : List FromPause) (x y signals : ℕ)
    → IsAdded p end exit old mid x → IsAdded q end exit mid new y
    → ((n : ℕ) → bits signals n ≡ (bits x n || bits y n)) → (a b : _)
    → IsAdded (Par' a p b q) end exit old new signals
par_added p q end exit old mid new x y signals first second either a b = record {
  begun = λ n. either n ∙ (ap (λ (z : Bool). z || bits y n) (first.begun n)
      ∙ ap (λ (z : Bool). may_emit n p (end n) (exit n) || z) (second.begun n));
  grown = λ set n h. second.grown set n (first.grown set n h);
  tells = λ n. (
    tells_more n p (end n) (exit n) (λ set. from_pauses mid set n) (λ set. from_pauses new set n)
        (λ set. second.grown set n) (first.tells n),
    second.tells n,
  );
}

-- a `;`, whose second part is added before its first
pub seq_added : (p q : Statement) (end exit inside : ℕ → Bool) (old mid new : List FromPause) (x y : ℕ)
    → IsAdded q end exit old mid y → bits y ≡ inside → IsAdded p inside exit mid new x → (a b : _)
    → IsAdded (Seq' a p b q) end exit old new x
seq_added p q end exit inside old mid new x y second inside_is first a b =
    let is : (n : ℕ) → inside n ≡ may_emit n q (end n) (exit n)
    = λ n. sym (ap (λ (f : ℕ → Bool). f n) inside_is) ∙ second.begun n in
    record {
      begun = λ n. first.begun n ∙ ap (λ (z : Bool). may_emit n p z (exit n)) (is n);
      grown = λ set n h. first.grown set n (second.grown set n h);
      tells = λ n. (
        subst (λ (z : Bool). Tells n p z (exit n) (λ set. from_pauses new set n)) (is n) (first.tells n),
        tells_more n q (end n) (exit n) (λ set. from_pauses mid set n) (λ set. from_pauses new set n)
            (λ set. first.grown set n) (second.tells n),
      );
    }

-- a loop
pub loop_added : (p : Statement) (end exit inside : ℕ → Bool) (old new : List FromPause) (x y : ℕ)
    → ((n : ℕ) → bits y n ≡ may_emit n p (end n) (exit n)) → bits y ≡ inside → IsAdded p inside exit old new x → (a : _)
    → IsAdded (Loop' a p) end exit old new y
loop_added p end exit inside old new x y again inside_is body a =
    let is : (n : ℕ) → inside n ≡ may_emit n p (end n) (exit n)
    = λ n. sym (ap (λ (f : ℕ → Bool). f n) inside_is) ∙ again n in
    record {
      begun = again;
      grown = body.grown;
      tells = λ n. subst (λ (z : Bool). Tells n p z (exit n) (λ set. from_pauses new set n)) (is n) (body.tells n);
    }

-- one more is told of
pub or_assoc : (a b c : Bool) → ((a || b) || c) ≡ (a || (b || c))
or_assoc true b c = refl
or_assoc false b c = refl

last_told : (xs : List FromPause) (x : FromPause) (set : ℕ → Bool) (n : ℕ)
    → from_pauses (xs ++ x ∷ []) set n ≡ (from_pauses xs set n || (set x.pause.index && bits x.signals n))
last_told [] x set n = or_false (set x.pause.index && bits x.signals n)
last_told (y ∷ ys) x set n =
    ap (λ (z : Bool). (set y.pause.index && bits y.signals n) || z) (last_told ys x set n)
    ∙ sym (or_assoc (set y.pause.index && bits y.signals n) (from_pauses ys set n)
    (set x.pause.index && bits x.signals n))

pub next_told : (xs : List FromPause) (i : ℕ) (x : FromPause) (set : ℕ → Bool) (n : ℕ) → i < length xs
    → x ≡ get_or xs i x → from_pauses (take (i + 1) xs) set n
    ≡ (from_pauses (take i xs) set n || (set x.pause.index && bits x.signals n))
next_told xs i x set n l h =
    ap (λ (z : List FromPause). from_pauses z set n) (take_more xs i x l)
    ∙ (ap (λ (y : FromPause). from_pauses (take i xs ++ y ∷ []) set n) (sym h) ∙ last_told (take i xs) x set n)

-- where nothing follows the statement, and the list was empty
pub nothing_later : (s : Statement) (old new : List FromPause) (signals : ℕ) (end exit : ℕ → Bool)
    → ((n : ℕ) → end n ≡ false) → ((n : ℕ) → exit n ≡ false) → IsAdded s end exit old new signals
    → (r : Reach) → r.first ≡ signals → r.pauses.items ≡ new → IsReachOf r s
nothing_later s old new signals end exit no_end no_exit added r first_is pauses_are = record {
  first = λ n. ap (λ (m : ℕ). bits m n) first_is
      ∙ (added.begun n ∙ (ap (λ (z : Bool). may_emit n s z (exit n)) (no_end n)
      ∙ ap (λ (z : Bool). may_emit n s false z) (no_exit n)));
  later = λ n. subst (λ (z : List FromPause). Tells n s false false (λ set. from_pauses z set n)) (sym pauses_are)
      (subst (λ (z : Bool). Tells n s false z (λ set. from_pauses new set n)) (no_exit n)
      (subst (λ (z : Bool). Tells n s z (exit n) (λ set. from_pauses new set n)) (no_end n) (added.tells n)));
}
