-- With more known, a term that reacts has the same reaction.
use Rattle.std.proofs.Common.{◌≡◌, ◌≢◌, ◌∙◌, ℕ, sym, refl, inl, inr}
use Rattle.est_kernel.specs.Term.{inner, Term, nothing, pause, emit, present, suspend, held, seq, loop, par, trap, exit}
use Rattle.est_kernel.specs.Term.{signal}
use Rattle.est_meaning.proofs.KnowledgeIsMonotone.{monotone, must_can, local_below, query_below, verdict_below}
use Rattle.est_meaning.specs.Environments.{Env, with_local}
use Rattle.est_meaning.specs.Knowledge.{IsBelow, KnowsLess}
use Rattle.est_meaning.specs.MustCan.{must, can, sure, status_within, env_within}
use Rattle.est_meaning.specs.Rules.{Gives, Behaviour, Inside, takes_first, takes_second, is_held, is_resumed, goes_on}
use Rattle.est_meaning.specs.Rules.{ends_then}
use Rattle.est_meaning.specs.Signals.{Signals}
use Rattle.est_meaning.specs.declared.status.Status.{Status}
use Rattle.est_meaning.specs.declared.status.Status.TheVariants.{Present, Absent, Unknown}

-- what is known stays
stays : (v w : Status) → IsBelow v w → v ≢ Unknown → v ≡ w
stays v w (inl u) d = absurd (d u)
stays v w (inr e) d = e

present_stays : (v w : Status) → IsBelow v w → v ≡ Present → w ≡ Present
present_stays v w (inl u) e = absurd (no (sym u ∙ e)) where
  no : Unknown ≡ Present → ⊥
  no h = cc
present_stays v w (inr s) e = sym s ∙ e

absent_stays : (v w : Status) → IsBelow v w → v ≡ Absent → w ≡ Absent
absent_stays v w (inl u) e = absurd (no (sym u ∙ e)) where
  no : Unknown ≡ Absent → ⊥
  no h = cc
absent_stays v w (inr s) e = sym s ∙ e

status_grows : (s : ℕ) (p : Term) (e f : Env) → KnowsLess e f → IsBelow (status_within sure s p e)
    (status_within sure s p f)
status_grows s p e f k =
    let kk = local_below e f s Unknown Unknown k (inr refl) in
    verdict_below _ _ _ _
    (((monotone p).must_up (with_local e s Unknown) (with_local f s Unknown) kk).signals (inner s))
    (((monotone p).can_down sure (with_local e s Unknown) (with_local f s Unknown) kk).signals (inner s))
    ((must_can p (with_local f s Unknown)).signals (inner s))

env_grows : (s : ℕ) (p : Term) (e f : Env) → KnowsLess e f → KnowsLess (env_within sure s p e) (env_within sure s p f)
env_grows s p e f k = local_below e f s _ _ k (status_grows s p e f k)

inside_grows : (body other : Behaviour) (around : Term → Term)
    → ((o : Signals) (k : ℕ) (u : Term) → body o k u → other o k u) → (o : Signals) (k : ℕ) (u : Term)
    → Inside body around o k u → Inside other around o k u
inside_grows body other around f o k u g = record { left = g.left; gives = f o k g.left g.gives; rest = g.rest }

pub gives_grows : (t : Term) (e f : Env) → KnowsLess e f → (o : Signals) (k : ℕ) (u : Term) → Gives t e o k u → Gives t
    f o k u
gives_grows nothing e f l o k u g = g
gives_grows pause e f l o k u g = g
gives_grows (emit s) e f l o k u g = g
gives_grows (exit n) e f l o k u g = g
gives_grows (present s p q) e f l o k u (takes_first v g) =
    takes_first (present_stays _ _ (query_below e f s l) v) (gives_grows p e f l o k u g)
gives_grows (present s p q) e f l o k u (takes_second v g) =
    takes_second (absent_stays _ _ (query_below e f s l) v) (gives_grows q e f l o k u g)
gives_grows (suspend s p) e f l o k u g = inside_grows (Gives p e) (Gives p f) _ (gives_grows p e f l) o k u g
gives_grows (held s p) e f l o k u (is_held v g) = is_held (present_stays _ _ (query_below e f s l) v) g
gives_grows (held s p) e f l o k u (is_resumed v g) =
    is_resumed (absent_stays _ _ (query_below e f s l) v) (inside_grows (Gives p e) (Gives p f) _ (gives_grows p e f l)
    o k u g)
gives_grows (seq p q) e f l o k u (goes_on d g) =
    goes_on d (inside_grows (Gives p e) (Gives p f) _ (gives_grows p e f l) o k u g)
gives_grows (seq p q) e f l o k u (ends_then a b v x y z) =
    ends_then a b v (gives_grows p e f l a 0 v x) (gives_grows q e f l b k u y) z
gives_grows (loop p) e f l o k u g = record {
  not_ended = g.not_ended;
  inside = inside_grows (Gives p e) (Gives p f) _ (gives_grows p e f l) o k u g.inside;
}
gives_grows (par p q) e f l o k u g = record {
  left_signals = g.left_signals;
  left_code = g.left_code;
  left_rest = g.left_rest;
  left_gives = gives_grows p e f l g.left_signals g.left_code g.left_rest g.left_gives;
  right_signals = g.right_signals;
  right_code = g.right_code;
  right_rest = g.right_rest;
  right_gives = gives_grows q e f l g.right_signals g.right_code g.right_rest g.right_gives;
  signals = g.signals;
  code = g.code;
  rest = g.rest;
}
gives_grows (trap p) e f l o k u g = record {
  body_code = g.body_code;
  left = g.left;
  gives = gives_grows p e f l o g.body_code g.left g.gives;
  code = g.code;
  rest = g.rest;
}
gives_grows (signal s p) e f l o k u g = record {
  decided = λ h. g.decided (stays _ _ (status_grows s p e f l) g.decided ∙ h);
  body_signals = g.body_signals;
  left = g.left;
  gives = gives_grows p (env_within sure s p e) (env_within sure s p f) (env_grows s p e f l) g.body_signals k g.left
      g.gives;
  signals = g.signals;
  rest = g.rest;
}
