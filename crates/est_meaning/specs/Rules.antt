-- The behaviour rules: how a term reacts in an environment. Where it reaches a test or a local signal that is still
-- unknown, it has no reaction (Berry, The Constructive Semantics of Pure Esterel).
use Rattle.std.specs.Prelude.{◌≡◌, ◌≢◌, ℕ, zero, suc, ◌+◌, max}
use Rattle.est_kernel.specs.Codes.{code_out_of_trap}
use Rattle.est_kernel.specs.Term.{Query, Term, nothing, pause, emit, present, suspend, held, seq, loop, par, trap, exit}
use Rattle.est_kernel.specs.Term.{signal}
use Rattle.est_meaning.specs.Signals.{Signals, no_signals, only, union, without}
use Rattle.est_meaning.specs.declared.status.Status.{Status}
use Rattle.est_meaning.specs.declared.status.Status.TheVariants.{Present, Absent, Unknown}
use Rattle.est_meaning.specs.Environments.{Env, status_of}
use Rattle.est_meaning.specs.MustCan.{sure, status_within, env_within}

-- what is left where a code is given: only code 1 leaves something to go on with
abbrev pub rest_of : ℕ → Term → Term
rest_of zero t = nothing
rest_of (suc zero) t = t
rest_of (suc (suc k)) t = nothing

-- a way to react: the signals emitted, the code given, the term that is left
abbrev pub Behaviour : Type 1
Behaviour = Signals → ℕ → Term → Type 0

-- exactly this: these signals, this code, this rest
pub record IsJust (emitted : Signals) (given : ℕ) (left : Term) (o : Signals) (k : ℕ) (u : Term) : Type 0 where
  pub signals : o ≡ emitted
  pub code : k ≡ given
  pub rest : u ≡ left

-- the body reacts, and what is left of it goes on inside the same statement
pub record Inside (body : Behaviour) (around : Term → Term) (o : Signals) (k : ℕ) (u : Term) : Type 0 where
  pub left : Term
  pub gives : body o k left
  pub rest : u ≡ rest_of k (around left)

-- `present`: the branch that the status chooses; none while it is unknown
pub data PresentRule (v : Status) (first second : Behaviour) (o : Signals) (k : ℕ) (u : Term) : Type 0 where
  takes_first : v ≡ Present → first o k u → PresentRule v first second o k u
  takes_second : v ≡ Absent → second o k u → PresentRule v first second o k u

-- a suspended statement that has paused: it stays as it is, or its body goes on
pub data HeldRule (v : Status) (s : Query) (p : Term) (body : Behaviour) (o : Signals) (k : ℕ) (u : Term) : Type 0 where
  is_held : v ≡ Present → IsJust no_signals 1 (held s p) o k u → HeldRule v s p body o k u
  is_resumed : v ≡ Absent → Inside body (λ t. held s t) o k u → HeldRule v s p body o k u

-- `;`: the first part does not end and the second waits; or it ends and the second is begun
pub data SeqRule (first second : Behaviour) (q : Term) (o : Signals) (k : ℕ) (u : Term) : Type 0 where
  goes_on : k ≢ 0 → Inside first (λ t. seq t q) o k u → SeqRule first second q o k u
  ends_then : (before after : Signals) (left : Term) → first before 0 left → second after k u
      → o ≡ union before after → SeqRule first second q o k u

-- `loop`: the body may not end in the instant in which it is begun
pub record LoopRule (body : Behaviour) (p : Term) (o : Signals) (k : ℕ) (u : Term) : Type 0 where
  pub not_ended : k ≢ 0
  pub inside : Inside body (λ t. seq t (loop p)) o k u

-- `||`: both sides react, and the greater code is given
pub record BothRule (left right : Behaviour) (o : Signals) (k : ℕ) (u : Term) : Type 0 where
  pub left_signals : Signals
  pub left_code : ℕ
  pub left_rest : Term
  pub left_gives : left left_signals left_code left_rest
  pub right_signals : Signals
  pub right_code : ℕ
  pub right_rest : Term
  pub right_gives : right right_signals right_code right_rest
  pub signals : o ≡ union left_signals right_signals
  pub code : k ≡ max left_code right_code
  pub rest : u ≡ rest_of k (par left_rest right_rest)

-- `trap`: the body's code as it is seen outside
pub record TrapRule (body : Behaviour) (o : Signals) (k : ℕ) (u : Term) : Type 0 where
  pub body_code : ℕ
  pub left : Term
  pub gives : body o body_code left
  pub code : k ≡ code_out_of_trap body_code
  pub rest : u ≡ rest_of k (trap left)

-- `signal`: the body reacts once the local signal's status is decided, and the signal is not seen outside
pub record LocalRule (v : Status) (s : ℕ) (body : Behaviour) (o : Signals) (k : ℕ) (u : Term) : Type 0 where
  pub decided : v ≢ Unknown
  pub body_signals : Signals
  pub left : Term
  pub gives : body body_signals k left
  pub signals : o ≡ without s body_signals
  pub rest : u ≡ rest_of k (signal s left)

-- under e, t emits the signals o, gives code k and goes on as u
abbrev pub Gives : Term → Env → Signals → ℕ → Term → Type 0
Gives nothing e o k u = IsJust no_signals 0 nothing o k u
Gives pause e o k u = IsJust no_signals 1 nothing o k u
Gives (emit s) e o k u = IsJust (only s) 0 nothing o k u
Gives (exit n) e o k u = IsJust no_signals (n + 2) nothing o k u
Gives (present s p q) e o k u = PresentRule (status_of e s) (Gives p e) (Gives q e) o k u
Gives (suspend s p) e o k u = Inside (Gives p e) (λ t. held s t) o k u
Gives (held s p) e o k u = HeldRule (status_of e s) s p (Gives p e) o k u
Gives (seq p q) e o k u = SeqRule (Gives p e) (Gives q e) q o k u
Gives (loop p) e o k u = LoopRule (Gives p e) p o k u
Gives (par p q) e o k u = BothRule (Gives p e) (Gives q e) o k u
Gives (trap p) e o k u = TrapRule (Gives p e) o k u
Gives (signal s p) e o k u = LocalRule (status_within sure s p e) s (Gives p (env_within sure s p e)) o k u

-- the rules give t no reaction under e
abbrev pub HasNoRule : Term → Env → Type 0
HasNoRule t e = (o : Signals) (k : ℕ) (u : Term) → Gives t e o k u → ⊥
