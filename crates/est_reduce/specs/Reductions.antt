-- The table of reductions: what each statement is in the kernel (Berry, The Esterel v5 Language Primer, derived
-- statements; the exact reductions, `suspend .. when immediate` among them, are this project's own choice). In a row, p
-- is a kernel term already, and T is a trap that stands in no text: the innermost one around what is written there.
use Rattle.std.specs.Prelude.{ℕ, zero, suc, ◌+◌, Bool, true, false}
use Rattle.est_kernel.specs.Term as kernel
use Rattle.est_kernel.specs.Term.{Name, Query, Term}
use Rattle.est_reduce.specs.Bodies.{Body, nothing, pause, halt, emit, sustain, exit, await, present, suspend, abort}
use Rattle.est_reduce.specs.Bodies.{weak_abort, repeat, repeat_each, every, trap, signal, seq, par}

-- `present S then exit T end`, where T is the innermost trap
abbrev pub leave_when : Query → Term
leave_when s = kernel.present s (kernel.exit 0) kernel.nothing

-- `loop pause; present S then exit T end end`: S is asked from the second instant on.
-- immediate: `loop present S then exit T end; pause end`: S is asked in the first instant too
abbrev pub watching : (immediate : Bool) → Query → Term
watching false s = kernel.loop (kernel.seq kernel.pause (leave_when s))
watching true s = kernel.loop (kernel.seq (leave_when s) kernel.pause)

-- `trap T in [p; exit T || q] end`: p until it ends, or until q exits T
abbrev pub until : (p q : Term) → Term
until p q = kernel.trap (kernel.par (kernel.seq p (kernel.exit 0)) q)

-- `halt` is `loop pause end`
abbrev pub halting : Term
halting = kernel.loop kernel.pause

-- `sustain S` is `loop emit S; pause end`
abbrev pub sustaining : Name → Term
sustaining s = kernel.loop (kernel.seq (kernel.emit s) kernel.pause)

-- `await S` is `trap T in loop pause; present S then exit T end end end`,
-- `await immediate S` is `trap T in loop present S then exit T end; pause end end`
abbrev pub awaiting : (immediate : Bool) → Query → Term
awaiting false s = kernel.trap (watching false s)
awaiting true s = kernel.trap (watching true s)

-- `suspend p when S` is of the kernel,
-- `suspend p when immediate S` is `suspend [present S then pause end; p] when S`
abbrev pub suspending : (immediate : Bool) → Query → Term → Term
suspending false s p = kernel.suspend s p
suspending true s p = kernel.suspend s (kernel.seq (kernel.present s kernel.pause kernel.nothing) p)

-- `abort p when S` is `trap T in [suspend p when S; exit T || loop pause; present S then exit T end end] end`,
-- `abort p when immediate S` is `present S else abort p when S end`
abbrev pub aborting : (immediate : Bool) → Query → Term → Term
aborting false s p = until (kernel.suspend s p) (watching false s)
aborting true s p = kernel.present s kernel.nothing (until (kernel.suspend s p) (watching false s))

-- `weak abort p when S` is `trap T in [p; exit T || loop pause; present S then exit T end end] end`,
-- `weak abort p when immediate S` is `trap T in [p; exit T || loop present S then exit T end; pause end] end`
abbrev pub weakly_aborting : (immediate : Bool) → Query → Term → Term
weakly_aborting false s p = until p (watching false s)
weakly_aborting true s p = until p (watching true s)

-- `loop p each S` is `loop abort p; halt when S end`
abbrev pub looping_each : Query → Term → Term
looping_each s p = kernel.loop (aborting false s (kernel.seq p halting))

-- `every S do p end` is `await S; loop p each S`,
-- `every immediate S do p end` is `await immediate S; loop p each S`
abbrev pub doing_every : (immediate : Bool) → Query → Term → Term
doing_every false s p = kernel.seq (awaiting false s) (looping_each s p)
doing_every true s p = kernel.seq (awaiting true s) (looping_each s p)

-- `signal A in signal B in p end end`, of n signals, with l local signals around them
abbrev pub binders : (l n : ℕ) → Term → Term
binders l zero p = p
binders l (suc n) p = kernel.signal l (binders (l + 1) n p)

-- where exits lead from inside a fresh trap: past it, one trap further out
abbrev pub past_fresh : (ℕ → ℕ) → ℕ → ℕ
past_fresh leads k = leads k + 1

-- where exits lead from inside a trap of the text: the innermost is that trap, and the others lie one further out
abbrev pub past_named : (ℕ → ℕ) → ℕ → ℕ
past_named leads zero = 0
past_named leads (suc k) = leads k + 1

-- what a statement is in the kernel. `leads` says where its exits lead: the trap that lies k traps further out in the
-- text lies (leads k) traps further out in the kernel, where fresh traps count too. l local signals lie around it
abbrev pub reduced : (leads : ℕ → ℕ) → (l : ℕ) → Body → Term
reduced leads l nothing = kernel.nothing
reduced leads l pause = kernel.pause
reduced leads l halt = halting
reduced leads l (emit s) = kernel.emit s
reduced leads l (sustain s) = sustaining s
reduced leads l (exit k) = kernel.exit (leads k)
reduced leads l (await now s) = awaiting now s
reduced leads l (present s p q) = kernel.present s (reduced leads l p) (reduced leads l q)
reduced leads l (suspend now s p) = suspending now s (reduced leads l p)
reduced leads l (abort now s p) = aborting now s (reduced (past_fresh leads) l p)
reduced leads l (weak_abort now s p) = weakly_aborting now s (reduced (past_fresh leads) l p)
reduced leads l (repeat p) = kernel.loop (reduced leads l p)
reduced leads l (repeat_each s p) = looping_each s (reduced (past_fresh leads) l p)
reduced leads l (every now s p) = doing_every now s (reduced (past_fresh leads) l p)
reduced leads l (trap p) = kernel.trap (reduced (past_named leads) l p)
reduced leads l (signal n p) = binders l n (reduced leads (l + n) p)
reduced leads l (seq p q) = kernel.seq (reduced leads l p) (reduced leads l q)
reduced leads l (par p q) = kernel.par (reduced leads l p) (reduced leads l q)

-- the kernel term of a module's body
abbrev pub kernel_term : Body → Term
kernel_term p = reduced (λ k. k) 0 p
