-- A pass over the parts of a statement, one after another, is one over the statement.
use Rattle.std.specs.Prelude.{◌≡◌, ◌+◌, ◌&&◌, ℕ, Bool, true, false, List, ltb}
use Rattle.std.proofs.Common.{refl, ap, sym, ◌∙◌, arith, subst}
use Rattle.std.proofs.lemmas.Bool.{lt-ltb}
use Rattle.est_kernel.specs.declared.statement.Statement.{Statement}
use Rattle.est_kernel.specs.declared.statement.Statement.TheVariants.{Suspend', Seq', Loop', Par', Trap'}
use Rattle.est_meaning.specs.Environments.{Env, verdict}
use Rattle.est_meaning.specs.States.{is_live}
use Rattle.est_meaning.specs.declared.status.Status.{Status}
use Rattle.est_meaning.specs.declared.status.Status.TheVariants.{Present, Absent, Unknown}
use Rattle.est_cells.specs.Gates.{ends}
use Rattle.est_cells.specs.Tables.{is_possible, is_sure, sheet_size}
use Rattle.est_net.specs.Cells.{cell_at}
use Rattle.est_net.specs.Layout.{possible_codes, sheet_in, sure_codes}
use Rattle.est_micro.specs.Inner.Passes.{EndsBy, IsMeantBegun, IsMeantResumed, Passes, PassesOn, SidePasses}
use Rattle.est_micro.proofs.Passing.{IsGate, again_first, by_go, keeps_nothing, keeps_then, loop_first, par_first}
use Rattle.est_micro.proofs.Passing.{par_second, seq_first, seq_second, suspend_body, trap_body}
use Rattle.est_micro.proofs.PassingOn.{ends_known, loop_on_again, loop_on_first, par_on_first, par_on_second}
use Rattle.est_micro.proofs.PassingOn.{seq_on_first, seq_on_next, seq_on_second}

-- what a statement's cell of code 0 knows
status_read : (v : Status) → v ≡ verdict (is_sure v) (is_possible v)
status_read Present = refl
status_read Absent = refl
status_read Unknown = refl

pub ends_read : (f : ℕ → Status) (main : Bool) (p : Statement) (d t : ℕ)
    → f (d + 1) ≡ ends (sheet_in f main p d t).cells
unfolding sure_codes possible_codes
ends_read f main p d t =
    let zero : d + 1 ≡ d + 1 + 0 = omega arith in
    let within : true ≡ ltb 0 (t + 2) = sym (lt-ltb 0 (t + 2) (omega arith)) in
    status_read (f (d + 1))
    ∙ (ap (λ (n : ℕ). verdict (is_sure (f n)) (is_possible (f n))) zero
    ∙ ap (λ (b : Bool). verdict (b && is_sure (f (d + 1 + 0))) (b && is_possible (f (d + 1 + 0)))) within)

pub par_passed : (main : Bool) (a : _) (p : Statement) (b : _) (q : Statement) (c t : ℕ) (g go : Status) (l : Env)
    (e : ℕ) (old mid new : List Status) → go ≡ cell_at old c → e ≡ c + t + 3 + sheet_size main p t
    → Passes main p (c + t + 3) t go l old mid → Passes main q e t go l mid new
    → Passes main (Par' a p b q) c t g l old new
par_passed main a p b q c t g go l e old mid new z w h k =
    keeps_then main (Par' a p b q) c t (IsMeantBegun main (Par' a p b q) g l) old mid new
    (par_first main a p b q c t g go l old mid (by_go _ _ _ z) h)
    (par_second main a p b q c t g go l mid new (by_go _ _ _ (z ∙ sym (h.changes.before c (omega arith))))
    (subst (λ (d : ℕ). Passes main q d t go l mid new) w k))

pub seq_passed : (main : Bool) (a : _) (p : Statement) (b : _) (q : Statement) (c t : ℕ) (g go later : Status) (l : Env)
    (e : ℕ) (old mid new : List Status) → IsGate g go (cell_at old c) → e ≡ c + t + 3 + sheet_size main p t
    → Passes main p (c + t + 3) t go l old mid → later ≡ cell_at mid (c + t + 3 + 1)
    → Passes main q e t later l mid new → Passes main (Seq' a p b q) c t g l old new
seq_passed main a p b q c t g go later l e old mid new z w h x k =
    keeps_then main (Seq' a p b q) c t (IsMeantBegun main (Seq' a p b q) g l) old mid new
    (seq_first main a p b q c t g go l old mid z h)
    (seq_second main a p b q c t g later l mid new (x ∙ ends_read (cell_at mid) main p (c + t + 3) t)
    (subst (λ (d : ℕ). Passes main q d t later l mid new) w k))

pub suspend_passed : (main : Bool) (y a : _) (p : Statement) (c t traps : ℕ) (g go : Status) (l : Env)
    (old new : List Status) → traps ≡ t → IsGate g go (cell_at old c) → Passes main p (c + t + 3) traps go l old new
    → Passes main (Suspend' y a p) c t g l old new
suspend_passed main y a p c t traps g go l old new w z k =
    suspend_body main y a p c t g go l old new z
    (subst (λ (n : ℕ). Passes main p (c + t + 3) n go l old new) w k)

pub loop_passed : (main : Bool) (a : _) (p : Statement) (c t traps : ℕ) (g go : Status) (l : Env)
    (old new : List Status) → traps ≡ t → IsGate g go (cell_at old c) → Passes main p (c + t + 3) traps go l old new
    → Passes main (Loop' a p) c t g l old new
loop_passed true a p c t traps g go l old new w z k =
    loop_first true a p c t g go l old new refl z
    (subst (λ (n : ℕ). Passes true p (c + t + 3) n go l old new) w k)
loop_passed false a p c t traps g go l old new w z k =
    again_first false a p c t g go l old new refl z
    (subst (λ (n : ℕ). Passes false p (c + t + 3) n go l old new) w k)

pub trap_passed : (main : Bool) (a : _) (p : Statement) (c t traps : ℕ) (g go : Status) (l : Env)
    (old new : List Status) → traps ≡ t + 1 → IsGate g go (cell_at old c) → Passes main p (c + t + 3) traps go l old new
    → Passes main (Trap' a p) c t g l old new
trap_passed main a p c t traps g go l old new w z k =
    trap_body main a p c t g go l old new z
    (subst (λ (n : ℕ). Passes main p (c + t + 3) n go l old new) w k)

pub nothing_passed : (main : Bool) (s : Statement) (c t : ℕ) (g : Status) (l : Env) (cells : List Status)
    → Passes main s c t g l cells cells
nothing_passed main s c t g l cells = keeps_nothing main s c t (IsMeantBegun main s g l) cells

pub nothing_passed_on : (s : Statement) (bits : ℕ → Bool) (c t : ℕ) (g : Status) (l : Env) (cells : List Status)
    → PassesOn s bits c t g l cells cells
nothing_passed_on s bits c t g l cells = keeps_nothing true s c t (IsMeantResumed s bits g l) cells

-- the sides of a `||` that goes on
pub first_side : (v : Bool) (bits : ℕ → Bool) (a : _) (p : Statement) (b : _) (q : Statement) (c t : ℕ) (g : Status)
    (l : Env) (old new : List Status) → is_live p bits ≡ v → SidePasses p bits (c + t + 3) t g l old new
    → PassesOn (Par' a p b q) bits c t g l old new
first_side true bits a p b q c t g l old new z h = par_on_first bits a p b q c t g l old new z (h.on z)
first_side false bits a p b q c t g l old new z h =
    subst (λ (x : List Status). PassesOn (Par' a p b q) bits c t g l old x) (sym (h.off z))
    (nothing_passed_on (Par' a p b q) bits c t g l old)

pub second_side : (v : Bool) (bits : ℕ → Bool) (a : _) (p : Statement) (b : _) (q : Statement) (c t : ℕ) (g : Status)
    (l : Env) (old new : List Status) → is_live q bits ≡ v
    → SidePasses q bits (c + t + 3 + sheet_size true p t) t g l old new → PassesOn (Par' a p b q) bits c t g l old new
second_side true bits a p b q c t g l old new z h = par_on_second bits a p b q c t g l old new z (h.on z)
second_side false bits a p b q c t g l old new z h =
    subst (λ (x : List Status). PassesOn (Par' a p b q) bits c t g l old x) (sym (h.off z))
    (nothing_passed_on (Par' a p b q) bits c t g l old)

pub par_on_passed : (bits : ℕ → Bool) (a : _) (p : Statement) (b : _) (q : Statement) (c t : ℕ) (g : Status) (l : Env)
    (e : ℕ) (old mid new : List Status) → e ≡ c + t + 3 + sheet_size true p t
    → SidePasses p bits (c + t + 3) t g l old mid → SidePasses q bits e t g l mid new
    → PassesOn (Par' a p b q) bits c t g l old new
par_on_passed bits a p b q c t g l e old mid new w h k =
    keeps_then true (Par' a p b q) c t (IsMeantResumed (Par' a p b q) bits g l) old mid new
    (first_side (is_live p bits) bits a p b q c t g l old mid refl h)
    (second_side (is_live q bits) bits a p b q c t g l mid new refl
    (subst (λ (d : ℕ). SidePasses q bits d t g l mid new) w k))

pub ends_by : (s : Statement) (bits : ℕ → Bool) (d t : ℕ) (cells : List Status) (v : Status)
    → v ≡ cell_at cells (d + 1) → EndsBy s bits d t cells v
ends_by s bits d t cells v z = ends_known s bits d t cells v (z ∙ ends_read (cell_at cells) true s d t)

pub seq_on_passed : (bits : ℕ → Bool) (a : _) (p : Statement) (b : _) (q : Statement) (c t : ℕ) (g later : Status)
    (l : Env) (e : ℕ) (old mid new : List Status) → is_live p bits ≡ true → e ≡ c + t + 3 + sheet_size true p t
    → PassesOn p bits (c + t + 3) t g l old mid → EndsBy p bits (c + t + 3) t mid later
    → Passes true q e t later l mid new → PassesOn (Seq' a p b q) bits c t g l old new
seq_on_passed bits a p b q c t g later l e old mid new z w h x k =
    keeps_then true (Seq' a p b q) c t (IsMeantResumed (Seq' a p b q) bits g l) old mid new
    (seq_on_first bits a p b q c t g l old mid z h)
    (seq_on_next bits a p b q c t g later l mid new z x
    (subst (λ (d : ℕ). Passes true q d t later l mid new) w k))

pub seq_on_later : (bits : ℕ → Bool) (a : _) (p : Statement) (b : _) (q : Statement) (c t : ℕ) (g : Status)
    (l : Env) (e : ℕ) (old new : List Status) → is_live p bits ≡ false → e ≡ c + t + 3 + sheet_size true p t
    → PassesOn q bits e t g l old new → PassesOn (Seq' a p b q) bits c t g l old new
seq_on_later bits a p b q c t g l e old new z w k =
    seq_on_second bits a p b q c t g l old new z (subst (λ (d : ℕ). PassesOn q bits d t g l old new) w k)

pub loop_on_passed : (bits : ℕ → Bool) (a : _) (p : Statement) (c t : ℕ) (g later : Status) (l : Env) (e : ℕ)
    (old mid new : List Status) → e ≡ c + t + 3 + sheet_size true p t → PassesOn p bits (c + t + 3) t g l old mid
    → EndsBy p bits (c + t + 3) t mid later → Passes false p e t later l mid new
    → PassesOn (Loop' a p) bits c t g l old new
loop_on_passed bits a p c t g later l e old mid new w h x k =
    keeps_then true (Loop' a p) c t (IsMeantResumed (Loop' a p) bits g l) old mid new
    (loop_on_first bits a p c t g l old mid h)
    (loop_on_again bits a p c t g later l mid new x
    (subst (λ (d : ℕ). Passes false p d t later l mid new) w k))
