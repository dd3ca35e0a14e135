-- A walk over a kernel's whole statement.
use Rattle.std.specs.Prelude.{◌≡◌, ◌+◌, ℕ, Bool, true, List, None, Some}
use Rattle.std.proofs.Common.{Bor, Option, inr, refl, sym, subst}
use Rattle.est_kernel.specs.Pauses.{pauses_of}
use Rattle.est_kernel.specs.declared.kernel.Kernel.{Kernel}
use Rattle.est_kernel.specs.declared.pause_set.PauseSet.{PauseSet}
use Rattle.est_kernel.specs.declared.state.State.{State}
use Rattle.est_kernel.specs.declared.state.State.TheVariants.{Fresh, Paused}
use Rattle.est_kernel.specs.declared.statement.Statement.{Statement}
use Rattle.est_meaning.specs.Environments.{Env}
use Rattle.est_meaning.specs.Knowledge.{KnowsLess}
use Rattle.est_meaning.specs.Views.{env_of}
use Rattle.est_meaning.specs.declared.signal_set.Env.{Env as Known}
use Rattle.est_meaning.specs.declared.status.Status.{Status}
use Rattle.est_meaning.specs.declared.status.Status.TheVariants.{Present}
use Rattle.est_cells.specs.Meaning.{begun, resumed}
use Rattle.est_cells.specs.Tables.{emits, is_sure, sheet_size}
use Rattle.est_cells.specs.Whole.{sheet_meaning}
use Rattle.est_net.specs.Layout.{output_count}
use Rattle.est_micro.specs.Inner.Hearing.{Heard}
use Rattle.est_micro.specs.Inner.Parts.{IsReached, PartHeard}
use Rattle.est_micro.specs.Inner.Sides.{IsWithin}
use Rattle.est_micro.specs.Inner.Views.{Changes}
use Rattle.est_micro.specs.Inner.Walks.{IsWalked, last_of}
use Rattle.est_micro.specs.Parts.{AgreeBut, AreInputsAlone}
use Rattle.est_micro.specs.Runs.{Ready}
use Rattle.est_micro.specs.declared.direction.Direction.{Direction}
use Rattle.est_micro.specs.declared.part.Part.{Part}
use Rattle.est_micro.proofs.PassRounds.{ready_less}
use Rattle.est_micro.proofs.StatementParts.{within_itself}
use Rattle.est_micro.proofs.Walks.{leads_ready}

-- the whole statement as a part, whose cells begin at c
abbrev pub root_part : Direction → Bor Statement → (c : ℕ) → Option (Bor PauseSet) → Part
root_part way r c pauses = record {
  statement = r;
  place = record { number = 0; main = true; direction = way; cell = c; traps = 0 };
  gate = Present;
  pauses = pauses;
}

-- it is reached
pub record IsRoot (k : Kernel) (x : State) (f : Part) : Type 0 where
  pub at : (e : Env) → IsReached true k.root (output_count k.interface) 0 (sheet_meaning k.root x e) e f
  pub same : (e : Env) → (at e).inside ≡ e
  pub heard : (e l : Env) → Heard (emits is_sure true k.root (sheet_meaning k.root x e)) e l
      → PartHeard f (at e).reach (at e).inside l
  pub changes : (old new : List Status)
      → Changes f.place.cell (f.place.cell + sheet_size f.place.main f.statement.now f.place.traps) old new
      → Changes (output_count k.interface) (output_count k.interface + sheet_size true k.root 0) old new

fresh_root : (k : Kernel) (way : Direction) (r : Bor Statement) (c : ℕ) → r.now ≡ k.root
    → c ≡ output_count k.interface → IsRoot k Fresh (root_part way r c None)
fresh_root k way r c z w = record {
  at = λ e. record {
    reach = Present;
    below = inr refl;
    inside = e;
    outer = λ n. refl;
    begun = subst (λ (s : Statement). IsWithin true k.root (output_count k.interface) 0
        (begun true k.root Present e) true s c 0 (begun true s Present e)) (sym z)
        (subst (λ (n : ℕ). IsWithin true k.root (output_count k.interface) 0
        (begun true k.root Present e) true k.root n 0 (begun true k.root Present e)) (sym w)
        (within_itself true k.root (output_count k.interface) 0 (begun true k.root Present e)));
    on = tt;
  };
  same = λ e. refl;
  heard = λ e l h. record {
    begun = subst (λ (s : Statement). Heard (emits is_sure true s (begun true s Present e)) e l) (sym z) h;
    on = tt;
  };
  changes = λ old new h. subst (λ (s : Statement). Changes (output_count k.interface)
      (output_count k.interface + sheet_size true s 0) old new) z
      (subst (λ (n : ℕ). Changes n (n + sheet_size true r.now 0) old new) w h);
}

paused_root : (k : Kernel) (way : Direction) (r : Bor Statement) (c : ℕ) (p : Bor PauseSet) → r.now ≡ k.root
    → c ≡ output_count k.interface → IsRoot k (Paused p.now) (root_part way r c (Some p))
paused_root k way r c p z w = record {
  at = λ e. record {
    reach = Present;
    below = inr refl;
    inside = e;
    outer = λ n. refl;
    begun = tt;
    on = subst (λ (s : Statement). IsWithin true k.root (output_count k.interface) 0
        (resumed k.root (pauses_of p.now) Present e) true s c 0 (resumed s (pauses_of p.now) Present e)) (sym z)
        (subst (λ (n : ℕ). IsWithin true k.root (output_count k.interface) 0
        (resumed k.root (pauses_of p.now) Present e) true k.root n 0 (resumed k.root (pauses_of p.now) Present e))
        (sym w)
        (within_itself true k.root (output_count k.interface) 0 (resumed k.root (pauses_of p.now) Present e)));
  };
  same = λ e. refl;
  heard = λ e l h. record {
    begun = tt;
    on = subst (λ (s : Statement). Heard (emits is_sure true s (resumed s (pauses_of p.now) Present e)) e l) (sym z) h;
  };
  changes = λ old new h. subst (λ (s : Statement). Changes (output_count k.interface)
      (output_count k.interface + sheet_size true s 0) old new) z
      (subst (λ (n : ℕ). Changes n (n + sheet_size true r.now 0) old new) w h);
}

-- by names for the state and its pauses
pub fresh_at : (k : Kernel) (x : State) (way : Direction) (r : Bor Statement) (c : ℕ) (pauses : Option (Bor PauseSet))
    → x ≡ Fresh → pauses ≡ None → r.now ≡ k.root → c ≡ output_count k.interface
    → IsRoot k x (root_part way r c pauses)
fresh_at k x way r c pauses i j z w =
    subst (λ (y : State). IsRoot k y (root_part way r c pauses)) (sym i)
    (subst (λ (o : Option (Bor PauseSet)). IsRoot k Fresh (root_part way r c o)) (sym j) (fresh_root k way r c z w))

pub paused_at : (k : Kernel) (x : State) (way : Direction) (r : Bor Statement) (c : ℕ) (p : Bor PauseSet)
    (pauses : Option (Bor PauseSet)) → x ≡ Paused p.now → pauses ≡ Some p → r.now ≡ k.root
    → c ≡ output_count k.interface → IsRoot k x (root_part way r c pauses)
paused_at k x way r c p pauses i j z w =
    subst (λ (y : State). IsRoot k y (root_part way r c pauses)) (sym i)
    (subst (λ (o : Option (Bor PauseSet)). IsRoot k (Paused p.now) (root_part way r c o)) (sym j)
    (paused_root k way r c p z w))

-- and the run goes on
pub root_ready : (k : Kernel) (x : State) (unasked offered : ℕ → Bool) (f : Part) (e : Known) (m : Env)
    (old new : List Status) → IsRoot k x f → AreInputsAlone k.interface unasked
    → IsWalked k x unasked offered f (env_of e) m old new
    → (others : ℕ → Bool) → AgreeBut unasked offered others → Ready unasked k x others old e
    → Ready unasked k x others new e
root_ready k x unasked offered f e m old new root apart walked others agree ready =
    let last = last_of k x others in
    let knows = ready_less unasked k x others old e apart ready in
    let at = root.at last in
    let after = walked.leads others agree at (record {
      sound = ready.sound;
      less = subst (λ (i : Env). KnowsLess (env_of e) i) (sym (root.same last)) knows.0;
      heard = root.heard last (env_of e) knows.1;
    }) in
    leads_ready unasked k x others e old new f at m (root.changes old new walked.changes) after ready
