-- What is known of whether a part ends.
use Rattle.std.specs.Prelude.{◌≡◌, ◌+◌, ℕ, Bool, true, false, cond, List}
use Rattle.std.proofs.Common.{ap, refl, sym, ◌∙◌, subst}
use Rattle.est_kernel.specs.Codes.{Codes, but_zero, either_code}
use Rattle.est_kernel.specs.Term.{Term, seq}
use Rattle.est_kernel.specs.View.{term_of}
use Rattle.est_kernel.specs.declared.statement.Statement.{Statement}
use Rattle.est_kernel.specs.declared.statement.Statement.TheVariants.{Seq'}
use Rattle.est_meaning.specs.Environments.{Env, verdict}
use Rattle.est_meaning.specs.Knowledge.{IsBelow}
use Rattle.est_meaning.specs.States.{is_live, term_at}
use Rattle.est_meaning.specs.declared.status.Status.{Status}
use Rattle.est_meaning.specs.declared.status.Status.TheVariants.{Absent}
use Rattle.est_cells.proofs.Complete.{seq_codes, seq_may_codes}
use Rattle.est_cells.proofs.Order.{ends_below}
use Rattle.est_cells.specs.Gates.{ends}
use Rattle.est_cells.specs.Meaning.{begun, can_at, cells_at, must_at, resumed}
use Rattle.est_cells.specs.Tables.{sheet_size}
use Rattle.est_net.specs.Cells.{cell_at}
use Rattle.est_net.specs.Layout.{sheet_in}
use Rattle.est_micro.specs.Inner.Parts.{EndsAs}
use Rattle.est_micro.specs.Inner.Passes.{EndsBy}
use Rattle.est_micro.proofs.PassedNodes.{ends_by, ends_read}
use Rattle.est_micro.proofs.PassingOn.{chosen, ends_second}

-- its cell of code 0 says it
pub ends_here : (main : Bool) (s : Statement) (c t : ℕ) (cells : List Status) (h : Status) → h ≡ cell_at cells (c + 1)
    → EndsAs main s c t cells h
ends_here main s c t cells h z = record {
  begun = λ r e b. subst (λ (x : Status). IsBelow x (ends (cells_at r r (term_of s) e)))
      (sym (z ∙ ends_read (cell_at cells) main s c t)) (ends_below _ _ b.cells);
  on = λ m bits. ends_by s bits c t cells h z;
}

-- a `;` ends as its second part does
seq_ends : (r : Status) (t v : Term) (e : Env)
    → let later = ends (cells_at Absent r t e) in
    ends (cells_at later later v e) ≡ ends (cells_at Absent r (seq t v) e)
unfolding but_zero either_code
seq_ends r t v e =
    let later = ends (cells_at Absent r t e) in
    ap (λ (b : Bool). verdict b ((can_at later v e).codes 0)) (ap (λ (c : Codes). c 0) (seq_codes r t v e))
    ∙ ap (λ (b : Bool). verdict ((must_at r (seq t v) e).codes 0) b) (ap (λ (c : Codes). c 0) (seq_may_codes r t v e))

first_term : {A : Type 0} (b : Bool) (x y : A) → b ≡ true → x ≡ cond b x y
first_term true x y z = refl
first_term false x y z = let w : false ≡ true = z in cc

pub ends_in_seq : (main : Bool) (a : _) (p : Statement) (b : _) (q : Statement) (c t : ℕ) (cells : List Status)
    (h : Status) → EndsAs main q (c + t + 3 + sheet_size main p t) t cells h → EndsAs main (Seq' a p b q) c t cells h
ends_in_seq main a p b q c t cells h k = record {
  begun = λ r e o. subst (λ (x : Status). IsBelow h x) (seq_ends r (term_of p) (term_of q) e)
      (k.begun (ends (cells_at r r (term_of p) e)) e o.parts.second);
  on = λ m bits. go bits (subst (λ (y : Bool). EndsAs y q (c + t + 3 + sheet_size y p t) t cells h) m k)
      (is_live p bits) refl;
}
  where
    go : (bits : ℕ → Bool) → EndsAs true q (c + t + 3 + sheet_size true p t) t cells h → (v : Bool)
        → is_live p bits ≡ v → EndsBy (Seq' a p b q) bits c t cells h
    go bits j false i = ends_second bits a p b q c t _ cells h i refl (j.on refl bits)
    go bits j true i = record {
      says = λ r e o.
          let later = ends (cells_at Absent r (term_at p bits) e) in
          subst (λ (x : Term). IsBelow h (ends (cells_at Absent r x e)))
          (first_term (is_live p bits) (seq (term_at p bits) (term_of q)) (term_at q bits) i)
          (subst (λ (x : Status). IsBelow h x) (seq_ends r (term_at p bits) (term_of q) e)
          (j.begun later e (chosen (is_live p bits) q
          (sheet_in (cell_at cells) true q (c + t + 3 + sheet_size true p t) t)
          (begun true q later e) (resumed q bits r e) i o.parts.second)));
    }

pub ends_by_second : (main : Bool) (s : Statement) (a : _) (p : Statement) (b : _) (q : Statement) (c t : ℕ)
    (cells : List Status) (h : Status) → s ≡ Seq' a p b q
    → EndsAs main q (c + t + 3 + sheet_size main p t) t cells h → EndsAs main s c t cells h
ends_by_second main s a p b q c t cells h z k =
    subst (λ (y : Statement). EndsAs main y c t cells h) (sym z) (ends_in_seq main a p b q c t cells h k)
