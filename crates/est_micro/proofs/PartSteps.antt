-- The parts of a part of a kernel's statement: wherever it is reached, so are they.
use Rattle.std.specs.Prelude.{◌≡◌, ◌≤◌, ◌+◌, ℕ, Bool, true, false, List, IfNone, IfSome, None, Some}
use Rattle.std.proofs.Common.{Bor, Option, ap, arith, inr, refl, sym, subst}
use Rattle.std.specs.Option.{is_some}
use Rattle.est_kernel.specs.Pauses.{pauses_of}
use Rattle.est_kernel.specs.View.{query_of, term_of}
use Rattle.est_kernel.specs.declared.pause_set.PauseSet.{PauseSet}
use Rattle.est_kernel.specs.declared.statement.Statement.{Statement}
use Rattle.est_kernel.specs.declared.statement.Statement.TheVariants.{Loop', Present', Seq', Suspend', Trap'}
use Rattle.est_meaning.specs.Environments.{Env, and_status, opposite, status_of}
use Rattle.est_meaning.specs.Knowledge.{IsBelow, KnowsLess}
use Rattle.est_meaning.specs.States.{is_live, term_at}
use Rattle.est_meaning.specs.declared.status.Status.{Status}
use Rattle.est_meaning.specs.declared.status.Status.TheVariants.{Absent}
use Rattle.est_cells.specs.Gates.{ends}
use Rattle.est_cells.specs.Meaning.{begun, cells_at, resumed}
use Rattle.est_cells.specs.Tables.{Below, Sheet, emits, is_sure, sheet_size}
use Rattle.est_net.specs.Cells.{cell_at}
use Rattle.est_net.specs.Layout.{sheet_in}
use Rattle.est_net.specs.declared.extents.Extent.{Extent}
use Rattle.est_micro.specs.Inner.Hearing.{Heard}
use Rattle.est_micro.specs.Inner.Parts.{PartEnds, IsGateInside, IsOnMain, IsPartOf}
use Rattle.est_micro.specs.Inner.Parts.{again_part, begun_by, body_part, first_part, gated, second_part, side_part}
use Rattle.est_micro.specs.Inner.Sides.{IsOneOf, IsPart, IsWithin}
use Rattle.est_micro.specs.Inner.Walks.{SideWalks, Walks}
use Rattle.est_micro.specs.declared.part.Part.{Part}
use Rattle.est_micro.specs.declared.question.Question.{Question}
use Rattle.est_micro.specs.declared.sides.Side.{Side}
use Rattle.est_micro.proofs.Hearing.{heard_in}
use Rattle.est_micro.proofs.Passing.{branch_below, other_below}
use Rattle.est_micro.proofs.Walks.{part_walks}
use Rattle.est_micro.proofs.StatementParts.{loop_again_on, loop_first_on, loop_part, present_first_on}
use Rattle.est_micro.proofs.StatementParts.{present_first_part}
use Rattle.est_micro.proofs.StatementParts.{present_second_on, present_second_part, seq_first_on, seq_first_over}
use Rattle.est_micro.proofs.StatementParts.{seq_first_part, seq_next_on, seq_second_on, seq_second_part, suspend_on}
use Rattle.est_micro.proofs.StatementParts.{suspend_part, trap_on, trap_part, within_then}

-- p is a part of the sheet M, as a status tells of which no more than h is known
pub record IsPartBy (main : Bool) (s : Statement) (c t : ℕ) (M : Sheet main s) (own : Bool) (p : Statement) (d u : ℕ)
    (Meant : Status → Sheet own p) (h : Status) : Type 0 where
  pub reach : Status
  pub below : IsBelow h reach
  pub part : IsPart main s c t M own p d u (Meant reach)

-- where s is begun, if at all, so is p
abbrev pub IsBegunIn : (main : Bool) (s : Statement) (c t : ℕ) (g : Status) (l : Env) (cells : List Status) (own : Bool)
    (p : Statement) (d u : ℕ) (h : Status) → Type 0
IsBegunIn main s c t g l cells own p d u h = (r : Status) (e : Env) → IsBelow g r → KnowsLess l e
    → Below main s (sheet_in (cell_at cells) main s c t) (begun main s r e)
    → IsPartBy main s c t (begun main s r e) own p d u (λ x. begun own p x e) h

-- where s goes on, if it is run, p is begun, if at all
abbrev pub IsBegunOn : (s : Statement) (bits : ℕ → Bool) (c t : ℕ) (g : Status) (l : Env) (cells : List Status)
    (own : Bool) (p : Statement) (d u : ℕ) (h : Status) → Type 0
IsBegunOn s bits c t g l cells own p d u h = (r : Status) (e : Env) → IsBelow g r → KnowsLess l e
    → Below true s (sheet_in (cell_at cells) true s c t) (resumed s bits r e)
    → IsPartBy true s c t (resumed s bits r e) own p d u (λ x. begun own p x e) h

-- where s goes on, if it is run, so does p
abbrev pub GoesOnIn : (s : Statement) (bits : ℕ → Bool) (c t : ℕ) (g : Status) (l : Env) (cells : List Status)
    (p : Statement) (d u : ℕ) (h : Status) → Type 0
GoesOnIn s bits c t g l cells p d u h = (r : Status) (e : Env) → IsBelow g r → KnowsLess l e
    → Below true s (sheet_in (cell_at cells) true s c t) (resumed s bits r e)
    → IsPartBy true s c t (resumed s bits r e) true p d u (λ x. resumed p bits x e) h

-- so is what a walk comes to
pub step_begun : (f g : Part) (l : Env) (cells : List Status) → f.pauses ≡ None → g.pauses ≡ None
    → f.place.cell ≤ g.place.cell
    → g.place.cell + sheet_size g.place.main g.statement.now g.place.traps
    ≤ f.place.cell + sheet_size f.place.main f.statement.now f.place.traps
    → IsBegunIn f.place.main f.statement.now f.place.cell f.place.traps f.gate l cells g.place.main g.statement.now
    g.place.cell g.place.traps g.gate → IsPartOf f g l cells
step_begun f g l cells none also from within step = record {
  from = from;
  within = within;
  step = λ main s c t M e at below less.
      let own = f.place.main in
      let p = f.statement.now in
      let lies = subst (λ (o : Option (Bor PauseSet)). IfNone o (IsWithin main s c t M own p f.place.cell f.place.traps
      (begun own p at.reach at.inside))) none at.begun in
      let by = step at.reach at.inside at.below less (lies.part (cell_at cells) below) in
      let N = begun g.place.main g.statement.now by.reach at.inside in
      record {
        to = record {
          reach = by.reach;
          below = by.below;
          inside = at.inside;
          outer = at.outer;
          begun = subst (λ (o : Option (Bor PauseSet)). IfNone o (IsWithin main s c t M g.place.main g.statement.now
              g.place.cell g.place.traps N)) (sym also)
              (within_then main s c t M own p f.place.cell f.place.traps _ g.place.main g.statement.now g.place.cell
              g.place.traps N lies by.part.lies);
          on = subst (λ (o : Option (Bor PauseSet)). IfSome o (λ a. IsWithin main s c t M true g.statement.now
              g.place.cell g.place.traps (resumed g.statement.now (pauses_of a.now) by.reach at.inside))) (sym also) tt;
        };
        same = refl;
        heard = λ k h. record {
          begun = subst (λ (o : Option (Bor PauseSet)). IfNone o (Heard (emits is_sure g.place.main g.statement.now N)
              at.inside k)) (sym also) (heard_in _ _ _ _ by.part.emits
              (subst (λ (o : Option (Bor PauseSet)). IfNone o (Heard (emits is_sure own p
              (begun own p at.reach at.inside)) at.inside k)) none h.begun));
          on = subst (λ (o : Option (Bor PauseSet)). IfSome o (λ a. Heard (emits is_sure true g.statement.now
              (resumed g.statement.now (pauses_of a.now) by.reach at.inside)) at.inside k)) (sym also) tt;
        };
      };
}

pub step_begun_on : (f g : Part) (ps : Bor PauseSet) (l : Env) (cells : List Status) → f.pauses ≡ Some ps
    → g.pauses ≡ None → f.place.cell ≤ g.place.cell
    → g.place.cell + sheet_size g.place.main g.statement.now g.place.traps
    ≤ f.place.cell + sheet_size f.place.main f.statement.now f.place.traps
    → IsBegunOn f.statement.now (pauses_of ps.now) f.place.cell f.place.traps f.gate l cells g.place.main
    g.statement.now g.place.cell g.place.traps g.gate → IsPartOf f g l cells
step_begun_on f g ps l cells some also from within step = record {
  from = from;
  within = within;
  step = λ main s c t M e at below less.
      let p = f.statement.now in
      let bits = pauses_of ps.now in
      let lies = subst (λ (o : Option (Bor PauseSet)). IfSome o (λ a. IsWithin main s c t M true p f.place.cell
      f.place.traps (resumed p (pauses_of a.now) at.reach at.inside))) some at.on in
      let by = step at.reach at.inside at.below less (lies.part (cell_at cells) below) in
      let N = begun g.place.main g.statement.now by.reach at.inside in
      record {
        to = record {
          reach = by.reach;
          below = by.below;
          inside = at.inside;
          outer = at.outer;
          begun = subst (λ (o : Option (Bor PauseSet)). IfNone o (IsWithin main s c t M g.place.main g.statement.now
              g.place.cell g.place.traps N)) (sym also)
              (within_then main s c t M true p f.place.cell f.place.traps _ g.place.main g.statement.now g.place.cell
              g.place.traps N lies by.part.lies);
          on = subst (λ (o : Option (Bor PauseSet)). IfSome o (λ a. IsWithin main s c t M true g.statement.now
              g.place.cell g.place.traps (resumed g.statement.now (pauses_of a.now) by.reach at.inside))) (sym also) tt;
        };
        same = refl;
        heard = λ k h. record {
          begun = subst (λ (o : Option (Bor PauseSet)). IfNone o (Heard (emits is_sure g.place.main g.statement.now N)
              at.inside k)) (sym also) (heard_in _ _ _ _ by.part.emits
              (subst (λ (o : Option (Bor PauseSet)). IfSome o (λ a. Heard (emits is_sure true p
              (resumed p (pauses_of a.now) at.reach at.inside)) at.inside k)) some h.on));
          on = subst (λ (o : Option (Bor PauseSet)). IfSome o (λ a. Heard (emits is_sure true g.statement.now
              (resumed g.statement.now (pauses_of a.now) by.reach at.inside)) at.inside k)) (sym also) tt;
        };
      };
}

pub step_on : (f g : Part) (ps : Bor PauseSet) (l : Env) (cells : List Status) → f.pauses ≡ Some ps
    → g.pauses ≡ Some ps → f.place.cell ≤ g.place.cell
    → g.place.cell + sheet_size g.place.main g.statement.now g.place.traps
    ≤ f.place.cell + sheet_size f.place.main f.statement.now f.place.traps
    → GoesOnIn f.statement.now (pauses_of ps.now) f.place.cell f.place.traps f.gate l cells g.statement.now
    g.place.cell g.place.traps g.gate → IsPartOf f g l cells
step_on f g ps l cells some also from within step = record {
  from = from;
  within = within;
  step = λ main s c t M e at below less.
      let p = f.statement.now in
      let bits = pauses_of ps.now in
      let lies = subst (λ (o : Option (Bor PauseSet)). IfSome o (λ a. IsWithin main s c t M true p f.place.cell
      f.place.traps (resumed p (pauses_of a.now) at.reach at.inside))) some at.on in
      let by = step at.reach at.inside at.below less (lies.part (cell_at cells) below) in
      let N = resumed g.statement.now bits by.reach at.inside in
      record {
        to = record {
          reach = by.reach;
          below = by.below;
          inside = at.inside;
          outer = at.outer;
          begun = subst (λ (o : Option (Bor PauseSet)). IfNone o (IsWithin main s c t M g.place.main g.statement.now
              g.place.cell g.place.traps (begun g.place.main g.statement.now by.reach at.inside))) (sym also) tt;
          on = subst (λ (o : Option (Bor PauseSet)). IfSome o (λ a. IsWithin main s c t M true g.statement.now
              g.place.cell g.place.traps (resumed g.statement.now (pauses_of a.now) by.reach at.inside))) (sym also)
              (within_then main s c t M true p f.place.cell f.place.traps _ true g.statement.now g.place.cell
              g.place.traps N lies by.part.lies);
        };
        same = refl;
        heard = λ k h. record {
          begun = subst (λ (o : Option (Bor PauseSet)). IfNone o (Heard (emits is_sure g.place.main g.statement.now
              (begun g.place.main g.statement.now by.reach at.inside)) at.inside k)) (sym also) tt;
          on = subst (λ (o : Option (Bor PauseSet)). IfSome o (λ a. Heard (emits is_sure true g.statement.now
              (resumed g.statement.now (pauses_of a.now) by.reach at.inside)) at.inside k)) (sym also)
              (heard_in _ _ _ _ by.part.emits
              (subst (λ (o : Option (Bor PauseSet)). IfSome o (λ a. Heard (emits is_sure true p
              (resumed p (pauses_of a.now) at.reach at.inside)) at.inside k)) some h.on));
        };
      };
}

-- either it is begun, or it goes on
pub by_pauses : (f : Part) (P : Type 0) → (f.pauses ≡ None → P) → ((ps : Bor PauseSet) → f.pauses ≡ Some ps → P) → P
by_pauses f P begun on = go f.pauses refl
  where
    go : (o : Option (Bor PauseSet)) → f.pauses ≡ o → P
    go None z = begun z
    go (Some ps) z = on ps z

pub when : (P : Bor PauseSet → Type 0) {o : Option (Bor PauseSet)} {ps : Bor PauseSet} → o ≡ Some ps → IfSome o P → P ps
when P z h = subst (λ (o : Option (Bor PauseSet)). IfSome o P) z h

-- the parts of a statement by names for them have room in it
pub room_by : (f : Part) (s : Statement) (n : ℕ) → f.statement.now ≡ s
    → n ≤ f.place.cell + sheet_size f.place.main s f.place.traps
    → n ≤ f.place.cell + sheet_size f.place.main f.statement.now f.place.traps
room_by f s n z h =
    subst (λ (y : Statement). n ≤ f.place.cell + sheet_size f.place.main y f.place.traps) (sym z) h

-- of a `;`: its first part, where that is begun or goes on
pub seq_first : (f : Part) (a : _) (p : Bor Statement) (b : _) (q : Statement) (l : Env) (cells : List Status)
    → f.statement.now ≡ Seq' a p.now b q → IfSome f.pauses (λ x. is_live p.now (pauses_of x.now) ≡ true)
    → IsPartOf f (first_part f p) l cells
seq_first f a p b q l cells z live =
    let c = f.place.cell in
    let t = f.place.traps in
    let room = room_by f (Seq' a p.now b q) (c + t + 3 + sheet_size f.place.main p.now t) z (omega arith) in
    by_pauses f _
    (λ none. step_begun f (first_part f p) l cells none none (omega arith) room
    (subst (λ (s : Statement). IsBegunIn f.place.main s c t f.gate l cells f.place.main p.now (c + t + 3) t f.gate)
    (sym z) (λ r e i j o. record {
      reach = r;
      below = i;
      part = seq_first_part f.place.main a p.now b q c t r e;
    })))
    (λ ps some. step_on f (first_part f p) ps l cells some some (omega arith) room
    (subst (λ (s : Statement). GoesOnIn s (pauses_of ps.now) c t f.gate l cells p.now (c + t + 3) t f.gate)
    (sym z) (λ r e i j o. record {
      reach = r;
      below = i;
      part = seq_first_on (pauses_of ps.now) a p.now b q c t r e (when _ some live);
    })))

-- where it is over
pub seq_over : (f : Part) (a : _) (p : Bor Statement) (b : _) (q : Statement) (ps : Bor PauseSet) (l : Env)
    (cells : List Status) → f.statement.now ≡ Seq' a p.now b q → f.pauses ≡ Some ps → f.place.main ≡ true
    → is_live p.now (pauses_of ps.now) ≡ false → IsPartOf f (begun_by (first_part f p) Absent) l cells
seq_over f a p b q ps l cells z some main over =
    let c = f.place.cell in
    let t = f.place.traps in
    let room = room_by f (Seq' a p.now b q) (c + t + 3 + sheet_size f.place.main p.now t) z (omega arith) in
    step_begun_on f (begun_by (first_part f p) Absent) ps l cells some refl (omega arith) room
    (subst (λ (s : Statement). IsBegunOn s (pauses_of ps.now) c t f.gate l cells f.place.main p.now (c + t + 3) t
    Absent) (sym z)
    (subst (λ (y : Bool). IsBegunOn (Seq' a p.now b q) (pauses_of ps.now) c t f.gate l cells y p.now (c + t + 3) t
    Absent) (sym main) (λ r e i j o. record {
      reach = Absent;
      below = inr refl;
      part = seq_first_over (pauses_of ps.now) a p.now b q c t r e over;
    })))

-- its second part, where that goes on
pub seq_second : (f : Part) (a : _) (p : Bor Statement) (b : _) (q : Bor Statement) (ps : Bor PauseSet) (l : Env)
    (cells : List Status) → f.statement.now ≡ Seq' a p.now b q.now → f.pauses ≡ Some ps → f.place.main ≡ true
    → is_live p.now (pauses_of ps.now) ≡ false → IsPartOf f (second_part f p q) l cells
seq_second f a p b q ps l cells z some main over =
    let c = f.place.cell in
    let t = f.place.traps in
    let d = c + t + 3 + sheet_size f.place.main p.now t in
    let room = room_by f (Seq' a p.now b q.now) (d + sheet_size f.place.main q.now t) z (omega arith) in
    step_on f (second_part f p q) ps l cells some some (omega arith) room
    (subst (λ (s : Statement). GoesOnIn s (pauses_of ps.now) c t f.gate l cells q.now d t f.gate) (sym z)
    (subst (λ (y : Bool). GoesOnIn (Seq' a p.now b q.now) (pauses_of ps.now) c t f.gate l cells q.now
    (c + t + 3 + sheet_size y p.now t) t f.gate) (sym main) (λ r e i j o. record {
      reach = r;
      below = i;
      part = seq_second_on (pauses_of ps.now) a p.now b q.now c t r e over;
    })))

-- and where it is begun as the first part ends
pub seq_next : (f : Part) (a : _) (p : Bor Statement) (b : _) (q : Bor Statement) (l : Env) (cells : List Status)
    (h : Status) → f.statement.now ≡ Seq' a p.now b q.now → IsOnMain f
    → IfSome f.pauses (λ x. is_live p.now (pauses_of x.now) ≡ true) → PartEnds (first_part f p) cells h
    → IsPartOf f (begun_by (second_part f p q) h) l cells
seq_next f a p b q l cells h z main live ended =
    let c = f.place.cell in
    let t = f.place.traps in
    let d = c + t + 3 + sheet_size f.place.main p.now t in
    let room = room_by f (Seq' a p.now b q.now) (d + sheet_size f.place.main q.now t) z (omega arith) in
    by_pauses f _
    (λ none. step_begun f (begun_by (second_part f p q) h) l cells none refl (omega arith) room
    (subst (λ (s : Statement). IsBegunIn f.place.main s c t f.gate l cells f.place.main q.now d t h) (sym z)
    (λ r e i j o. record {
      reach = ends (cells_at r r (term_of p.now) e);
      below = ended.begun r e ((seq_first_part f.place.main a p.now b q.now c t r e).lies.part (cell_at cells) o);
      part = seq_second_part f.place.main a p.now b q.now c t r e;
    })))
    (λ ps some.
    let on = when _ some main in
    step_begun_on f (begun_by (second_part f p q) h) ps l cells some refl (omega arith) room
    (subst (λ (s : Statement). IsBegunOn s (pauses_of ps.now) c t f.gate l cells f.place.main q.now d t h) (sym z)
    (subst (λ (y : Bool). IsBegunOn (Seq' a p.now b q.now) (pauses_of ps.now) c t f.gate l cells y q.now
    (c + t + 3 + sheet_size y p.now t) t h) (sym on) (λ r e i j o. record {
      reach = ends (cells_at Absent r (term_at p.now (pauses_of ps.now)) e);
      below = (ended.on on (pauses_of ps.now)).says r e
          ((seq_first_on (pauses_of ps.now) a p.now b q.now c t r e (when _ some live)).lies.part (cell_at cells) o);
      part = seq_next_on (pauses_of ps.now) a p.now b q.now c t r e (when _ some live);
    }))))

-- of a `present` that is begun, if at all: its branches
pub present_first : (f : Part) (y a : _) (p : Bor Statement) (b : _) (q : Statement) (l : Env) (cells : List Status)
    (h : Status) → f.statement.now ≡ Present' y a p.now b q → f.pauses ≡ None
    → h ≡ and_status f.gate (status_of l (query_of y)) → IsPartOf f (gated (first_part f p) h) l cells
present_first f y a p b q l cells h z none w =
    let c = f.place.cell in
    let t = f.place.traps in
    let room = room_by f (Present' y a p.now b q) (c + t + 3 + sheet_size f.place.main p.now t) z (omega arith) in
    step_begun f (gated (first_part f p) h) l cells none none (omega arith) room
    (subst (λ (s : Statement). IsBegunIn f.place.main s c t f.gate l cells f.place.main p.now (c + t + 3) t h) (sym z)
    (λ r e i j o. record {
      reach = and_status r (status_of e (query_of y));
      below = branch_below y f.gate h r l e w i j;
      part = present_first_part f.place.main y a p.now b q c t r e;
    }))

pub present_second : (f : Part) (y a : _) (p : Bor Statement) (b : _) (q : Bor Statement) (l : Env)
    (cells : List Status) (h : Status) → f.statement.now ≡ Present' y a p.now b q.now → f.pauses ≡ None
    → h ≡ and_status f.gate (opposite (status_of l (query_of y))) → IsPartOf f (gated (second_part f p q) h) l cells
present_second f y a p b q l cells h z none w =
    let c = f.place.cell in
    let t = f.place.traps in
    let d = c + t + 3 + sheet_size f.place.main p.now t in
    let room = room_by f (Present' y a p.now b q.now) (d + sheet_size f.place.main q.now t) z (omega arith) in
    step_begun f (gated (second_part f p q) h) l cells none none (omega arith) room
    (subst (λ (s : Statement). IsBegunIn f.place.main s c t f.gate l cells f.place.main q.now d t h) (sym z)
    (λ r e i j o. record {
      reach = and_status r (opposite (status_of e (query_of y)));
      below = other_below y f.gate h r l e w i j;
      part = present_second_part f.place.main y a p.now b q.now c t r e;
    }))

-- of one that goes on: the branch that does
pub present_first_live : (f : Part) (y a : _) (p : Bor Statement) (b : _) (q : Statement) (ps : Bor PauseSet) (l : Env)
    (cells : List Status) → f.statement.now ≡ Present' y a p.now b q → f.pauses ≡ Some ps
    → is_live p.now (pauses_of ps.now) ≡ true → IsPartOf f (first_part f p) l cells
present_first_live f y a p b q ps l cells z some live =
    let c = f.place.cell in
    let t = f.place.traps in
    let room = room_by f (Present' y a p.now b q) (c + t + 3 + sheet_size f.place.main p.now t) z (omega arith) in
    step_on f (first_part f p) ps l cells some some (omega arith) room
    (subst (λ (s : Statement). GoesOnIn s (pauses_of ps.now) c t f.gate l cells p.now (c + t + 3) t f.gate) (sym z)
    (λ r e i j o. record {
      reach = r;
      below = i;
      part = present_first_on (pauses_of ps.now) y a p.now b q c t r e live;
    }))

pub present_second_live : (f : Part) (y a : _) (p : Bor Statement) (b : _) (q : Bor Statement) (ps : Bor PauseSet)
    (l : Env) (cells : List Status) → f.statement.now ≡ Present' y a p.now b q.now → f.pauses ≡ Some ps
    → f.place.main ≡ true → is_live p.now (pauses_of ps.now) ≡ false → IsPartOf f (second_part f p q) l cells
present_second_live f y a p b q ps l cells z some main over =
    let c = f.place.cell in
    let t = f.place.traps in
    let d = c + t + 3 + sheet_size f.place.main p.now t in
    let room = room_by f (Present' y a p.now b q.now) (d + sheet_size f.place.main q.now t) z (omega arith) in
    step_on f (second_part f p q) ps l cells some some (omega arith) room
    (subst (λ (s : Statement). GoesOnIn s (pauses_of ps.now) c t f.gate l cells q.now d t f.gate) (sym z)
    (subst (λ (y' : Bool). GoesOnIn (Present' y a p.now b q.now) (pauses_of ps.now) c t f.gate l cells q.now
    (c + t + 3 + sheet_size y' p.now t) t f.gate) (sym main) (λ r e i j o. record {
      reach = r;
      below = i;
      part = present_second_on (pauses_of ps.now) y a p.now b q.now c t r e over;
    })))

-- the body of a loop, and its restart, which is begun as the body ends
loop_room : (main : Bool) (a : _) (p : Statement) (c t : ℕ)
    → c + t + 3 + sheet_size main p t ≤ c + sheet_size main (Loop' a p) t
loop_room main a p c t = omega arith

pub loop_body : (f : Part) (a : _) (p : Bor Statement) (l : Env) (cells : List Status)
    → f.statement.now ≡ Loop' a p.now → IsPartOf f (first_part f p) l cells
loop_body f a p l cells z =
    let c = f.place.cell in
    let t = f.place.traps in
    let room = room_by f (Loop' a p.now) (c + t + 3 + sheet_size f.place.main p.now t) z
    (loop_room f.place.main a p.now c t) in
    by_pauses f _
    (λ none. step_begun f (first_part f p) l cells none none (omega arith) room
    (subst (λ (s : Statement). IsBegunIn f.place.main s c t f.gate l cells f.place.main p.now (c + t + 3) t f.gate)
    (sym z) (λ r e i j o. record {
      reach = r;
      below = i;
      part = loop_part f.place.main a p.now c t r e;
    })))
    (λ ps some. step_on f (first_part f p) ps l cells some some (omega arith) room
    (subst (λ (s : Statement). GoesOnIn s (pauses_of ps.now) c t f.gate l cells p.now (c + t + 3) t f.gate) (sym z)
    (λ r e i j o. record {
      reach = r;
      below = i;
      part = loop_first_on (pauses_of ps.now) a p.now c t r e;
    })))

pub loop_again : (f g : Part) (a : _) (p : Bor Statement) (ps : Bor PauseSet) (l : Env) (cells : List Status)
    → f.statement.now ≡ Loop' a p.now → f.pauses ≡ Some ps → f.place.main ≡ true
    → g ≡ again_part f p g.gate → PartEnds (first_part f p) cells g.gate → IsPartOf f g l cells
loop_again f g a p ps l cells z some main is ended =
    let c = f.place.cell in
    let t = f.place.traps in
    let h = g.gate in
    let d = c + t + 3 + sheet_size f.place.main p.now t in
    let room = room_by f (Loop' a p.now) (d + sheet_size false p.now t) z
    (subst (λ (y : Bool). c + t + 3 + sheet_size y p.now t + sheet_size false p.now t
    ≤ c + sheet_size y (Loop' a p.now) t) (sym main) (omega arith)) in
    subst (λ (x : Part). IsPartOf f x l cells) (sym is)
    (step_begun_on f (again_part f p h) ps l cells some refl (omega arith) room
    (subst (λ (s : Statement). IsBegunOn s (pauses_of ps.now) c t f.gate l cells false p.now d t h) (sym z)
    (subst (λ (y : Bool). IsBegunOn (Loop' a p.now) (pauses_of ps.now) c t f.gate l cells false p.now
    (c + t + 3 + sheet_size y p.now t) t h) (sym main) (λ r e i j o. record {
      reach = ends (cells_at Absent r (term_at p.now (pauses_of ps.now)) e);
      below = (ended.on main (pauses_of ps.now)).says r e
          ((loop_first_on (pauses_of ps.now) a p.now c t r e).lies.part (cell_at cells) o);
      part = loop_again_on (pauses_of ps.now) a p.now c t r e;
    }))))

-- the body of a trap
pub trap_body : (f : Part) (a : _) (p : Bor Statement) (u : ℕ) (h : Status) (l : Env) (cells : List Status)
    → f.statement.now ≡ Trap' a p.now → u ≡ f.place.traps + 1 → h ≡ f.gate
    → IsPartOf f (gated (body_part f p 3 u) h) l cells
trap_body f a p u h l cells z w same =
    let c = f.place.cell in
    let t = f.place.traps in
    let room = room_by f (Trap' a p.now) (c + t + 3 + sheet_size f.place.main p.now (t + 1)) z (omega arith) in
    subst (λ (n : ℕ). IsPartOf f (gated (body_part f p 3 n) h) l cells) (sym w)
    (subst (λ (x : Status). IsPartOf f (gated (body_part f p 3 (t + 1)) x) l cells) (sym same)
    (by_pauses f _
    (λ none. step_begun f (gated (body_part f p 3 (t + 1)) f.gate) l cells none none (omega arith) room
    (subst (λ (s : Statement). IsBegunIn f.place.main s c t f.gate l cells f.place.main p.now (c + t + 3) (t + 1)
    f.gate) (sym z) (λ r e i j o. record {
      reach = r;
      below = i;
      part = trap_part f.place.main a p.now c t r e;
    })))
    (λ ps some. step_on f (gated (body_part f p 3 (t + 1)) f.gate) ps l cells some some (omega arith) room
    (subst (λ (s : Statement). GoesOnIn s (pauses_of ps.now) c t f.gate l cells p.now (c + t + 3) (t + 1) f.gate)
    (sym z) (λ r e i j o. record {
      reach = r;
      below = i;
      part = trap_on (pauses_of ps.now) a p.now c t r e;
    })))))

-- the body of a `suspend`
pub suspend_body : (f : Part) (y a : _) (p : Bor Statement) (u : ℕ) (h : Status) (l : Env) (cells : List Status)
    → f.statement.now ≡ Suspend' y a p.now → u ≡ f.place.traps → IsGateInside f y l h
    → IsPartOf f (gated (body_part f p 3 u) h) l cells
suspend_body f y a p u h l cells z w gate =
    let c = f.place.cell in
    let t = f.place.traps in
    let room = room_by f (Suspend' y a p.now) (c + t + 3 + sheet_size f.place.main p.now t) z (omega arith) in
    subst (λ (n : ℕ). IsPartOf f (gated (body_part f p 3 n) h) l cells) (sym w)
    (by_pauses f _
    (λ none. step_begun f (gated (body_part f p 3 t) h) l cells none none (omega arith) room
    (subst (λ (s : Statement). IsBegunIn f.place.main s c t f.gate l cells f.place.main p.now (c + t + 3) t h) (sym z)
    (λ r e i j o. record {
      reach = r;
      below = subst (λ (x : Status). IsBelow x r) (sym (subst (λ (o : Option (Bor PauseSet)). IfNone o (h ≡ f.gate))
          none gate.begun)) i;
      part = suspend_part f.place.main y a p.now c t r e;
    })))
    (λ ps some. step_on f (gated (body_part f p 3 t) h) ps l cells some some (omega arith) room
    (subst (λ (s : Statement). GoesOnIn s (pauses_of ps.now) c t f.gate l cells p.now (c + t + 3) t h) (sym z)
    (λ r e i j o. record {
      reach = and_status r (opposite (status_of e (query_of y)));
      below = other_below y f.gate h r l e (when _ some gate.on) i j;
      part = suspend_on (pauses_of ps.now) y a p.now c t r e;
    }))))

-- a side of a `||`, where it is begun or goes on
pub side_step : (f : Part) (xs : List Extent) (s : Statement) (side : Side) (l : Env) (cells : List Status)
    → f.statement.now ≡ s → IsOnMain f → IsOneOf xs f.place s side
    → IfSome f.pauses (λ x. is_live side.statement.now (pauses_of x.now) ≡ true)
    → IsPartOf f (side_part f side) l cells
side_step f xs s side l cells z main one live =
    let c = f.place.cell in
    let t = f.place.traps in
    let room = room_by f s (side.cell + sheet_size f.place.main side.statement.now t) z one.within in
    by_pauses f _
    (λ none. step_begun f (side_part f side) l cells none none one.from room
    (subst (λ (y : Statement). IsBegunIn f.place.main y c t f.gate l cells f.place.main side.statement.now side.cell t
    f.gate) (sym z) (λ r e i j o. record {
      reach = r;
      below = i;
      part = one.begun r e;
    })))
    (λ ps some. step_on f (side_part f side) ps l cells some some one.from room
    (subst (λ (y : Statement). GoesOnIn y (pauses_of ps.now) c t f.gate l cells side.statement.now side.cell t f.gate)
    (sym z) (λ r e i j o. record {
      reach = r;
      below = i;
      part = (one.on (pauses_of ps.now) (when _ some main)).part r e (when _ some live);
    })))

-- where it is over
pub side_over : (f : Part) (xs : List Extent) (s : Statement) (side : Side) (ps : Bor PauseSet) (l : Env)
    (cells : List Status) → f.statement.now ≡ s → f.pauses ≡ Some ps → f.place.main ≡ true
    → IsOneOf xs f.place s side → is_live side.statement.now (pauses_of ps.now) ≡ false
    → IsPartOf f (begun_by (side_part f side) Absent) l cells
side_over f xs s side ps l cells z some main one over =
    let c = f.place.cell in
    let t = f.place.traps in
    let room = room_by f s (side.cell + sheet_size f.place.main side.statement.now t) z one.within in
    step_begun_on f (begun_by (side_part f side) Absent) ps l cells some refl one.from room
    (subst (λ (y : Statement). IsBegunOn y (pauses_of ps.now) c t f.gate l cells f.place.main side.statement.now
    side.cell t Absent) (sym z)
    (subst (λ (y : Bool). IsBegunOn s (pauses_of ps.now) c t f.gate l cells y side.statement.now side.cell t Absent)
    (sym main) (λ r e i j o. record {
      reach = Absent;
      below = inr refl;
      part = (one.on (pauses_of ps.now) main).over r e over;
    })))

-- by names for its place
pub again_is : (f body : Part) (p : Bor Statement) (past : ℕ) (h : Status) → body ≡ first_part f p
    → past ≡ body.place.cell + sheet_size body.place.main p.now body.place.traps
    → record {
      statement = body.statement;
      place = record {
        number = body.place.number;
        main = false;
        direction = body.place.direction;
        cell = past;
        traps = body.place.traps;
      };
      gate = h;
      pauses = None;
    } ≡ again_part f p h
again_is f body p past h z w = rw w (ap (λ (g : Part). renamed g) z)
  where
    renamed : Part → Part
    renamed g = record {
      statement = g.statement;
      place = record {
        number = g.place.number;
        main = false;
        direction = g.place.direction;
        cell = g.place.cell + sheet_size g.place.main p.now g.place.traps;
        traps = g.place.traps;
      };
      gate = h;
      pauses = None;
    }

-- where it is known whether it is begun
pub by_none : (f : Part) (P : Type 0) → is_some f.pauses ≡ false → (f.pauses ≡ None → P) → P
by_none f P h begun = go f.pauses refl h
  where
    go : (o : Option (Bor PauseSet)) → f.pauses ≡ o → is_some o ≡ false → P
    go None z k = begun z
    go (Some ps) z k = let w : true ≡ false = k in cc

pub by_some : (f : Part) (P : Type 0) → is_some f.pauses ≡ true → ((ps : Bor PauseSet) → f.pauses ≡ Some ps → P) → P
by_some f P h on = go f.pauses refl h
  where
    go : (o : Option (Bor PauseSet)) → f.pauses ≡ o → is_some o ≡ true → P
    go None z k = let w : false ≡ true = k in cc
    go (Some ps) z k = on ps z

-- a walk over a side
pub side_walks : (q : Question) (f : Part) (xs : List Extent) (s : Statement) (side : Side) (g : Part) (l m : Env)
    (old new : List Status) → f.statement.now ≡ s → IsOnMain f → IsOneOf xs f.place s side → g ≡ side_part f side
    → SideWalks q g l m old new → Walks q f l m old new
side_walks q f xs s side g l m old new z main one is walked =
    let h = subst (λ (x : Part). SideWalks q x l m old new) is walked in
    let live : IfSome f.pauses (λ x. is_live side.statement.now (pauses_of x.now) ≡ true) → Walks q f l m old new
    = λ k. part_walks q f (side_part f side) (side_part f side) l m old new refl
    (side_step f xs s side l old z main one k) (h.on k) in
    by_pauses f _
    (λ none. live (subst (λ (o : Option (Bor PauseSet)). IfSome o (λ x. is_live side.statement.now (pauses_of x.now)
    ≡ true)) (sym none) tt))
    (λ ps some. by_bool (is_live side.statement.now (pauses_of ps.now)) _
    (λ on. live (subst (λ (o : Option (Bor PauseSet)). IfSome o (λ x. is_live side.statement.now (pauses_of x.now)
    ≡ true)) (sym some) on))
    (λ off. part_walks q f (begun_by (side_part f side) Absent) (begun_by (side_part f side) Absent) l m old new refl
    (side_over f xs s side ps l old z some (when _ some main) one off) (when _ some h.off off)))
  where
    by_bool : (b : Bool) (P : Type 0) → (b ≡ true → P) → (b ≡ false → P) → P
    by_bool true P h k = h refl
    by_bool false P h k = k refl
