-- A node whose go cell is learnt, whose parts are swept, and whose codes are told, is swept.
use Rattle.std.specs.Prelude.{◌≡◌, ◌+◌, ℕ, Bool, List}
use Rattle.std.proofs.Common.{refl, ap, sym, ◌∙◌, arith, subst}
use Rattle.est_kernel.specs.Codes.{Codes}
use Rattle.est_kernel.specs.CodeViews.{codes_of}
use Rattle.est_kernel.specs.declared.statement.Statement.{Statement}
use Rattle.est_kernel.specs.declared.statement.Statement.TheVariants.{Nothing, Pause, Emit, Present', Suspend', Seq'}
use Rattle.est_kernel.specs.declared.statement.Statement.TheVariants.{Loop', Par', Trap', Exit, Local' as Binder'}
use Rattle.est_meaning.specs.Environments.{verdict}
use Rattle.est_meaning.specs.declared.status.Status.{Status}
use Rattle.est_cells.specs.Gates.{ends}
use Rattle.est_cells.specs.Tables.{Cells, Parts, Sheet, sheet_size, emits, is_sure, is_possible}
use Rattle.est_net.specs.Cells.{cell_at, learned, Learns}
use Rattle.est_net.specs.Layout.{sure_codes, possible_codes, parts_in, sheet_in}
use Rattle.est_rounds.specs.declared.acts.MustCan.{MustCan}
use Rattle.est_micro.specs.Sweeps.{entered, left, one_way, sure_told, may_told}
use Rattle.est_micro.specs.declared.direction.Direction.{Direction}
use Rattle.est_micro.specs.declared.direction.Direction.TheVariants.{Forwards, Backwards}
use Rattle.est_micro.specs.Inner.Views.{AreTold, Changes, IsJudged, IsFinished, IsSwept, node_swept}
use Rattle.est_micro.specs.declared.cells.Swept.{Swept}
use Rattle.est_micro.proofs.Frames.{Same, size_least, sure_same, possible_same, same_node_of, parts_same, sheet_same}
use Rattle.est_micro.proofs.Frames.{changes_then, learn_changes}

-- what is told of the codes changes no emission
emits_left : (pick : Status → Bool) (main : Bool) (s : Statement) (U : Sheet main s) (y : Cells)
    → emits pick main s (left U y) ≡ emits pick main s U
emits_left pick main Nothing U y = refl
emits_left pick main (Pause n) U y = refl
emits_left pick main (Emit s) U y = refl
emits_left pick main (Exit k) U y = refl
emits_left pick main (Present' t a p b q) U y = refl
emits_left pick main (Suspend' t a p) U y = refl
emits_left pick main (Seq' a p b q) U y = refl
emits_left pick main (Loop' a p) U y = refl
emits_left pick main (Par' a p b q) U y = refl
emits_left pick main (Trap' a p) U y = refl
emits_left pick main (Binder' s a p) U y = refl

-- what is judged of a sheet
abbrev pub JudgedOf : (main : Bool) (s : Statement) → Sheet main s → MustCan → Type 0
JudgedOf main s T j = IsJudged T.cells.must T.cells.may (emits is_sure main s T) (emits is_possible main s T) j

-- what is judged of a node that is left: its gates, and what its parts emit
abbrev pub Owned : (main : Bool) (s : Statement) → (Sheet main s → Cells) → Sheet main s → MustCan → Type 0
Owned main s G T j = IsJudged (G T).must (G T).may (emits is_sure main s T) (emits is_possible main s T) j

-- what is judged by the gates is told
pub record GivenBy (y : Cells) (own : MustCan) : Type 0 where
  pub must : codes_of own.must.codes ≡ y.must
  pub can : codes_of own.can.codes ≡ y.may

-- a node whose go cell is learnt, and whose parts are P of what they were, before its codes are told and after
pub record NodeTold (main : Bool) (s : Statement) (c t : ℕ) (P : Status → Parts main s → Parts main s)
    (G : Sheet main s → Cells) (gate : Status) (old m2 new : List Status) : Type 0 where
  pub left_is : let S = sheet_in (cell_at m2) main s c t in sheet_in (cell_at new) main s c t ≡ left S (G S)
  pub sheet : sheet_in (cell_at new) main s c t ≡ node_swept main s P G gate (sheet_in (cell_at old) main s c t)
  pub changes : Changes c (c + sheet_size main s t) old new

pub node_told : (main : Bool) (s : Statement) (c t : ℕ) (P : Status → Parts main s → Parts main s)
    (G : Sheet main s → Cells) (gate : Status) (old m0 m2 new : List Status) (own : MustCan)
    → Learns c gate old m0
    → parts_in (cell_at m2) main s c t ≡ P (cell_at m0 c) (parts_in (cell_at old) main s c t)
    → Changes (c + t + 3) (c + sheet_size main s t) m0 m2
    → GivenBy (G (sheet_in (cell_at m2) main s c t)) own → AreTold (c + 1) (t + 2) own m2 new
    → NodeTold main s c t P G gate old m2 new
node_told main s c t P G gate old m0 m2 new own learns parts changes given told =
    let o = size_least main s t in
    let f0 = cell_at old in
    let f1 = cell_at m0 in
    let f2 = cell_at m2 in
    let f3 = cell_at new in
    let S0 = sheet_in f0 main s c t in
    let S2 = sheet_in f2 main s c t in
    let h = learned (f0 c) gate in
    let U = entered h S0 (P h S0.parts) in
    let kept : Same (c + 1) (c + 1 + (t + 2)) f2 f0 = λ i l u. changes.before i (omega arith)
    ∙ learns.later i (omega arith) in
    let go : f2 c ≡ h = changes.before c (omega arith) ∙ learns.here in
    let same : S2 ≡ U = same_node_of (f2 c) h _ _ _ _ _ _ go (sure_same f2 f0 (c + 1) (t + 2) kept)
    (possible_same f2 f0 (c + 1) (t + 2) kept)
    (parts ∙ ap (λ (z : Status). P z (parts_in f0 main s c t)) learns.here) in
    let y = G S2 in
    let told_sure : sure_codes f3 (c + 1) (t + 2) ≡ sure_told S2.cells.must S2.cells.may y.must y.may
    = told.sure ∙ (ap (λ (z : Codes). sure_told S2.cells.must S2.cells.may z (codes_of own.can.codes)) given.must
    ∙ ap (λ (z : Codes). sure_told S2.cells.must S2.cells.may y.must z) given.can) in
    let told_may : possible_codes f3 (c + 1) (t + 2) ≡ may_told S2.cells.must S2.cells.may y.must y.may
    = told.may ∙ (ap (λ (z : Codes). may_told S2.cells.must S2.cells.may z (codes_of own.can.codes)) given.must
    ∙ ap (λ (z : Codes). may_told S2.cells.must S2.cells.may y.must z) given.can) in
    let sheet3 : sheet_in f3 main s c t ≡ left S2 y
    = same_node_of (f3 c) (f2 c) _ _ _ _ _ _ (told.changes.before c (omega arith)) told_sure told_may
    (parts_same f3 f2 main s c t (λ i l u. told.changes.after i (omega arith))) in
    record {
      left_is = sheet3;
      sheet = sheet3 ∙ ap (λ (z : Sheet main s). left z (G z)) same;
      changes = changes_then c (c + 1) (c + 1) (c + sheet_size main s t) c (c + sheet_size main s t) old m0 new
          (omega arith) (omega arith) (omega arith) (omega arith) (learn_changes c gate old m0 learns)
          (changes_then (c + t + 3) (c + sheet_size main s t) (c + 1) (c + 1 + (t + 2)) (c + 1)
          (c + sheet_size main s t) m0 m2 new
          (omega arith) (omega arith) (omega arith) (omega arith) changes told.changes);
    }

pub node_is_swept : (main : Bool) (s : Statement) (c t : ℕ) (P : Status → Parts main s → Parts main s)
    (G : Sheet main s → Cells)
    (gate : Status) (old m0 m2 new : List Status) (own : MustCan) (past : ℕ) (r : Swept)
    → Learns c gate old m0
    → parts_in (cell_at m2) main s c t ≡ P (cell_at m0 c) (parts_in (cell_at old) main s c t)
    → Changes (c + t + 3) (c + sheet_size main s t) m0 m2
    → Owned main s G (sheet_in (cell_at m2) main s c t) own
    → IsFinished c t own past m2 new r
    → past ≡ c + sheet_size main s t
    → IsSwept main s c t (node_swept main s P G gate) old new r
node_is_swept main s c t P G gate old m0 m2 new own past r learns parts changes owned is_left after =
    let S2 = sheet_in (cell_at m2) main s c t in
    let h = node_told main s c t P G gate old m0 m2 new own learns parts changes
    (record { must = owned.must; can = owned.can }) is_left.told in
    record {
      sheet = h.sheet;
      changes = h.changes;
      found = record {
        must = is_left.found.must;
        can = is_left.found.can;
        emits = is_left.found.emits ∙ (owned.emits ∙ (sym (emits_left is_sure main s S2 (G S2))
            ∙ ap (λ (z : Sheet main s). emits is_sure main s z) (sym h.left_is)));
        may_emit = is_left.found.may_emit ∙ (owned.may_emit ∙ (sym (emits_left is_possible main s S2 (G S2))
            ∙ ap (λ (z : Sheet main s). emits is_possible main s z) (sym h.left_is)));
      };
      past = is_left.past_is ∙ after;
    }

-- one part
pub record OneSwept (main : Bool) (p : Statement) (d t : ℕ) (F : Sheet main p → Sheet main p) (old m0 m1 : List Status)
    (r : Swept)
    : Type 0 where
  pub sheet : sheet_in (cell_at m1) main p d t ≡ F (sheet_in (cell_at old) main p d t)
  pub found : JudgedOf main p (sheet_in (cell_at m1) main p d t) r.judged
  pub changes : Changes d (d + sheet_size main p t) m0 m1
  pub past : r.past ≡ d + sheet_size main p t

pub one_swept : (main : Bool) (p : Statement) (d t : ℕ) (F : Sheet main p → Sheet main p) (old m0 m1 : List Status)
    (r : Swept)
    → Same d (d + sheet_size main p t) (cell_at m0) (cell_at old) → IsSwept main p d t F m0 m1 r
    → OneSwept main p d t F old m0 m1 r
one_swept main p d t F old m0 m1 r h x = record {
  sheet = x.sheet ∙ ap F (sheet_same (cell_at m0) (cell_at old) main p d t h);
  found = x.found;
  changes = x.changes;
  past = x.past;
}

-- two parts, the second after the first
pub record TwoSwept (mp mq : Bool) (p q : Statement) (d t : ℕ) (F : Sheet mp p → Sheet mp p)
    (H : Sheet mq q → Sheet mq q)
    (old m0 m2 : List Status) (r1 r2 : Swept) : Type 0 where
  pub first : sheet_in (cell_at m2) mp p d t ≡ F (sheet_in (cell_at old) mp p d t)
  pub second : sheet_in (cell_at m2) mq q (d + sheet_size mp p t) t
      ≡ H (sheet_in (cell_at old) mq q (d + sheet_size mp p t) t)
  pub first_found : JudgedOf mp p (sheet_in (cell_at m2) mp p d t) r1.judged
  pub second_found : JudgedOf mq q (sheet_in (cell_at m2) mq q (d + sheet_size mp p t) t) r2.judged
  pub changes : Changes d (d + sheet_size mp p t + sheet_size mq q t) m0 m2
  pub past : r2.past ≡ d + sheet_size mp p t + sheet_size mq q t

pub two_swept : (mp mq : Bool) (p q : Statement) (d t : ℕ) (F : Sheet mp p → Sheet mp p) (H : Sheet mq q → Sheet mq q)
    (old m0 m1 m2 : List Status) (r1 r2 : Swept)
    → Same d (d + sheet_size mp p t + sheet_size mq q t) (cell_at m0) (cell_at old)
    → IsSwept mp p d t F m0 m1 r1 → IsSwept mq q r1.past t H m1 m2 r2 → TwoSwept mp mq p q d t F H old m0 m2 r1 r2
two_swept mp mq p q d t F H old m0 m1 m2 r1 r2 h x y' =
    let e = d + sheet_size mp p t in
    let y : IsSwept mq q e t H m1 m2 r2 = subst (λ (z : ℕ). IsSwept mq q z t H m1 m2 r2) x.past y' in
    let first : sheet_in (cell_at m2) mp p d t ≡ sheet_in (cell_at m1) mp p d t
    = sheet_same (cell_at m2) (cell_at m1) mp p d t (λ i l u. y.changes.before i u) in
    let second : sheet_in (cell_at m1) mq q e t ≡ sheet_in (cell_at old) mq q e t
    = sheet_same (cell_at m1) (cell_at old) mq q e t (λ i l u. x.changes.after i l ∙ h i (omega arith) u) in
    record {
      first = first ∙ (x.sheet ∙ ap F (sheet_same (cell_at m0) (cell_at old) mp p d t (λ i l u. h i l (omega arith))));
      second = y.sheet ∙ ap H second;
      first_found = subst (λ (z : Sheet mp p). JudgedOf mp p z r1.judged) (sym first) x.found;
      second_found = y.found;
      changes = changes_then d e e (e + sheet_size mq q t) d (e + sheet_size mq q t) m0 m1 m2
          (omega arith) (omega arith) (omega arith) (omega arith) x.changes y.changes;
      past = y.past;
    }

-- two parts, the second swept before the first
pub two_swept_back : (mp mq : Bool) (p q : Statement) (d t k : ℕ) (F : Sheet mp p → Sheet mp p)
    (H : Sheet mq q → Sheet mq q) (old m0 m1 m2 : List Status) (r1 r2 : Swept)
    → k ≡ d + sheet_size mp p t
    → Same d (d + sheet_size mp p t + sheet_size mq q t) (cell_at m0) (cell_at old)
    → IsSwept mq q k t H m0 m1 r2 → IsSwept mp p d t F m1 m2 r1 → TwoSwept mp mq p q d t F H old m0 m2 r1 r2
two_swept_back mp mq p q d t k F H old m0 m1 m2 r1 r2 k_is h x' y =
    let e = d + sheet_size mp p t in
    let x : IsSwept mq q e t H m0 m1 r2 = subst (λ (z : ℕ). IsSwept mq q z t H m0 m1 r2) k_is x' in
    let second : sheet_in (cell_at m2) mq q e t ≡ sheet_in (cell_at m1) mq q e t
    = sheet_same (cell_at m2) (cell_at m1) mq q e t (λ i l u. y.changes.after i l) in
    let first : sheet_in (cell_at m1) mp p d t ≡ sheet_in (cell_at old) mp p d t
    = sheet_same (cell_at m1) (cell_at old) mp p d t (λ i l u. x.changes.before i u ∙ h i l (omega arith)) in
    record {
      first = y.sheet ∙ ap F first;
      second = second
          ∙ (x.sheet ∙ ap H (sheet_same (cell_at m0) (cell_at old) mq q e t (λ i l u. h i (omega arith) u)));
      first_found = y.found;
      second_found = subst (λ (z : Sheet mq q). JudgedOf mq q z r2.judged) (sym second) x.found;
      changes = changes_then e (e + sheet_size mq q t) d e d (e + sheet_size mq q t) m0 m1 m2
          (omega arith) (omega arith) (omega arith) (omega arith) x.changes y.changes;
      past = x.past;
    }

-- what comes of a sweep that goes this way
pub is_forwards : {A : Type 0} (way : Direction) (x y z : A) → way ≡ Forwards → z ≡ x → z ≡ one_way way x y
is_forwards Forwards x y z h e = e
is_forwards Backwards x y z h e = let c : Backwards ≡ Forwards = h in cc

pub is_backwards : {A : Type 0} (way : Direction) (x y z : A) → way ≡ Backwards → z ≡ y → z ≡ one_way way x y
is_backwards Backwards x y z h e = e
is_backwards Forwards x y z h e = let c : Forwards ≡ Backwards = h in cc

-- whether a part ends, by what is judged of it
pub ends_found : (main : Bool) (p : Statement) (T : Sheet main p) (v : Status) (j : MustCan) → JudgedOf main p T j
    → v ≡ verdict (codes_of j.must.codes 0) (codes_of j.can.codes 0) → v ≡ ends T.cells
ends_found main p T v j h e = e ∙ (ap (λ (z : Codes). verdict (z 0) (codes_of j.can.codes 0)) h.must
    ∙ ap (λ (z : Codes). verdict (T.cells.must 0) (z 0)) h.can)
