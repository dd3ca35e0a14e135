-- A `||` whose sides were swept is closed.
use Rattle.std.specs.Prelude.{◌≡◌, ◌+◌, ℕ, Bool, List}
use Rattle.std.proofs.Common.{refl, sym, ◌∙◌, arith, subst}
use Rattle.est_kernel.specs.CodeViews.{codes_of}
use Rattle.est_kernel.specs.Codes.{Codes, max_codes}
use Rattle.est_kernel.specs.declared.statement.Statement.{Statement}
use Rattle.est_kernel.specs.declared.statement.Statement.TheVariants.{Par'}
use Rattle.est_meaning.proofs.KnowledgeIsMonotone.{less_same}
use Rattle.est_meaning.specs.Environments.{Env}
use Rattle.est_meaning.specs.Knowledge.{IsBelow}
use Rattle.est_meaning.specs.Signals.{no_signals}
use Rattle.est_meaning.specs.declared.status.Status.{Status}
use Rattle.est_cells.specs.Gates.{gates}
use Rattle.est_cells.specs.Meaning.{begun}
use Rattle.est_cells.specs.Tables.{Below, Parts, Sheet, sheet_size}
use Rattle.est_net.specs.Cells.{Learns, cell_at}
use Rattle.est_net.specs.Layout.{node_in, parts_in, possible_codes, sheet_in, sure_codes}
use Rattle.est_rounds.specs.declared.acts.MustCan.{MustCan}
use Rattle.est_micro.specs.Inner.Closing.{Closes}
use Rattle.est_micro.specs.Inner.Views.{AreTold, IsJudged, IsPaired}
use Rattle.est_micro.specs.declared.cells.CodesRead.{CodesRead}
use Rattle.est_micro.proofs.BegunNodes.{nothing_changes}
use Rattle.est_micro.proofs.Frames.{changes_then, node_same, parts_same, possible_same, sure_same}
use Rattle.est_micro.proofs.Nodes.{NodeTold, node_told}
use Rattle.est_micro.proofs.Passing.{before_it}
use Rattle.est_micro.proofs.SweepsAreSound.{sweep_sound}

-- what the code cells of a statement say
pub record CodesAt (c t : ℕ) (cells : List Status) (read : CodesRead) : Type 0 where
  pub sure : codes_of read.sure ≡ sure_codes (cell_at cells) (c + 1) (t + 2)
  pub possible : codes_of read.possible ≡ possible_codes (cell_at cells) (c + 1) (t + 2)

-- what is judged of two sides that say so
pub record Beside (first second : CodesRead) (own : MustCan) : Type 0 where
  pub must : codes_of own.must.codes ≡ max_codes (codes_of first.sure) (codes_of second.sure)
  pub can : codes_of own.can.codes ≡ max_codes (codes_of first.possible) (codes_of second.possible)

both_same : {x y u v : Codes} → x ≡ u → y ≡ v → max_codes x y ≡ max_codes u v
both_same h w = rw (h, w) refl

-- as of two sides that are judged by their codes alone
pub beside_of : {first second : CodesRead} {one two own : MustCan}
    → IsJudged (codes_of first.sure) (codes_of first.possible) no_signals no_signals one
    → IsJudged (codes_of second.sure) (codes_of second.possible) no_signals no_signals two
    → IsPaired max_codes one two own → Beside first second own
beside_of one two pair = record {
  must = pair.must ∙ both_same one.must two.must;
  can = pair.can ∙ both_same one.can two.can;
}

-- the second side is closed
second_closed : (main : Bool) (a : _) (p : Statement) (b : _) (q : Statement) (c t d : ℕ) (g : Status)
    (old new : List Status) → d ≡ c + t + 3 + sheet_size main p t → Closes main q d t g old new
    → (r : Status) (e : Env) → IsBelow g r
    → Below main (Par' a p b q) (sheet_in (cell_at old) main (Par' a p b q) c t) (begun main (Par' a p b q) r e)
    → Below main (Par' a p b q) (sheet_in (cell_at new) main (Par' a p b q) c t) (begun main (Par' a p b q) r e)
second_closed main a p b q c t d g old new z k' r e i o =
    let s = Par' a p b q in
    let k : Closes main q (c + t + 3 + sheet_size main p t) t g old new
    = subst (λ (n : ℕ). Closes main q n t g old new) z k' in
    let x = parts_in (cell_at new) main s c t in
    let same : sheet_in (cell_at new) main s c t ≡ node_in (cell_at old) c t x
    = node_same (cell_at new) (cell_at old) c t x x (λ j l u. k.changes.before j (omega arith)) refl in
    subst (λ (y : Sheet main s). Below main s y (begun main s r e)) (sym same) (record {
      cells = o.cells;
      parts = record {
        first = before_it main p (c + t + 3) t _ _ old new _ k.changes (omega arith) o.parts.first;
        second = k.sound r e i o.parts.second;
      };
    })

pub par_closed : (main : Bool) (a : _) (p : Statement) (b : _) (q : Statement) (c t d : ℕ) (g : Status)
    (old mid m0 new : List Status) (first second : CodesRead) (own : MustCan)
    → d ≡ c + t + 3 + sheet_size main p t → Closes main q d t g old mid → CodesAt (c + t + 3) t mid first
    → CodesAt d t mid second → Learns c g mid m0 → Beside first second own → AreTold (c + 1) (t + 2) own m0 new
    → Closes main (Par' a p b q) c t g old new
par_closed main a p b q c t d g old mid m0 new first second own z k one two' learns pair told =
    let s = Par' a p b q in
    let d' = c + t + 3 + sheet_size main p t in
    let two : CodesAt d' t mid second = subst (λ (n : ℕ). CodesAt n t mid second) z two' in
    let f0 = cell_at m0 in
    let f = cell_at mid in
    let keep : Parts main s → Parts main s = λ x. x in
    let node : (e : Env) → NodeTold main s c t (λ h x. x) (λ U. (gates main s g e U).cells) g mid m0 new
    = λ e. node_told main s c t (λ h x. x) (λ U. (gates main s g e U).cells) g mid m0 m0 new own learns
    (parts_same f0 f main s c t (λ i l u. learns.later i (omega arith))) (nothing_changes _ _ m0)
    (record {
      must = pair.must ∙ (both_same (one.sure ∙ sym (sure_same f0 f _ _ (λ i l u. learns.later i (omega arith))))
          (two.sure ∙ sym (sure_same f0 f _ _ (λ i l u. learns.later i (omega arith)))));
      can = pair.can
          ∙ (both_same (one.possible ∙ sym (possible_same f0 f _ _ (λ i l u. learns.later i (omega arith))))
          (two.possible ∙ sym (possible_same f0 f _ _ (λ i l u. learns.later i (omega arith)))));
    }) told in
    record {
      changes = changes_then d (d + sheet_size main q t) c (c + sheet_size main s t) c (c + sheet_size main s t) old
          mid new (omega (arith, z)) (omega arith) (omega (arith, z)) (omega arith) k.changes
          (node (λ n. cell_at mid 0)).changes;
      sound = λ r e i o.
          let o1 = second_closed main a p b q c t d g old mid z k r e i o in
          subst (λ (y : Sheet main s). Below main s y (begun main s r e)) (sym (node e).sheet)
          (sweep_sound main s (λ h x. x) r g e e (sheet_in f main s c t) i (less_same e) o1 (λ h j. o1.parts));
    }
