-- Cells that are told what is as the meaning says stay as it says, and if they don't change, there was nothing to tell.
use Rattle.std.specs.Prelude.{◌≡◌, Bool, true, false}
use Rattle.std.proofs.Common.{refl, sym, inl, inr, subst, ap, ◌∙◌}
use Rattle.est_meaning.specs.Knowledge.{IsBelow}
use Rattle.est_meaning.specs.Environments.{verdict}
use Rattle.est_meaning.specs.declared.status.Status.{Status}
use Rattle.est_meaning.specs.declared.status.Status.TheVariants.{Present, Absent, Unknown}
use Rattle.est_meaning.proofs.KnowledgeIsMonotone.{no_true}
use Rattle.est_cells.specs.Tables.{Cells, Node, CellsBelow, is_sure, is_possible}
use Rattle.est_net.specs.Cells.{learned}
use Rattle.est_micro.specs.Sweeps.{sure_told, may_told, entered, one_way}
use Rattle.est_micro.specs.declared.direction.Direction.{Direction}
use Rattle.est_micro.specs.declared.direction.Direction.TheVariants.{Forwards, Backwards}

pub learned_below : (u v w : Status) → IsBelow u w → IsBelow v w → IsBelow (learned u v) w
learned_below Present v w b c = b
learned_below Absent v w b c = b
learned_below Unknown v w b c = c

-- where nothing was learnt, there was nothing to learn
pub nothing_learnt : (u v w : Status) → IsBelow u w → IsBelow v w → learned u v ≡ u → IsBelow v u
nothing_learnt Present v w b c h = elim b [
  | inl z ↦ cc
  | inr z ↦ subst (λ (x : Status). IsBelow v x) (sym z) c
]
nothing_learnt Absent v w b c h = elim b [
  | inl z ↦ cc
  | inr z ↦ subst (λ (x : Status). IsBelow v x) (sym z) c
]
nothing_learnt Unknown v w b c h = inl h

sure_of : (a b c d m : Bool) → (a ≡ true → m ≡ true) → (c ≡ true → m ≡ true)
    → is_sure (learned (verdict a b) (verdict c d)) ≡ true → m ≡ true
sure_of true b c d m f g h = f refl
sure_of false true true d m f g h = g refl
sure_of false true false true m f g h = no_true h
sure_of false true false false m f g h = no_true h
sure_of false false c d m f g h = no_true h

may_of : (a b c d : Bool) → b ≡ true → d ≡ true → is_possible (learned (verdict a b) (verdict c d)) ≡ true
may_of true b c d i j = refl
may_of false true true d i j = refl
may_of false true false true i j = refl
may_of false true false false i j = j
may_of false false c d i j = no_true i

pub told_below : (x y z : Cells) (h : Status) → IsBelow h z.go → CellsBelow x z → CellsBelow y z
    → CellsBelow
    (record { go = h; must = sure_told x.must x.may y.must y.may; may = may_told x.must x.may y.must y.may }) z
unfolding sure_told may_told
told_below x y z h b c d = record {
  go = b;
  must = λ k i. sure_of (x.must k) (x.may k) (y.must k) (y.may k) (z.must k) (c.must k) (d.must k) i;
  may = λ k i. may_of (x.must k) (x.may k) (y.must k) (y.may k) (c.may k i) (d.may k i);
  whole = c.whole;
}

sure_quiet : (a b c d : Bool) → b ≡ true → c ≡ true → is_sure (learned (verdict a b) (verdict c d)) ≡ a → a ≡ true
sure_quiet true b c d i j h = refl
sure_quiet false true true d i j h = sym h
sure_quiet false true false d i j h = no_true j
sure_quiet false false c d i j h = no_true i

may_quiet : (a b c d : Bool) → b ≡ true → (a ≡ true → d ≡ true) → (c ≡ true → d ≡ true)
    → is_possible (learned (verdict a b) (verdict c d)) ≡ b → d ≡ true
may_quiet true b c d i f g h = f refl
may_quiet false true true d i f g h = g refl
may_quiet false true false true i f g h = refl
may_quiet false true false false i f g h = h
may_quiet false false c d i f g h = no_true i

-- where the cells don't change, there was nothing to tell
pub told_quiet : (x y z : Cells) → IsBelow y.go x.go → sure_told x.must x.may y.must y.may ≡ x.must
    → may_told x.must x.may y.must y.may ≡ x.may → CellsBelow x z
    → CellsBelow y z → CellsBelow y x
unfolding sure_told may_told
told_quiet x y z b e f c d = record {
  go = b;
  must = λ k i. sure_quiet (x.must k) (x.may k) (y.must k) (y.may k) (c.may k (c.whole k (d.must k i))) i
      (ap (λ g. g k) e);
  may = λ k i. may_quiet (x.must k) (x.may k) (y.must k) (y.may k) i (λ j. d.may k (c.whole k (c.must k j)))
      (λ j. d.may k (c.whole k (d.must k j))) (ap (λ g. g k) f);
  whole = λ k i. c.may k (c.whole k (c.must k i));
}

pub same_node : {P : Type 0} (T : Node P) (h : Status) (x : P) → h ≡ T.cells.go → x ≡ T.parts → entered h T x ≡ T
same_node T h x e f = ap (λ (z : Status). entered z T x) e ∙ ap (λ z. entered T.cells.go T z) f

-- what holds of a sweep forwards and of one that goes backwards
pub either_way : {A : Type 0} (R : A → Type 0) (d : Direction) (x y : A) → R x → R y → R (one_way d x y)
either_way R Forwards x y h k = h
either_way R Backwards x y h k = k
