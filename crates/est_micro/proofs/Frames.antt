-- What stays where only some cells change.
use Rattle.std.specs.Prelude.{◌≡◌, ◌<◌, ◌≤◌, ◌+◌, ℕ, Bool, true, false, cond, ltb, ◌&&◌, List}
use Rattle.std.proofs.Common.{refl, ap, ◌∙◌, arith}
use Rattle.std.proofs.lemmas.Bool.{ltb-true}
use mathlib.Core.Path.{fun_ext}
use Rattle.est_kernel.specs.Codes.{Codes}
use Rattle.est_kernel.specs.declared.statement.Statement.{Statement}
use Rattle.est_kernel.specs.declared.statement.Statement.TheVariants.{Nothing, Pause, Emit, Present', Suspend', Seq'}
use Rattle.est_kernel.specs.declared.statement.Statement.TheVariants.{Loop', Par', Trap', Exit, Local' as Binder'}
use Rattle.est_meaning.specs.declared.status.Status.{Status}
use Rattle.est_cells.proofs.ValuesAreMeant.{two}
use Rattle.est_cells.specs.Gates.{node}
use Rattle.est_cells.specs.Tables.{Scoped, sheet_size, make_again, is_sure, is_possible}
use Rattle.est_net.specs.Cells.{Learns}
use Rattle.est_net.specs.Layout.{sure_codes, possible_codes, node_in, parts_in, sheet_in}
use Rattle.est_micro.specs.Inner.Views.{Changes}

-- the cells from place lo on and before place hi are the same
abbrev pub Same : (lo hi : ℕ) (f g : ℕ → Status) → Type 0
Same lo hi f g = (i : ℕ) → lo ≤ i → i < hi → f i ≡ g i

pub size_least : (main : Bool) (s : Statement) (t : ℕ) → t + 3 ≤ sheet_size main s t
size_least main Nothing t = omega arith
size_least main (Pause n) t = omega arith
size_least main (Emit s) t = omega arith
size_least main (Exit k) t = omega arith
size_least main (Present' x a p b q) t = omega arith
size_least main (Suspend' x a p) t = omega arith
size_least main (Seq' a p b q) t = omega arith
size_least main (Loop' a p) t = omega arith
size_least main (Par' a p b q) t = omega arith
size_least main (Trap' a p) t = omega arith
size_least main (Binder' s a p) t = omega arith

pub and_same : (b x y : Bool) → (b ≡ true → x ≡ y) → (b && x) ≡ (b && y)
and_same true x y h = h refl
and_same false x y h = refl

pub sure_same : (f g : ℕ → Status) (c n : ℕ) → Same c (c + n) f g → sure_codes f c n ≡ sure_codes g c n
unfolding sure_codes
sure_same f g c n h = fun_ext (λ k. and_same (ltb k n) (is_sure (f (c + k))) (is_sure (g (c + k)))
    (λ b. ap is_sure (h (c + k) (omega arith) (let l : k < n = ltb-true k n b in omega arith))))

pub possible_same : (f g : ℕ → Status) (c n : ℕ) → Same c (c + n) f g → possible_codes f c n ≡ possible_codes g c n
unfolding possible_codes
possible_same f g c n h = fun_ext (λ k. and_same (ltb k n) (is_possible (f (c + k))) (is_possible (g (c + k)))
    (λ b. ap is_possible (h (c + k) (omega arith) (let l : k < n = ltb-true k n b in omega arith))))

pub same_node_of : {P : Type 0} (g h : Status) (a b m n : Codes) (x y : P) → g ≡ h → a ≡ b → m ≡ n → x ≡ y
    → node g a m x ≡ node h b n y
same_node_of g h a b m n x y e f i j =
    ap (λ z. node z a m x) e ∙ (ap (λ z. node h z m x) f ∙ (ap (λ z. node h b z x) i ∙ ap (λ z. node h b n z) j))

pub node_same : {P : Type 0} (f g : ℕ → Status) (c t : ℕ) (x y : P) → Same c (c + t + 3) f g → x ≡ y
    → node_in f c t x ≡ node_in g c t y
node_same f g c t x y h e = same_node_of (f c) (g c) _ _ _ _ x y (h c (omega arith) (omega arith))
    (sure_same f g (c + 1) (t + 2) (λ i l u. h i (omega arith) (omega arith)))
    (possible_same f g (c + 1) (t + 2) (λ i l u. h i (omega arith) (omega arith))) e

again_same : (main : Bool) (f g : ℕ → Status) (p : Statement) (e t : ℕ)
    → Same e (e + cond main (sheet_size false p t) 0) f g
    → (Same (e + t + 3) (e + sheet_size false p t) f g → parts_in f false p e t ≡ parts_in g false p e t)
    → make_again main (node_in f e t (parts_in f false p e t))
    ≡ make_again main (node_in g e t (parts_in g false p e t))
again_same true f g p e t h k =
    let o = size_least false p t in
    node_same f g e t _ _ (λ i l u. h i l (omega arith)) (k (λ i l u. h i (omega arith) u))
again_same false f g p e t h k = refl

pub scoped : {A : Type 0} {v w : Status} {x y : A} → v ≡ w → x ≡ y
    → ◌≡◌ {A = Scoped A} (record { status = v; body = x }) (record { status = w; body = y })
scoped h g = rw (h, g) refl

pub parts_same : (f g : ℕ → Status) (main : Bool) (s : Statement) (c t : ℕ)
    → Same (c + t + 3) (c + sheet_size main s t) f g
    → parts_in f main s c t ≡ parts_in g main s c t
parts_same f g main Nothing c t h = refl
parts_same f g main (Pause n) c t h = refl
parts_same f g main (Emit s) c t h = refl
parts_same f g main (Exit k) c t h = refl
parts_same f g main (Present' x a p b q) c t h =
    let o = size_least main p t in
    let o2 = size_least main q t in
    two (node_same f g (c + t + 3) t _ _ (λ i l u. h i (omega arith) (omega arith))
    (parts_same f g main p (c + t + 3) t (λ i l u. h i (omega arith) (omega arith))))
    (node_same f g (c + t + 3 + sheet_size main p t) t _ _ (λ i l u. h i (omega arith) (omega arith))
    (parts_same f g main q (c + t + 3 + sheet_size main p t) t (λ i l u. h i (omega arith) (omega arith))))
parts_same f g main (Suspend' x a p) c t h =
    let o = size_least main p t in
    node_same f g (c + t + 3) t _ _ (λ i l u. h i (omega arith) (omega arith))
    (parts_same f g main p (c + t + 3) t (λ i l u. h i (omega arith) (omega arith)))
parts_same f g main (Seq' a p b q) c t h =
    let o = size_least main p t in
    let o2 = size_least main q t in
    two (node_same f g (c + t + 3) t _ _ (λ i l u. h i (omega arith) (omega arith))
    (parts_same f g main p (c + t + 3) t (λ i l u. h i (omega arith) (omega arith))))
    (node_same f g (c + t + 3 + sheet_size main p t) t _ _ (λ i l u. h i (omega arith) (omega arith))
    (parts_same f g main q (c + t + 3 + sheet_size main p t) t (λ i l u. h i (omega arith) (omega arith))))
parts_same f g main (Loop' a p) c t h =
    let o = size_least main p t in
    two (node_same f g (c + t + 3) t _ _ (λ i l u. h i (omega arith) (omega arith))
    (parts_same f g main p (c + t + 3) t (λ i l u. h i (omega arith) (omega arith))))
    (again_same main f g p (c + t + 3 + sheet_size main p t) t (λ i l u. h i (omega arith) (omega arith))
    (λ k. parts_same f g false p (c + t + 3 + sheet_size main p t) t k))
parts_same f g main (Par' a p b q) c t h =
    let o = size_least main p t in
    let o2 = size_least main q t in
    two (node_same f g (c + t + 3) t _ _ (λ i l u. h i (omega arith) (omega arith))
    (parts_same f g main p (c + t + 3) t (λ i l u. h i (omega arith) (omega arith))))
    (node_same f g (c + t + 3 + sheet_size main p t) t _ _ (λ i l u. h i (omega arith) (omega arith))
    (parts_same f g main q (c + t + 3 + sheet_size main p t) t (λ i l u. h i (omega arith) (omega arith))))
parts_same f g main (Trap' a p) c t h =
    let o = size_least main p (t + 1) in
    node_same f g (c + t + 3) (t + 1) _ _ (λ i l u. h i (omega arith) (omega arith))
    (parts_same f g main p (c + t + 3) (t + 1) (λ i l u. h i (omega arith) (omega arith)))
parts_same f g main (Binder' s a p) c t h =
    let o = size_least main p t in
    scoped (h (c + t + 3) (omega arith) (omega arith))
    (node_same f g (c + t + 4) t _ _ (λ i l u. h i (omega arith) (omega arith))
    (parts_same f g main p (c + t + 4) t (λ i l u. h i (omega arith) (omega arith))))

pub sheet_same : (f g : ℕ → Status) (main : Bool) (s : Statement) (c t : ℕ) → Same c (c + sheet_size main s t) f g
    → sheet_in f main s c t ≡ sheet_in g main s c t
sheet_same f g main s c t h =
    let o = size_least main s t in
    node_same f g c t _ _ (λ i l u. h i l (omega arith)) (parts_same f g main s c t (λ i l u. h i (omega arith) u))

pub changes_then : (lo1 hi1 lo2 hi2 lo hi : ℕ) (a b c : List Status) → lo ≤ lo1 → lo ≤ lo2 → hi1 ≤ hi → hi2 ≤ hi
    → Changes lo1 hi1 a b → Changes lo2 hi2 b c → Changes lo hi a c
changes_then lo1 hi1 lo2 hi2 lo hi a b c k l m n x y =
    let p = x.more in
    let q = y.more in
    record {
      before = λ i o. y.before i (omega arith) ∙ x.before i (omega arith);
      after = λ i o. y.after i (omega arith) ∙ x.after i (omega arith);
      size = y.size ∙ x.size;
      more = omega arith;
      quiet = λ e. y.quiet (omega arith) ∙ x.quiet (omega arith);
    }

pub learn_changes : (cell : ℕ) (now : Status) (old new : List Status) → Learns cell now old new
    → Changes cell (cell + 1) old new
learn_changes cell now old new h = record {
  before = h.others;
  after = λ i l. h.later i (omega arith);
  size = h.size;
  more = h.more;
  quiet = h.quiet;
}
