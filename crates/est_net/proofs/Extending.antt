-- The entries of the parts of a statement are added to the list of extents, and then its own is put at its place.
use Rattle.std.specs.Prelude.{◌≡◌, ◌<◌, ◌≤◌, ◌+◌, ◌||◌, ℕ, Bool, List, [], ◌∷◌, ◌++◌, length, set}
use Rattle.std.specs.Prelude.{IfSome}
use Rattle.std.proofs.Common.{sym, ap, ◌∙◌, subst, arith}
use Rattle.std.proofs.lemmas.List.{length-append, length-set, get_or-set_same, get_or-set_other}
use Rattle.std.proofs.Math.ListN.{get_or-append}
use Rattle.est_kernel.proofs.PauseSets.{some_split}
use Rattle.est_kernel.specs.Pauses.{some_from}
use Rattle.est_kernel.specs.declared.statement.Statement.{Statement}
use Rattle.est_kernel.specs.declared.statement.Statement.TheVariants.{Nothing, Pause, Emit, Present', Suspend', Seq'}
use Rattle.est_kernel.specs.declared.statement.Statement.TheVariants.{Loop', Par', Trap', Exit, Local' as Binder'}
use Rattle.est_meaning.specs.States.{is_live}
use Rattle.est_net.specs.Extents.{IsExtent, HasAll, PartsHaveExtents, HasExtents, IsRunOf, extent_at}
use Rattle.est_net.specs.Inner.Extending.{ArePartsAdded, IsExtended}
use Rattle.est_net.specs.Owners.{statements}
use Rattle.est_net.specs.declared.extents.Extent.{Extent}
use Rattle.est_net.specs.declared.pause_run.PauseRun.{PauseRun}

-- a run of pauses, and one that follows it
pub run_joined : (f g : (ℕ → Bool) → Bool) (p q : PauseRun) → p.first + p.count ≡ q.first → IsRunOf f p → IsRunOf g q
    → (set : ℕ → Bool) → (f set || g set) ≡ some_from set p.first (p.count + q.count)
run_joined f g p q e h k set =
    ap (λ (b : Bool). b || g set) (h set)
    ∙ (ap (λ (b : Bool). some_from set p.first p.count || b)
    (k set ∙ ap (λ (n : ℕ). some_from set n q.count) (sym e))
    ∙ sym (some_split set p.first p.count q.count))

one_at_least : (s : Statement) → 1 ≤ statements s
one_at_least Nothing = omega arith
one_at_least (Pause i) = omega arith
one_at_least (Emit s) = omega arith
one_at_least (Exit k) = omega arith
one_at_least (Present' x a p b q) = omega arith
one_at_least (Suspend' x a p) = omega arith
one_at_least (Seq' a p b q) = omega arith
one_at_least (Loop' a p) = omega arith
one_at_least (Par' a p b q) = omega arith
one_at_least (Trap' a p) = omega arith
one_at_least (Binder' s a p) = omega arith

-- the entries from number lo on and before number hi are the same
abbrev Same : (lo hi : ℕ) (xs ys : List Extent) → Type 0
Same lo hi xs ys = (i : ℕ) → lo ≤ i → i < hi → extent_at ys i ≡ extent_at xs i

-- entries stay where they are the same
all_kept : (xs ys : List Extent) (s : Statement) (n t : ℕ) → length xs ≤ length ys
    → Same n (n + statements s) xs ys → (P : Type 0) (Q : Type 0) → (P → Q) → HasAll xs n t s P → HasAll ys n t s Q
all_kept xs ys s n t l same P Q f h = record {
  here = let room = h.here.room in let one = one_at_least s in record {
    within = omega arith;
    room = omega arith;
    is = subst (λ (x : Extent). IsExtent x s t) (sym (same n (omega arith) (omega arith))) h.here.is;
  };
  parts = f h.parts;
}

pub parts_kept : (xs ys : List Extent) (s : Statement) (n t : ℕ) → length xs ≤ length ys
    → Same (n + 1) (n + statements s) xs ys → PartsHaveExtents xs n t s → PartsHaveExtents ys n t s
parts_kept xs ys Nothing n t l same h = tt
parts_kept xs ys (Pause i) n t l same h = tt
parts_kept xs ys (Emit s) n t l same h = tt
parts_kept xs ys (Exit k) n t l same h = tt
parts_kept xs ys (Present' x a p b q) n t l same h = (
  all_kept xs ys p (n + 1) t l (λ i o u. same i o (omega arith)) _ _
      (parts_kept xs ys p (n + 1) t l (λ i o u. same i (omega arith) (omega arith))) h.0,
  all_kept xs ys q (n + 1 + statements p) t l (λ i o u. same i (omega arith) (omega arith)) _ _
      (parts_kept xs ys q (n + 1 + statements p) t l (λ i o u. same i (omega arith) (omega arith))) h.1,
)
parts_kept xs ys (Suspend' x a p) n t l same h =
    all_kept xs ys p (n + 1) t l (λ i o u. same i o (omega arith)) _ _
    (parts_kept xs ys p (n + 1) t l (λ i o u. same i (omega arith) (omega arith))) h
parts_kept xs ys (Seq' a p b q) n t l same h = (
  all_kept xs ys p (n + 1) t l (λ i o u. same i o (omega arith)) _ _
      (parts_kept xs ys p (n + 1) t l (λ i o u. same i (omega arith) (omega arith))) h.0,
  all_kept xs ys q (n + 1 + statements p) t l (λ i o u. same i (omega arith) (omega arith)) _ _
      (parts_kept xs ys q (n + 1 + statements p) t l (λ i o u. same i (omega arith) (omega arith))) h.1,
)
parts_kept xs ys (Loop' a p) n t l same h =
    all_kept xs ys p (n + 1) t l (λ i o u. same i o (omega arith)) _ _
    (parts_kept xs ys p (n + 1) t l (λ i o u. same i (omega arith) (omega arith))) h
parts_kept xs ys (Par' a p b q) n t l same h = (
  all_kept xs ys p (n + 1) t l (λ i o u. same i o (omega arith)) _ _
      (parts_kept xs ys p (n + 1) t l (λ i o u. same i (omega arith) (omega arith))) h.0,
  all_kept xs ys q (n + 1 + statements p) t l (λ i o u. same i (omega arith) (omega arith)) _ _
      (parts_kept xs ys q (n + 1 + statements p) t l (λ i o u. same i (omega arith) (omega arith))) h.1,
)
parts_kept xs ys (Trap' a p) n t l same h =
    all_kept xs ys p (n + 1) (t + 1) l (λ i o u. same i o (omega arith)) _ _
    (parts_kept xs ys p (n + 1) (t + 1) l (λ i o u. same i (omega arith) (omega arith))) h
parts_kept xs ys (Binder' s a p) n t l same h =
    all_kept xs ys p (n + 1) t l (λ i o u. same i o (omega arith)) _ _
    (parts_kept xs ys p (n + 1) t l (λ i o u. same i (omega arith) (omega arith))) h

-- the entry of a statement is put at its place
pub extended : (s : Statement) (t : ℕ) (old new last : List Extent) (place x : Extent)
    → ArePartsAdded s t (old ++ place ∷ []) new x → last ≡ set new (length old) x → IsExtended s t old last x
extended s t old new last place x h last_is =
    let n = length old in
    let one = one_at_least s in
    let size : length (old ++ place ∷ []) ≡ n + 1 = length-append old (place ∷ []) in
    let longer = h.size in
    let long : length last ≡ length new = ap length last_is ∙ length-set new n x in
    let here : extent_at last n ≡ x
    = ap (λ (z : List Extent). extent_at z n) last_is ∙ get_or-set_same new n x _ (omega arith) in
    let others : (i : ℕ) → (i ≡ n → ⊥) → extent_at last i ≡ extent_at new i
    = λ i d. ap (λ (z : List Extent). extent_at z i) last_is ∙ get_or-set_other new n i x _ d in
    record {
      size = omega arith;
      before = λ i l. others i (λ e. absurd (omega (arith, e, l))) ∙ (h.before i (omega arith)
          ∙ get_or-append old (place ∷ []) _ i l);
      added = record {
        here = record {
          within = omega arith;
          room = omega arith;
          is = subst (λ (z : Extent). IsExtent z s t) (sym here) h.own;
        };
        parts = parts_kept new last s n t (omega arith) (λ i l u. others i (λ e. absurd (omega (arith, e, l))))
            (h.added n size);
      };
      own = h.own;
    }

-- the entries of one part are added, and of two
pub one_added : (s p : Statement) (t u : ℕ) (old new : List Extent) (x z : Extent) → statements s ≡ 1 + statements p
    → ((n : ℕ) → HasExtents new (n + 1) u p → PartsHaveExtents new n t s) → IsExtended p u old new x → IsExtent z s t
    → ArePartsAdded s t old new z
one_added s p t u old new x z count parts body own =
    let size = body.size in
    record {
      size = omega arith;
      before = body.before;
      added = λ n e. parts n (subst (λ (k : ℕ). HasExtents new k u p) e body.added);
      own = own;
    }

pub two_added : (s p q : Statement) (t : ℕ) (old mid new : List Extent) (x y z : Extent)
    → statements s ≡ 1 + statements p + statements q
    → ((n : ℕ) → HasExtents new (n + 1) t p → HasExtents new (n + 1 + statements p) t q → PartsHaveExtents new n t s)
    → IsExtended p t old mid x → IsExtended q t mid new y → IsExtent z s t → ArePartsAdded s t old new z
two_added s p q t old mid new x y z count parts first second own =
    let size1 = first.size in
    let size2 = second.size in
    let n = length old in
    let kept : HasExtents new n t p
    = all_kept mid new p n t (omega arith) (λ i l u. second.before i (omega arith)) _ _
    (parts_kept mid new p n t (omega arith) (λ i l u. second.before i (omega arith))) first.added in
    record {
      size = omega arith;
      before = λ i l. second.before i (omega arith) ∙ first.before i l;
      added = λ m e. parts m (subst (λ (k : ℕ). HasExtents new k t p) e kept)
          (subst (λ (k : ℕ). HasExtents new k t q) (let f : length mid ≡ m + 1 + statements p = omega (arith, e) in f)
          second.added);
      own = own;
    }

-- what is known of a statement with two parts, by what is known of them
pub record IsJoined (own : ℕ) (x y z : Extent) : Type 0 where
  pub main : z.main ≡ own + x.main + y.main
  pub again : z.again ≡ own + x.again + y.again
  pub statements : z.statements ≡ 1 + x.statements + y.statements
  pub pauses : (f g : (ℕ → Bool) → Bool) → IfSome x.pauses (IsRunOf f) → IfSome y.pauses (IsRunOf g)
      → IfSome z.pauses (IsRunOf (λ set. f set || g set))

pub present_extent : (p q : Statement) (t : ℕ) (x y z : Extent) → IsExtent x p t → IsExtent y q t
    → IsJoined (t + 3) x y z → (c a b : _) → IsExtent z (Present' c a p b q) t
present_extent p q t x y z h k j c a b = record {
  main = let e = j.main in let f = h.main in let g = k.main in omega arith;
  again = let e = j.again in let f = h.again in let g = k.again in omega arith;
  statements = let e = j.statements in let f = h.statements in let g = k.statements in omega arith;
  pauses = j.pauses (is_live p) (is_live q) h.pauses k.pauses;
}

pub seq_extent : (p q : Statement) (t : ℕ) (x y z : Extent) → IsExtent x p t → IsExtent y q t
    → IsJoined (t + 3) x y z → (a b : _) → IsExtent z (Seq' a p b q) t
seq_extent p q t x y z h k j a b = record {
  main = let e = j.main in let f = h.main in let g = k.main in omega arith;
  again = let e = j.again in let f = h.again in let g = k.again in omega arith;
  statements = let e = j.statements in let f = h.statements in let g = k.statements in omega arith;
  pauses = j.pauses (is_live p) (is_live q) h.pauses k.pauses;
}

pub par_extent : (p q : Statement) (t : ℕ) (x y z : Extent) → IsExtent x p t → IsExtent y q t
    → IsJoined (t + 3) x y z → (a b : _) → IsExtent z (Par' a p b q) t
par_extent p q t x y z h k j a b = record {
  main = let e = j.main in let f = h.main in let g = k.main in omega arith;
  again = let e = j.again in let f = h.again in let g = k.again in omega arith;
  statements = let e = j.statements in let f = h.statements in let g = k.statements in omega arith;
  pauses = j.pauses (is_live p) (is_live q) h.pauses k.pauses;
}
