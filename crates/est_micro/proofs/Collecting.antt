-- Sets of pauses, as they are put together.
use Rattle.std.specs.Prelude.{◌≡◌, ◌≢◌, ◌+◌, ℕ, ltb, Bool, true, false, cond, ◌&&◌, ◌||◌, nat_eq, List}
use Rattle.std.proofs.Common.{refl, ap, sym, ◌∙◌, arith, subst, inl, inr}
use Rattle.std.proofs.lemmas.Bool.{lt-ltb}
use Rattle.est_kernel.specs.Pauses.{pauses_of}
use Rattle.est_kernel.specs.declared.kernel.Kernel.{Kernel}
use Rattle.est_kernel.specs.declared.pause_set.PauseSet.{PauseSet}
use Rattle.est_kernel.specs.declared.statement.Statement.{Statement}
use Rattle.est_kernel.specs.declared.statement.Statement.TheVariants.{Loop', Local' as Binder'}
use Rattle.est_meaning.specs.declared.status.Status.{Status}
use Rattle.est_cells.specs.Next.{stays}
use Rattle.est_cells.specs.Tables.{sheet_size, is_sure}
use Rattle.est_net.specs.Cells.{cell_at}
use Rattle.est_net.specs.Layout.{output_count, sheet_in, sure_codes}
use Rattle.est_net.proofs.Reaching.{or_assoc}
use Rattle.est_micro.specs.Inner.Pausing.{Collects, CollectsIn}
use Rattle.est_micro.proofs.Telling.{nat_eq_same, nat_eq_other, same_or_not}

pub or_nothing : (x on : Bool) → x ≡ (x || (on && false))
or_nothing true on = refl
or_nothing false true = refl
or_nothing false false = refl

pub kept_pair : (x on p q b : Bool) → ((x || (on && (p && b))) || (on && (q && b))) ≡ (x || (on && ((p || q) && b)))
kept_pair true on p q b = refl
kept_pair false false p q b = refl
kept_pair false true true true true = refl
kept_pair false true true true false = refl
kept_pair false true true false true = refl
kept_pair false true true false false = refl
kept_pair false true false q b = refl

swap : (x on p q e : Bool) → (e ≡ true → p ≡ q) → (x || ((on && p) && e)) ≡ (x || (on && (e && q)))
swap true on p q e h = refl
swap false true p q true h = and_true p ∙ h refl
  where
    and_true : (b : Bool) → (b && true) ≡ b
    and_true true = refl
    and_true false = refl
swap false true true q false h = refl
swap false true false q false h = refl
swap false false p q e h = refl

pub two_collected : (new mid old first : Bool) (second : ℕ → Bool) (m n : ℕ) → new ≡ (mid || second m)
    → mid ≡ (old || first) → m ≡ n → new ≡ (old || (first || second n))
two_collected new mid old first second m n h k e =
    h ∙ (ap (λ (z : ℕ). mid || second z) e
    ∙ (ap (λ (z : Bool). z || second n) k ∙ or_assoc old first (second n)))

-- a suspended body that gives code 1, and one that does not
pub body_goes_on : (new old gives now had : Bool) → gives ≡ true → new ≡ (old || (gives && now))
    → new ≡ (old || cond gives now had)
body_goes_on new old true now had e h = h
body_goes_on new old false now had e h = let z : false ≡ true = e in cc

pub body_stays : (new old gives now had : Bool) → gives ≡ false → new ≡ (old || (true && had))
    → new ≡ (old || cond gives now had)
body_stays new old true now had e h = let z : true ≡ false = e in cc
body_stays new old false now had e h = h

-- a loop that can go on, and one that was begun again
pub loop_collected : (main : Bool) (c n : ℕ) (a : _) (p : Statement) (cells : List Status)
    (pauses old mid new : PauseSet) (past : ℕ) → main ≡ true → past ≡ c + n + 3 + sheet_size main p n
    → Collects p main (c + n + 3) n cells pauses old mid → Collects p false past n cells pauses mid new
    → CollectsIn (Loop' a p) main c n cells pauses old new
loop_collected false c n a p cells pauses old mid new past h e x y = let z : false ≡ true = h in cc
loop_collected true c n a p cells pauses old mid new past h e x y = record {
  put_in = λ i. two_collected _ _ _ _
      (λ (z : ℕ). stays false p (pauses_of pauses) (sheet_in (cell_at cells) false p z n) i) _ _ (y i) (x i) e;
}

or_false : (x : Bool) → x ≡ (x || false)
or_false true = refl
or_false false = refl

pub again_collected : (main : Bool) (c n : ℕ) (a : _) (p : Statement) (cells : List Status)
    (pauses old new : PauseSet) → main ≡ false → Collects p main (c + n + 3) n cells pauses old new
    → CollectsIn (Loop' a p) main c n cells pauses old new
again_collected true c n a p cells pauses old new h x = let z : true ≡ false = h in cc
again_collected false c n a p cells pauses old new h x = record {
  put_in = λ i. x i ∙ ap (λ (z : Bool). pauses_of old i || z)
      (or_false (stays false p (pauses_of pauses) (sheet_in (cell_at cells) false p (c + n + 3) n) i));
}

-- a local signal's binder
pub local_collected : (main : Bool) (c n : ℕ) (s : _) (a : _) (p : Statement) (cells : List Status)
    (pauses old new : PauseSet) → Collects p main (c + n + 3 + 1) n cells pauses old new
    → CollectsIn (Binder' s a p) main c n cells pauses old new
local_collected main c n s a p cells pauses old new x = record {
  put_in = subst (λ (z : ℕ). Collects p main z n cells pauses old new)
      (let e : c + n + 3 + 1 ≡ c + n + 4 = omega arith in e) x;
}

-- a statement that does not give code 1 stands at no pause
pub none_collected : (old gives inside : Bool) → gives ≡ false → old ≡ (old || (gives && inside))
none_collected old true inside e = let z : true ≡ false = e in cc
none_collected old false inside e = or_false old

pub some_collected : (new old gives inside : Bool) → gives ≡ true → new ≡ (old || inside)
    → new ≡ (old || (gives && inside))
some_collected new old true inside e h = h
some_collected new old false inside e h = let z : false ≡ true = e in cc

-- the cell of code 1
pub pause_cell : (f : ℕ → Status) (c n : ℕ) (b : Bool) → b ≡ is_sure (f (c + 2)) → b ≡ sure_codes f (c + 1) (n + 2) 1
unfolding sure_codes
pause_cell f c n b e =
    let k : c + 2 ≡ c + 1 + 1 = omega arith in
    let l : ltb 1 (n + 2) ≡ true = lt-ltb 1 (n + 2) (omega arith) in
    e ∙ (ap (λ (z : ℕ). is_sure (f z)) k ∙ ap (λ (z : Bool). z && is_sure (f (c + 1 + 1))) (sym l))

-- one pause more, or none
pub pause_put : (new old : ℕ → Bool) (n : ℕ) (b : Bool) → b ≡ true → new n ≡ true → ((i : ℕ) → i ≢ n → new i ≡ old i)
    → (i : ℕ) → new i ≡ (old i || (b && nat_eq n i))
pause_put new old n b e h k i = elim (same_or_not i n) [
  | inl z ↦ subst (λ (u : ℕ). new u ≡ (old u || (b && nat_eq n u))) (sym z)
      (h ∙ (sym (or_true (old n)) ∙ ap (λ (x : Bool). old n || x)
      (sym (nat_eq_same n) ∙ ap (λ (y : Bool). y && nat_eq n n) (sym e))))
  | inr d ↦ k i d ∙ (or_nothing (old i) b ∙ ap (λ (x : Bool). old i || (b && x)) (sym (nat_eq_other n i d)))
]
  where
    or_true : (a : Bool) → (a || true) ≡ true
    or_true true = refl
    or_true false = refl

pub no_pause_put : (old : ℕ → Bool) (n : ℕ) (b : Bool) → b ≡ false → (i : ℕ) → old i ≡ (old i || (b && nat_eq n i))
no_pause_put old n b e i = or_nothing (old i) true ∙ ap (λ (y : Bool). old i || (y && nat_eq n i)) (sym e)

-- the pauses at which a whole kernel stands
pub all_collected : (k : Kernel) (root : Statement) (outputs_count : ℕ) (cells : List Status) (from old new : PauseSet)
    → root ≡ k.root → outputs_count ≡ output_count k.interface → ((i : ℕ) → pauses_of old i ≡ false)
    → Collects root true outputs_count 0 cells from old new → (i : ℕ) → pauses_of new i
    ≡ stays true k.root (pauses_of from) (sheet_in (cell_at cells) true k.root (output_count k.interface) 0) i
all_collected k root outputs_count cells from old new a b none h i =
    let x = subst (λ (n : ℕ). Collects k.root true n 0 cells from old new) b
    (subst (λ (z : Statement). Collects z true outputs_count 0 cells from old new) a h) in
    x i ∙ ap (λ (z : Bool). z || stays true k.root (pauses_of from)
    (sheet_in (cell_at cells) true k.root (output_count k.interface) 0) i) (none i)
