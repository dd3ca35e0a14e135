-- Code cells that are told one after another, and read so.
use Rattle.std.specs.Prelude.{◌≡◌, ◌≢◌, ◌<◌, ◌≤◌, ◌+◌, ◌⊎◌, ℕ, zero, suc, Bool, true, false, ltb, nat_eq, ◌&&◌, ◌||◌}
use Rattle.std.specs.Prelude.{List, length}
use Rattle.std.proofs.Common.{refl, ap, sym, ◌∙◌, arith, inl, inr, subst}
use Rattle.std.proofs.lemmas.Bool.{ltb-true, ltb-false, lt-ltb, eq-eqb, eqb-true}
use mathlib.Core.Path.{fun_ext}
use Rattle.est_kernel.specs.Codes.{Codes, code, either_code, no_codes}
use Rattle.est_kernel.specs.CodeViews.{codes_of}
use Rattle.est_meaning.specs.Environments.{verdict}
use Rattle.est_meaning.specs.declared.status.Status.{Status}
use Rattle.est_meaning.specs.declared.status.Status.TheVariants.{Absent}
use Rattle.est_meaning.proofs.PauseWordLemmas.{or_false}
use Rattle.est_cells.specs.Tables.{is_sure, is_possible}
use Rattle.est_net.specs.Cells.{AllOpen, AreFalse, cell_at, decided, learned, Learns}
use Rattle.est_net.specs.Layout.{sure_codes, possible_codes}
use Rattle.est_net.proofs.OwnerValues.{read_back}
use Rattle.est_net.proofs.Ranges.{last_or_before}
use Rattle.est_rounds.specs.declared.acts.MustCan.{MustCan}
use Rattle.est_micro.specs.Sweeps.{sure_told, may_told}
use Rattle.est_micro.specs.Inner.Views.{AreTold, IsFresh}
use Rattle.est_micro.specs.declared.cells.CodesRead.{CodesRead}
use Rattle.est_micro.proofs.Frames.{and_same}

-- the first n code cells from place c on are told
pub record ToldSoFar (c n : ℕ) (j : MustCan) (old new : List Status) : Type 0 where
  pub told : (k : ℕ) → k < n
      → cell_at new (c + k) ≡ learned (cell_at old (c + k)) (verdict (codes_of j.must.codes k) (codes_of j.can.codes k))
  pub before : (i : ℕ) → i < c → cell_at new i ≡ cell_at old i
  pub after : (i : ℕ) → c + n ≤ i → cell_at new i ≡ cell_at old i
  pub size : length new ≡ length old
  pub more : decided old ≤ decided new
  pub quiet : decided new ≡ decided old → new ≡ old

pub told_none : (c : ℕ) (j : MustCan) (old : List Status) → ToldSoFar c 0 j old old
told_none c j old = record {
  told = λ k l. absurd (omega arith);
  before = λ i l. refl;
  after = λ i l. refl;
  size = refl;
  more = omega arith;
  quiet = λ e. refl;
}

pub told_more : (c n : ℕ) (j : MustCan) (old mid new : List Status) (now : Status) → ToldSoFar c n j old mid
    → Learns (c + n) now mid new → now ≡ verdict (codes_of j.must.codes n) (codes_of j.can.codes n)
    → ToldSoFar c (n + 1) j old new
told_more c n j old mid new now x y e =
    let p = x.more in
    let q = y.more in
    record {
      told = λ k l. elim (last_or_before k n l) [
        | inl z ↦ subst (λ (u : ℕ). cell_at new (c + u)
            ≡ learned (cell_at old (c + u)) (verdict (codes_of j.must.codes u) (codes_of j.can.codes u))) (sym z)
            (y.here ∙ (ap (λ (v : Status). learned v now) (x.after (c + n) (omega arith))
            ∙ ap (λ (v : Status). learned (cell_at old (c + n)) v) e))
        | inr z ↦ y.others (c + k) (omega arith) ∙ x.told k z
      ];
      before = λ i l. y.others i (omega arith) ∙ x.before i l;
      after = λ i l. y.later i (omega arith) ∙ x.after i (omega arith);
      size = y.size ∙ x.size;
      more = omega arith;
      quiet = λ d. y.quiet (omega arith) ∙ x.quiet (omega arith);
    }

code_told : (pick : Status → Bool) (b : Bool) (v w n : Status) → pick Absent ≡ false → (b ≡ true → n ≡ learned v w)
    → (b && pick n) ≡ pick (learned (verdict (b && is_sure v) (b && is_possible v)) w)
code_told pick true v w n e h = ap pick (h refl ∙ ap (λ (x : Status). learned x w) (sym (read_back v)))
code_told pick false v w n e h = sym e

pub told_done : (c n : ℕ) (j : MustCan) (old new : List Status) → ToldSoFar c n j old new → AreTold c n j old new
unfolding sure_codes possible_codes sure_told may_told
told_done c n j old new x = record {
  changes = record { before = x.before; after = x.after; size = x.size; more = x.more; quiet = x.quiet };
  sure = fun_ext (λ k. code_told is_sure (ltb k n) (cell_at old (c + k)) _ _ refl (λ b. x.told k (ltb-true k n b)));
  may = fun_ext (λ k. code_told is_possible (ltb k n) (cell_at old (c + k)) _ _ refl (λ b. x.told k (ltb-true k n b)));
}

-- a code that is added to a set
pub nat_eq_same : (n : ℕ) → nat_eq n n ≡ true
nat_eq_same n = eq-eqb n n refl

pub nat_eq_other : (m n : ℕ) → n ≢ m → nat_eq m n ≡ false
nat_eq_other m n d = not_same (nat_eq m n) refl
  where
    not_same : (b : Bool) → nat_eq m n ≡ b → b ≡ false
    not_same true e = absurd (d (sym (eqb-true m n e)))
    not_same false e = refl

pub with_here : (R A S : Codes) (n m : ℕ) → R ≡ either_code A S → S ≡ code m → m ≡ n → R n ≡ (A n || true)
unfolding either_code code
with_here R A S n m r s e =
    ap (λ (g : Codes). g n) r ∙ (ap (λ (g : Codes). A n || g n) s
    ∙ (ap (λ (z : ℕ). A n || nat_eq z n) e ∙ ap (λ (z : Bool). A n || z) (nat_eq_same n)))

pub with_others : (R A S : Codes) (n m : ℕ) → R ≡ either_code A S → S ≡ code m → m ≡ n → (k : ℕ) → k ≢ n → R k ≡ A k
unfolding either_code code
with_others R A S n m r s e k d =
    ap (λ (g : Codes). g k) r ∙ (ap (λ (g : Codes). A k || g k) s
    ∙ (ap (λ (z : ℕ). A k || nat_eq z k) e ∙ (ap (λ (z : Bool). A k || z) (nat_eq_other n k d) ∙ or_false (A k))))

-- the first n codes of a set are read
abbrev pub ReadSoFar : Codes → (ℕ → Bool) → ℕ → Type 0
ReadSoFar codes f n = (k : ℕ) → codes k ≡ (ltb k n && f k)

ltb_same : (n : ℕ) → ltb n n ≡ false
ltb_same n = not_less (ltb n n) refl
  where
    not_less : (b : Bool) → ltb n n ≡ b → b ≡ false
    not_less true e = absurd (let l : n < n = ltb-true n n e in omega arith)
    not_less false e = refl

ltb_next : (k n : ℕ) → k ≢ n → ltb k n ≡ ltb k (n + 1)
ltb_next k n d = go (ltb k n) refl (ltb k (n + 1)) refl
  where
    go : (a : Bool) → ltb k n ≡ a → (b : Bool) → ltb k (n + 1) ≡ b → a ≡ b
    go true e true f = refl
    go false e false f = refl
    go true e false f = let l : k < n = ltb-true k n e in
        (let m : k < n + 1 = omega arith in sym (sym f ∙ lt-ltb k (n + 1) m))
    go false e true f = elim (last_or_before k n (ltb-true k (n + 1) f))
        [ inl z ↦ absurd (d z) | inr l ↦ sym e ∙ lt-ltb k n l ]

pub same_or_not : (x y : ℕ) → (x ≡ y) ⊎ (x ≢ y)
same_or_not zero zero = inl refl
same_or_not zero (suc y) = inr (λ e. absurd (omega arith))
same_or_not (suc x) zero = inr (λ e. absurd (omega arith))
same_or_not (suc x) (suc y) = elim (same_or_not x y) [ inl e ↦ inl (ap suc e) | inr d ↦ inr (λ e. d (omega arith)) ]

pub read_none : (codes : Codes) (f : ℕ → Bool) → ((k : ℕ) → codes k ≡ false) → ReadSoFar codes f 0
read_none codes f h k = h k ∙ sym (none (ltb k 0) refl)
  where
    none : (b : Bool) → ltb k 0 ≡ b → (b && f k) ≡ false
    none true e = absurd (let l : k < 0 = ltb-true k 0 e in omega arith)
    none false e = refl

pub read_more : (old new : Codes) (f : ℕ → Bool) (n : ℕ) (b : Bool) → ReadSoFar old f n → new n ≡ (old n || b)
    → ((k : ℕ) → k ≢ n → new k ≡ old k) → b ≡ f n → ReadSoFar new f (n + 1)
read_more old new f n b h here others e k = elim (same_or_not k n) [
  | inl z ↦ subst (λ (u : ℕ). new u ≡ (ltb u (n + 1) && f u)) (sym z)
      (here ∙ (ap (λ (x : Bool). x || b) (h n ∙ ap (λ (x : Bool). x && f n) (ltb_same n))
      ∙ (e ∙ ap (λ (x : Bool). x && f n) (sym (lt-ltb n (n + 1) (omega arith))))))
  | inr d ↦ others k d ∙ (h k ∙ ap (λ (x : Bool). x && f k) (ltb_next k n d))
]

pub read_sure_done : (codes : Codes) (f : ℕ → Status) (c n : ℕ) → ReadSoFar codes (λ k. is_sure (f (c + k))) n
    → codes ≡ sure_codes f c n
unfolding sure_codes
read_sure_done codes f c n h = fun_ext h

pub read_possible_done : (codes : Codes) (f : ℕ → Status) (c n : ℕ) → ReadSoFar codes (λ k. is_possible (f (c + k))) n
    → codes ≡ possible_codes f c n
unfolding possible_codes
read_possible_done codes f c n h = fun_ext h

-- the first n code cells from place c on are told, and read
pub record ToldAndRead (c n : ℕ) (j : MustCan) (old new : List Status) (sure possible : Codes) : Type 0 where
  pub told : ToldSoFar c n j old new
  pub sure_read : ReadSoFar sure (λ k. is_sure (cell_at new (c + k))) n
  pub possible_read : ReadSoFar possible (λ k. is_possible (cell_at new (c + k))) n

pub none_there : (codes : Codes) → codes ≡ no_codes → (k : ℕ) → codes k ≡ false
unfolding no_codes
none_there codes e k = ap (λ (g : Codes). g k) e

pub nothing_read : (c : ℕ) (j : MustCan) (old : List Status) (sure possible : Codes) → sure ≡ no_codes
    → possible ≡ no_codes → ToldAndRead c 0 j old old sure possible
nothing_read c j old sure possible e f = record {
  told = told_none c j old;
  sure_read = read_none sure (λ k. is_sure (cell_at old (c + k))) (none_there sure e);
  possible_read = read_none possible (λ k. is_possible (cell_at old (c + k))) (none_there possible f);
}

pub read_same : (codes : Codes) (f g : ℕ → Bool) (n : ℕ) → ReadSoFar codes f n → ((k : ℕ) → k < n → f k ≡ g k)
    → ReadSoFar codes g n
read_same codes f g n h s k = h k ∙ and_same (ltb k n) (f k) (g k) (λ b. s k (ltb-true k n b))

pub one_read : (c n : ℕ) (j : MustCan) (old mid new : List Status) (now status : Status) (a b x y : Codes)
    → ToldAndRead c n j old mid a b → Learns (c + n) now mid new
    → now ≡ verdict (codes_of j.must.codes n) (codes_of j.can.codes n) → status ≡ cell_at new (c + n)
    → x n ≡ (a n || is_sure status) → ((k : ℕ) → k ≢ n → x k ≡ a k)
    → y n ≡ (b n || is_possible status) → ((k : ℕ) → k ≢ n → y k ≡ b k)
    → ToldAndRead c (n + 1) j old new x y
one_read c n j old mid new now status a b x y h l v s p q r t = record {
  told = told_more c n j old mid new now h.told l v;
  sure_read = read_more a x (λ k. is_sure (cell_at new (c + k))) n (is_sure status)
      (read_same a _ _ n h.sure_read (λ k m. ap is_sure (sym (l.others (c + k) (omega arith))))) p q (ap is_sure s);
  possible_read = read_more b y (λ k. is_possible (cell_at new (c + k))) n (is_possible status)
      (read_same b _ _ n h.possible_read (λ k m. ap is_possible (sym (l.others (c + k) (omega arith))))) r t
      (ap is_possible s);
}

-- the first n code cells from place c on are read
pub record CodesSoFar (cells : List Status) (c n : ℕ) (read : CodesRead) : Type 0 where
  pub sure : ReadSoFar (codes_of read.sure) (λ k. is_sure (cell_at cells (c + k))) n
  pub possible : ReadSoFar (codes_of read.possible) (λ k. is_possible (cell_at cells (c + k))) n

pub none_read : (cells : List Status) (c : ℕ) (read : CodesRead) → codes_of read.sure ≡ no_codes
    → codes_of read.possible ≡ no_codes → CodesSoFar cells c 0 read
none_read cells c read e f = record {
  sure = read_none _ (λ k. is_sure (cell_at cells (c + k))) (none_there _ e);
  possible = read_none _ (λ k. is_possible (cell_at cells (c + k))) (none_there _ f);
}

pub code_read : (cells : List Status) (c n : ℕ) (old new : CodesRead) (status : Status) → CodesSoFar cells c n old
    → status ≡ cell_at cells (c + n)
    → codes_of new.sure n ≡ (codes_of old.sure n || is_sure status)
    → ((k : ℕ) → k ≢ n → codes_of new.sure k ≡ codes_of old.sure k)
    → codes_of new.possible n ≡ (codes_of old.possible n || is_possible status)
    → ((k : ℕ) → k ≢ n → codes_of new.possible k ≡ codes_of old.possible k) → CodesSoFar cells c (n + 1) new
code_read cells c n old new status h s p q r t = record {
  sure = read_more _ _ (λ k. is_sure (cell_at cells (c + k))) n (is_sure status) h.sure p q (ap is_sure s);
  possible = read_more _ _ (λ k. is_possible (cell_at cells (c + k))) n (is_possible status) h.possible r t
      (ap is_possible s);
}

-- codes of which the first two are read, where no other one may be given
rest_read : (codes : Codes) (f g : ℕ → Bool) (n : ℕ) → 2 ≤ n → ReadSoFar codes f 2 → ((k : ℕ) → k < 2 → f k ≡ g k)
    → ((k : ℕ) → 2 ≤ k → k < n → g k ≡ false) → ReadSoFar codes g n
rest_read codes f g n two h same none k = h k ∙ go (ltb k 2) refl (ltb k n) refl
  where
    go : (a : Bool) → ltb k 2 ≡ a → (b : Bool) → ltb k n ≡ b → (a && f k) ≡ (b && g k)
    go true d true e = same k (ltb-true k 2 d)
    go true d false e = let l : k < 2 = ltb-true k 2 d in
        (let z : false ≡ true = sym e ∙ lt-ltb k n (omega arith) in cc)
    go false d true e = sym (none k (ltb-false k 2 d) (ltb-true k n e))
    go false d false e = refl

-- the cells of codes above 1 are false at once
pub rest_false : (c n : ℕ) (j : MustCan) (old mid new : List Status) (sure possible : Codes) → 2 ≤ n
    → ((k : ℕ) → 2 ≤ k → codes_of j.must.codes k ≡ false) → ((k : ℕ) → 2 ≤ k → codes_of j.can.codes k ≡ false)
    → AllOpen c (c + n) old → ToldAndRead c 2 j old mid sure possible → AreFalse (c + 2) (c + n) mid new
    → ToldAndRead c n j old new sure possible
unfolding AllOpen
rest_false c n j old mid new sure possible two must can opened h f =
    let x = h.told in
    let p = x.more in
    let q = f.more in
    record {
      told = record {
        told = λ k l. told k l (ltb k 2) refl;
        before = λ i l. f.before i (omega arith) ∙ x.before i l;
        after = λ i l. f.after i l ∙ x.after i (omega arith);
        size = f.size ∙ x.size;
        more = omega arith;
        quiet = λ d. f.quiet (omega arith) ∙ x.quiet (omega arith);
      };
      sure_read = rest_read sure _ _ n two h.sure_read (λ k l. ap is_sure (sym (f.before (c + k) (omega arith))))
          (λ k l u. ap is_sure (f.false_now (c + k) (omega arith) (omega arith)));
      possible_read = rest_read possible _ _ n two h.possible_read
          (λ k l. ap is_possible (sym (f.before (c + k) (omega arith))))
          (λ k l u. ap is_possible (f.false_now (c + k) (omega arith) (omega arith)));
    }
  where
    told : (k : ℕ) → k < n → (b : Bool) → ltb k 2 ≡ b → cell_at new (c + k)
        ≡ learned (cell_at old (c + k)) (verdict (codes_of j.must.codes k) (codes_of j.can.codes k))
    told k l true e = let u : k < 2 = ltb-true k 2 e in f.before (c + k) (omega arith) ∙ h.told.told k u
    told k l false e =
        let u : 2 ≤ k = ltb-false k 2 e in
        f.false_now (c + k) (omega arith) (omega arith)
        ∙ sym (ap (λ (v : Status). learned v (verdict (codes_of j.must.codes k) (codes_of j.can.codes k)))
        (opened (c + k) (omega arith) (omega arith))
        ∙ (ap (λ (b : Bool). verdict b (codes_of j.can.codes k)) (must k u)
        ∙ ap (λ (b : Bool). verdict false b) (can k u)))

-- the first two codes are told, and read
pub two_read : (c : ℕ) (j : MustCan) (old mid new : List Status) (s t a b x y : Codes) → s ≡ no_codes → t ≡ no_codes
    → Learns (c + 0) (verdict (codes_of j.must.codes 0) (codes_of j.can.codes 0)) old mid
    → a 0 ≡ (s 0 || is_sure (cell_at mid (c + 0))) → ((k : ℕ) → k ≢ 0 → a k ≡ s k)
    → b 0 ≡ (t 0 || is_possible (cell_at mid (c + 0))) → ((k : ℕ) → k ≢ 0 → b k ≡ t k)
    → Learns (c + 1) (verdict (codes_of j.must.codes 1) (codes_of j.can.codes 1)) mid new
    → x 1 ≡ (a 1 || is_sure (cell_at new (c + 1))) → ((k : ℕ) → k ≢ 1 → x k ≡ a k)
    → y 1 ≡ (b 1 || is_possible (cell_at new (c + 1))) → ((k : ℕ) → k ≢ 1 → y k ≡ b k)
    → ToldAndRead c 2 j old new x y
two_read c j old mid new s t a b x y e f l h i m n o p q u v =
    one_read c 1 j old mid new _ _ a b x y
    (one_read c 0 j old old mid _ _ s t a b (nothing_read c j old s t e f) l refl refl h i m n) o refl refl p q u v

-- in the first sweep of an instant the cells of further codes are open
pub fresh_further : (first : Bool) (c n m k : ℕ) (j : MustCan) (old new : List Status) → ToldSoFar c n j old new
    → n ≤ k → k ≤ m → IsFresh first c (c + m) old → IsFresh first (c + k) (c + m) new
unfolding IsFresh AllOpen
fresh_further first c n m k j old new x a b h e i l u = x.after i (omega arith) ∙ h e i (omega arith) u
