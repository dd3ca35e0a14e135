-- Where no cell of a kernel's table is open, as many cells are decided as there are.
use Rattle.std.specs.Prelude.{◌≡◌, ◌≢◌, ◌<◌, ◌≤◌, ◌+◌, ◌-◌, ◌⊎◌, ℕ, zero, suc, Bool, true, false, not, ◌&&◌, cond, ltb}
use Rattle.std.specs.Prelude.{List, [], ◌∷◌, length}
use Rattle.std.proofs.Common.{refl, ap, sym, ◌∙◌, arith, inl, inr}
use Rattle.std.proofs.lemmas.Bool.{lt-ltb}
use Rattle.std.proofs.lemmas.List.Sums.{sum_by-cons}
use Rattle.est_kernel.specs.Interfaces.{emittable}
use Rattle.est_kernel.specs.declared.interface.Declaration.{Declaration}
use Rattle.est_kernel.specs.declared.kernel.Kernel.{Kernel}
use Rattle.est_kernel.specs.declared.statement.Statement.{Statement}
use Rattle.est_kernel.specs.declared.statement.Statement.TheVariants.{Nothing, Pause, Emit, Present', Suspend', Seq'}
use Rattle.est_kernel.specs.declared.statement.Statement.TheVariants.{Loop', Par', Trap', Exit, Local' as Binder'}
use Rattle.est_meaning.specs.Knowledge.{IsIn}
use Rattle.est_meaning.specs.Rounds.{how_many, judged_signals}
use Rattle.est_meaning.specs.declared.status.Status.{Status}
use Rattle.est_meaning.specs.declared.status.Status.TheVariants.{Present, Absent, Unknown}
use Rattle.est_cells.specs.Decided.{AgainDecided, CellsDecided, NodeDecided, PartsDecided, SheetDecided, TableDecided}
use Rattle.est_cells.specs.Tables.{make_again, sheet_size, is_sure, is_possible}
use Rattle.est_net.specs.Cells.{cell_at, decided, steps_of}
use Rattle.est_net.specs.Layout.{cell_count, node_in, output_count, parts_in, possible_codes, sheet_in, sure_codes}
use Rattle.est_micro.specs.Runs.{AreOfferedTrue, output_cells, table_of}

-- the cells from place lo on and before place hi are decided
abbrev Known : (lo hi : ℕ) (f : ℕ → Status) → Type 0
Known lo hi f = (i : ℕ) → lo ≤ i → i < hi → f i ≢ Unknown

split : (i b : ℕ) → (i < b) ⊎ (b ≤ i)
split i zero = inr (omega arith)
split zero (suc b) = inl (omega arith)
split (suc i) (suc b) = elim (split i b) [ inl l ↦ inl (omega arith) | inr l ↦ inr (omega arith) ]

both_known : (f : ℕ → Status) (a b c : ℕ) → Known a b f → Known b c f → Known a c f
both_known f a b c h k i l u = elim (split i b) [ inl m ↦ h i l m | inr m ↦ k i m u ]

one_known : (f : ℕ → Status) (c hi : ℕ) → hi ≡ c + 1 → f c ≢ Unknown → Known c hi f
one_known f c hi e h i l u z =
    let same : c ≡ i = omega arith in
    h (ap f same ∙ z)

-- the code cells of a statement
code_known : (f : ℕ → Status) (c n k : ℕ) → IsIn (possible_codes f c n) (sure_codes f c n) → k < n
    → f (c + k) ≢ Unknown
unfolding possible_codes sure_codes
code_known f c n k h l u =
    let b = lt-ltb k n l in
    let possible : (ltb k n && is_possible (f (c + k))) ≡ true = rw (b, u) refl in
    let sure : (ltb k n && is_sure (f (c + k))) ≡ false = rw (b, u) refl in
    let z : false ≡ true = sym sure ∙ h k possible in
    cc

codes_known : (f : ℕ → Status) (c n : ℕ) → IsIn (possible_codes f c n) (sure_codes f c n) → Known c (c + n) f
codes_known f c n h i l u z =
    let k = i - c in
    let same : c + (i - c) ≡ i = omega arith in
    code_known f c n k h (omega arith) (ap f same ∙ z)

own_known : {P : Type 0} (f : ℕ → Status) (c t : ℕ) (x : P) → CellsDecided (node_in f c t x).cells
    → Known c (c + t + 3) f
own_known f c t x d =
    both_known f c (c + 1) (c + t + 3) (one_known f c (c + 1) refl d.go)
    (λ i l u. codes_known f (c + 1) (t + 2) d.codes i l (omega arith))

node_known : {P : Type 0} (f : ℕ → Status) (c t hi : ℕ) (R : P → Type 0) (x : P) → NodeDecided P R (node_in f c t x)
    → (R x → Known (c + t + 3) hi f) → Known c hi f
node_known f c t hi R x d k = both_known f c (c + t + 3) hi (own_known f c t x d.cells) (k d.parts)

again_known : (main : Bool) (f : ℕ → Status) (p : Statement) (e t : ℕ)
    → AgainDecided main (NodeDecided _ (PartsDecided false p))
    (make_again main (node_in f e t (parts_in f false p e t)))
    → (PartsDecided false p (parts_in f false p e t) → Known (e + t + 3) (e + sheet_size false p t) f)
    → Known e (e + cond main (sheet_size false p t) 0) f
again_known true f p e t h k = node_known f e t (e + sheet_size false p t) (PartsDecided false p) _ h k
again_known false f p e t h k = λ i l u. absurd (omega arith)

parts_known : (main : Bool) (s : Statement) (f : ℕ → Status) (c t : ℕ) → PartsDecided main s (parts_in f main s c t)
    → Known (c + t + 3) (c + sheet_size main s t) f
parts_known main Nothing f c t h = λ i l u. absurd (omega arith)
parts_known main (Pause n) f c t h = λ i l u. absurd (omega arith)
parts_known main (Emit s) f c t h = λ i l u. absurd (omega arith)
parts_known main (Exit k) f c t h = λ i l u. absurd (omega arith)
parts_known main (Present' x a p b q) f c t h =
    let d = c + t + 3 in
    let e = d + sheet_size main p t in
    λ i l u. both_known f d e (e + sheet_size main q t)
    (node_known f d t e (PartsDecided main p) _ h.0 (λ r. parts_known main p f d t r))
    (node_known f e t (e + sheet_size main q t) (PartsDecided main q) _ h.1 (λ r. parts_known main q f e t r)) i l
    (omega arith)
parts_known main (Suspend' x a p) f c t h =
    let d = c + t + 3 in
    λ i l u. node_known f d t (d + sheet_size main p t) (PartsDecided main p) _ h (λ r. parts_known main p f d t r) i l
    (omega arith)
parts_known main (Seq' a p b q) f c t h =
    let d = c + t + 3 in
    let e = d + sheet_size main p t in
    λ i l u. both_known f d e (e + sheet_size main q t)
    (node_known f d t e (PartsDecided main p) _ h.0 (λ r. parts_known main p f d t r))
    (node_known f e t (e + sheet_size main q t) (PartsDecided main q) _ h.1 (λ r. parts_known main q f e t r)) i l
    (omega arith)
parts_known main (Loop' a p) f c t h =
    let d = c + t + 3 in
    let e = d + sheet_size main p t in
    λ i l u. both_known f d e (e + cond main (sheet_size false p t) 0)
    (node_known f d t e (PartsDecided main p) _ h.0 (λ r. parts_known main p f d t r))
    (again_known main f p e t h.1 (λ r. parts_known false p f e t r)) i l (omega arith)
parts_known main (Par' a p b q) f c t h =
    let d = c + t + 3 in
    let e = d + sheet_size main p t in
    λ i l u. both_known f d e (e + sheet_size main q t)
    (node_known f d t e (PartsDecided main p) _ h.0 (λ r. parts_known main p f d t r))
    (node_known f e t (e + sheet_size main q t) (PartsDecided main q) _ h.1 (λ r. parts_known main q f e t r)) i l
    (omega arith)
parts_known main (Trap' a p) f c t h =
    let d = c + t + 3 in
    λ i l u. node_known f d (t + 1) (d + sheet_size main p (t + 1)) (PartsDecided main p) _ h
    (λ r. parts_known main p f d (t + 1) r) i l (omega arith)
parts_known main (Binder' s a p) f c t h =
    let d = c + t + 4 in
    λ i l u. both_known f (c + t + 3) d (d + sheet_size main p t) (one_known f (c + t + 3) d (omega arith) h.0)
    (node_known f d t (d + sheet_size main p t) (PartsDecided main p) _ h.1 (λ r. parts_known main p f d t r)) i l
    (omega arith)

sheet_known : (main : Bool) (s : Statement) (f : ℕ → Status) (c t : ℕ) → SheetDecided main s (sheet_in f main s c t)
    → Known c (c + sheet_size main s t) f
sheet_known main s f c t h =
    node_known f c t (c + sheet_size main s t) (PartsDecided main s) _ h (λ r. parts_known main s f c t r)

-- a place of a mask before which c others are in it
record HasRank (f : ℕ → Bool) (m c : ℕ) : Type 0 where
  place : ℕ
  within : place < m
  is_in : f place ≡ true
  at : how_many f place ≡ c

ranked : (f : ℕ → Bool) (m c : ℕ) (b : Bool) → f m ≡ b → (c < how_many f m → HasRank f m c)
    → c < how_many f m + cond b 1 0 → HasRank f (suc m) c
ranked f m c true e k l = elim (split c (how_many f m)) [
  | inl o ↦ let r = k o in let w = r.within in
      record { place = r.place; within = omega arith; is_in = r.is_in; at = r.at }
  | inr o ↦ record { place = m; within = omega arith; is_in = e; at = omega arith }
]
ranked f m c false e k l =
    let r = k (omega arith) in
    let w = r.within in
    record { place = r.place; within = omega arith; is_in = r.is_in; at = r.at }

rank_is : (f : ℕ → Bool) (m c : ℕ) → c < how_many f m → HasRank f m c
rank_is f zero c l = absurd (omega arith)
rank_is f (suc m) c l = ranked f m c (f m) refl (λ k. rank_is f m c k) l

-- the cells of the signals
signal_known : (i : List Declaration) (inputs : ℕ → Bool) (cells : List Status) (n : ℕ) → n < length i
    → emittable i n ≡ true → ((n : ℕ) → (emittable i n && not (inputs n)) ≡ true → output_cells i cells n ≢ Unknown)
    → AreOfferedTrue i inputs cells → output_cells i cells n ≢ Unknown
signal_known i inputs cells n l e judged offered = go (inputs n) refl
  where
    go : (b : Bool) → inputs n ≡ b → output_cells i cells n ≢ Unknown
    go true o z = let y : Present ≡ Unknown = sym (offered n l e o) ∙ z in cc
    go false o z = judged n (rw (e, o) refl) z

signals_known : (i : List Declaration) (inputs : ℕ → Bool) (cells : List Status)
    → ((n : ℕ) → (emittable i n && not (inputs n)) ≡ true → output_cells i cells n ≢ Unknown)
    → AreOfferedTrue i inputs cells → Known 0 (output_count i) (cell_at cells)
signals_known i inputs cells judged offered c l u z =
    let r = rank_is (emittable i) (length i) c u in
    signal_known i inputs cells r.place r.within r.is_in judged offered (ap (λ (n : ℕ). cell_at cells n) r.at ∙ z)

-- a cell that is decided counts
step_counts : (v : Status) → v ≢ Unknown → steps_of v ≡ 1
step_counts Present h = refl
step_counts Absent h = refl
step_counts Unknown h = absurd (h refl)

all_count : (cells : List Status) → ((i : ℕ) → i < length cells → cell_at cells i ≢ Unknown)
    → decided cells ≡ length cells
all_count [] h = omega arith
all_count (x ∷ xs) h =
    let k = all_count xs (λ i l. h (suc i) (omega arith)) in
    let o = step_counts x (h 0 (omega arith)) in
    let e : decided (x ∷ xs) ≡ steps_of x + decided xs = sum_by-cons steps_of x xs in
    omega arith

pub all_cells_decided : (k : Kernel) (inputs : ℕ → Bool) (cells : List Status) → length cells ≡ cell_count k
    → TableDecided (judged_signals k.interface inputs) k.root (table_of k.interface k.root cells)
    → AreOfferedTrue k.interface inputs cells → decided cells ≡ length cells
all_cells_decided k inputs cells size d offered =
    let o = output_count k.interface in
    all_count cells (λ i l. both_known (cell_at cells) 0 o (o + sheet_size true k.root 0)
    (signals_known k.interface inputs cells d.outputs offered)
    (sheet_known true k.root (cell_at cells) o 0 d.sheet) i (omega arith) (omega arith))
