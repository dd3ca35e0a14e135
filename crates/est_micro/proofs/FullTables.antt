-- A table without an open cell, in which each is decided as the meaning says: the gates decide nothing more.
use Rattle.std.specs.Prelude.{◌≡◌, ◌≢◌, ◌<◌, ◌≤◌, ◌+◌, ℕ, zero, suc, Bool, true, false, cond, ltb}
use Rattle.std.specs.Prelude.{List, [], ◌∷◌, length}
use Rattle.std.proofs.Common.{refl, sym, arith, inl, inr}
use Rattle.std.proofs.lemmas.Bool.{and_parts, ltb-true}
use Rattle.std.proofs.lemmas.List.Sums.{sum_by-cons}
use Rattle.est_kernel.specs.Interfaces.{emittable}
use Rattle.est_kernel.specs.declared.kernel.Kernel.{Kernel}
use Rattle.est_kernel.specs.declared.state.State.{State}
use Rattle.est_kernel.specs.declared.statement.Statement.{Statement}
use Rattle.est_kernel.specs.declared.statement.Statement.TheVariants.{Nothing, Pause, Emit, Present', Suspend', Seq'}
use Rattle.est_kernel.specs.declared.statement.Statement.TheVariants.{Loop', Par', Trap', Exit, Local' as Binder'}
use Rattle.est_meaning.specs.Knowledge.{IsBelow, IsIn}
use Rattle.est_meaning.specs.Laws.{IsWithinPlaces}
use Rattle.est_meaning.specs.Rounds.{judged_signals}
use Rattle.est_meaning.specs.declared.status.Status.{Status}
use Rattle.est_meaning.specs.declared.status.Status.TheVariants.{Present, Absent, Unknown}
use Rattle.est_cells.proofs.MicrostepsAgree.{decided_back}
use Rattle.est_cells.proofs.Order.{below_then}
use Rattle.est_cells.proofs.WholeTable.{table_sound}
use Rattle.est_cells.specs.Decided.{AgainDecided, NodeDecided, PartsDecided, SheetDecided, TableDecided}
use Rattle.est_cells.specs.Tables.{Again, AgainBelow, Below, Cells, CellsBelow, Sheet}
use Rattle.est_cells.specs.Tables.{make_again, sheet_size, is_sure, is_possible}
use Rattle.est_cells.specs.Whole.{TableBelow, table_gates, table_meaning}
use Rattle.est_net.proofs.Ranges.{decided_within}
use Rattle.est_net.specs.Cells.{cell_at, decided, steps_of}
use Rattle.est_net.specs.Layout.{cell_count, node_in, output_count, parts_in, possible_codes, rank, sheet_in}
use Rattle.est_net.specs.Layout.{sure_codes}
use Rattle.est_micro.specs.Runs.{table_of}
use Rattle.est_micro.proofs.Frames.{size_least}
use Rattle.est_micro.proofs.Rounds.{rank_within, may_be}

-- the cells from place lo on and before place hi are decided
abbrev Known : (lo hi : ℕ) (f : ℕ → Status) → Type 0
Known lo hi f = (i : ℕ) → lo ≤ i → i < hi → f i ≢ Unknown

-- where as many cells are decided as there are, each is
head_known : (x : Status) (xs : List Status) → decided (x ∷ xs) ≡ length (x ∷ xs) → x ≢ Unknown
head_known Present xs h e = let z : Present ≡ Unknown = e in cc
head_known Absent xs h e = let z : Absent ≡ Unknown = e in cc
head_known Unknown xs h e =
    let k = decided_within xs in
    let o : decided (Unknown ∷ xs) ≡ steps_of Unknown + decided xs = sum_by-cons steps_of Unknown xs in
    absurd (omega arith)

rest_known : (x : Status) (xs : List Status) → x ≢ Unknown → decided (x ∷ xs) ≡ length (x ∷ xs)
    → decided xs ≡ length xs
rest_known Present xs n h =
    let o : decided (Present ∷ xs) ≡ steps_of Present + decided xs = sum_by-cons steps_of Present xs in
    omega arith
rest_known Absent xs n h =
    let o : decided (Absent ∷ xs) ≡ steps_of Absent + decided xs = sum_by-cons steps_of Absent xs in
    omega arith
rest_known Unknown xs n h = absurd (n refl)

each_known : (cells : List Status) → decided cells ≡ length cells → (i : ℕ) → i < length cells
    → cell_at cells i ≢ Unknown
each_known [] h i l = absurd (omega arith)
each_known (x ∷ xs) h zero l = head_known x xs h
each_known (x ∷ xs) h (suc i) l = each_known xs (rest_known x xs (head_known x xs h) h) i (omega arith)

-- the cells of a statement
true_then : (v : Status) → is_possible v ≡ true → v ≢ Unknown → is_sure v ≡ true
true_then Present h n = refl
true_then Absent h n = let z : false ≡ true = h in cc
true_then Unknown h n = absurd (n refl)

codes_decided : (f : ℕ → Status) (c n : ℕ) → Known c (c + n) f → IsIn (possible_codes f c n) (sure_codes f c n)
unfolding possible_codes sure_codes
codes_decided f c n h k e =
    let p = and_parts (ltb k n) (is_possible (f (c + k))) e in
    let l : k < n = ltb-true k n p.0 in
    let s = true_then (f (c + k)) p.1 (h (c + k) (omega arith) (omega arith)) in
    rw (p.0, s) refl

node_decided : {P : Type 0} (f : ℕ → Status) (c t : ℕ) (R : P → Type 0) (x : P) → Known c (c + t + 3) f → R x
    → NodeDecided P R (node_in f c t x)
node_decided f c t R x h r = record {
  cells = record {
    go = h c (omega arith) (omega arith);
    codes = codes_decided f (c + 1) (t + 2) (λ i l u. h i (omega arith) (omega arith));
  };
  parts = r;
}

again_decided : (main : Bool) (f : ℕ → Status) (p : Statement) (e t : ℕ)
    → Known e (e + cond main (sheet_size false p t) 0) f
    → (Known (e + t + 3) (e + sheet_size false p t) f → PartsDecided false p (parts_in f false p e t))
    → AgainDecided main (NodeDecided _ (PartsDecided false p))
    (make_again main (node_in f e t (parts_in f false p e t)))
again_decided true f p e t h k =
    let o = size_least false p t in
    node_decided f e t (PartsDecided false p) _ (λ i l u. h i l (omega arith)) (k (λ i l u. h i (omega arith) u))
again_decided false f p e t h k = tt

parts_decided : (main : Bool) (s : Statement) (f : ℕ → Status) (c t : ℕ)
    → Known (c + t + 3) (c + sheet_size main s t) f → PartsDecided main s (parts_in f main s c t)
parts_decided main Nothing f c t h = tt
parts_decided main (Pause n) f c t h = tt
parts_decided main (Emit s) f c t h = tt
parts_decided main (Exit k) f c t h = tt
parts_decided main (Present' x a p b q) f c t h =
    let d = c + t + 3 in
    let e = d + sheet_size main p t in
    let o = size_least main p t in
    let o2 = size_least main q t in (
      node_decided f d t (PartsDecided main p) _ (λ i l u. h i (omega arith) (omega arith))
          (parts_decided main p f d t (λ i l u. h i (omega arith) (omega arith))),
      node_decided f e t (PartsDecided main q) _ (λ i l u. h i (omega arith) (omega arith))
          (parts_decided main q f e t (λ i l u. h i (omega arith) (omega arith))),
    )
parts_decided main (Suspend' x a p) f c t h =
    let d = c + t + 3 in
    let o = size_least main p t in
    node_decided f d t (PartsDecided main p) _ (λ i l u. h i (omega arith) (omega arith))
    (parts_decided main p f d t (λ i l u. h i (omega arith) (omega arith)))
parts_decided main (Seq' a p b q) f c t h =
    let d = c + t + 3 in
    let e = d + sheet_size main p t in
    let o = size_least main p t in
    let o2 = size_least main q t in (
      node_decided f d t (PartsDecided main p) _ (λ i l u. h i (omega arith) (omega arith))
          (parts_decided main p f d t (λ i l u. h i (omega arith) (omega arith))),
      node_decided f e t (PartsDecided main q) _ (λ i l u. h i (omega arith) (omega arith))
          (parts_decided main q f e t (λ i l u. h i (omega arith) (omega arith))),
    )
parts_decided main (Loop' x p) f c t h =
    let d = c + t + 3 in
    let e = d + sheet_size main p t in
    let o = size_least main p t in (
      node_decided f d t (PartsDecided main p) _ (λ i l u. h i (omega arith) (omega arith))
          (parts_decided main p f d t (λ i l u. h i (omega arith) (omega arith))),
      again_decided main f p e t (λ i l u. h i (omega arith) (omega arith)) (λ k. parts_decided false p f e t k),
    )
parts_decided main (Par' a p b q) f c t h =
    let d = c + t + 3 in
    let e = d + sheet_size main p t in
    let o = size_least main p t in
    let o2 = size_least main q t in (
      node_decided f d t (PartsDecided main p) _ (λ i l u. h i (omega arith) (omega arith))
          (parts_decided main p f d t (λ i l u. h i (omega arith) (omega arith))),
      node_decided f e t (PartsDecided main q) _ (λ i l u. h i (omega arith) (omega arith))
          (parts_decided main q f e t (λ i l u. h i (omega arith) (omega arith))),
    )
parts_decided main (Trap' x p) f c t h =
    let d = c + t + 3 in
    let o = size_least main p (t + 1) in
    node_decided f d (t + 1) (PartsDecided main p) _ (λ i l u. h i (omega arith) (omega arith))
    (parts_decided main p f d (t + 1) (λ i l u. h i (omega arith) (omega arith)))
parts_decided main (Binder' s x p) f c t h =
    let d = c + t + 4 in
    let o = size_least main p t in (
      h (c + t + 3) (omega arith) (omega arith),
      node_decided f d t (PartsDecided main p) _ (λ i l u. h i (omega arith) (omega arith))
          (parts_decided main p f d t (λ i l u. h i (omega arith) (omega arith))),
    )

sheet_decided : (main : Bool) (s : Statement) (f : ℕ → Status) (c t : ℕ) → Known c (c + sheet_size main s t) f
    → SheetDecided main s (sheet_in f main s c t)
sheet_decided main s f c t h =
    let o = size_least main s t in
    node_decided f c t (PartsDecided main s) _ (λ i l u. h i l (omega arith))
    (parts_decided main s f c t (λ i l u. h i (omega arith) u))

-- of three sheets
cells_then : {a b c : Cells} → CellsBelow a b → CellsBelow b c → CellsBelow a c
cells_then x y = record {
  go = below_then x.go y.go;
  must = λ k h. y.must k (x.must k h);
  may = λ k h. x.may k (y.may k h);
  whole = y.whole;
}

again_then : {A : Type 0} (main : Bool) (R : A → A → Type 0) (a b c : Again main A)
    → ((x y z : A) → R x y → R y z → R x z) → AgainBelow main R a b → AgainBelow main R b c → AgainBelow main R a c
again_then true R a b c f h k = f a b c h k
again_then false R a b c f h k = tt

sheet_then : (main : Bool) (s : Statement) (a b c : Sheet main s) → Below main s a b → Below main s b c
    → Below main s a c
sheet_then main Nothing a b c x y = record { cells = cells_then x.cells y.cells; parts = tt }
sheet_then main (Pause n) a b c x y = record { cells = cells_then x.cells y.cells; parts = tt }
sheet_then main (Emit s) a b c x y = record { cells = cells_then x.cells y.cells; parts = tt }
sheet_then main (Exit k) a b c x y = record { cells = cells_then x.cells y.cells; parts = tt }
sheet_then main (Present' t e p f q) a b c x y = record {
  cells = cells_then x.cells y.cells;
  parts = record {
    first = sheet_then main p _ _ _ x.parts.first y.parts.first;
    second = sheet_then main q _ _ _ x.parts.second y.parts.second;
  };
}
sheet_then main (Suspend' t e p) a b c x y =
    record { cells = cells_then x.cells y.cells; parts = sheet_then main p _ _ _ x.parts y.parts }
sheet_then main (Seq' e p f q) a b c x y = record {
  cells = cells_then x.cells y.cells;
  parts = record {
    first = sheet_then main p _ _ _ x.parts.first y.parts.first;
    second = sheet_then main q _ _ _ x.parts.second y.parts.second;
  };
}
sheet_then main (Loop' e p) a b c x y = record {
  cells = cells_then x.cells y.cells;
  parts = record {
    first = sheet_then main p _ _ _ x.parts.first y.parts.first;
    second = again_then main (Below false p) a.parts.second b.parts.second c.parts.second
        (λ u v w k l. sheet_then false p u v w k l) x.parts.second y.parts.second;
  };
}
sheet_then main (Par' e p f q) a b c x y = record {
  cells = cells_then x.cells y.cells;
  parts = record {
    first = sheet_then main p _ _ _ x.parts.first y.parts.first;
    second = sheet_then main q _ _ _ x.parts.second y.parts.second;
  };
}
sheet_then main (Trap' e p) a b c x y =
    record { cells = cells_then x.cells y.cells; parts = sheet_then main p _ _ _ x.parts y.parts }
sheet_then main (Binder' s e p) a b c x y = record {
  cells = cells_then x.cells y.cells;
  parts = record {
    status = below_then x.parts.status y.parts.status;
    body = sheet_then main p _ _ _ x.parts.body y.parts.body;
  };
}

-- a status that is decided, and below another
known_back : (v w : Status) → IsBelow v w → v ≢ Unknown → IsBelow w v
known_back v w (inl e) n = absurd (n e)
known_back v w (inr e) n = inr (sym e)

-- no cell of it is open
pub full_decided : (k : Kernel) (inputs : ℕ → Bool) (cells : List Status)
    → IsWithinPlaces (judged_signals k.interface inputs) → length cells ≡ cell_count k
    → decided cells ≡ length cells
    → TableDecided (judged_signals k.interface inputs) k.root (table_of k.interface k.root cells)
full_decided k inputs cells w size all =
    let i = k.interface in
    let known : (n : ℕ) → n < length cells → cell_at cells n ≢ Unknown = each_known cells all in
    record {
      outputs = λ n l.
          let r = rank_within (emittable i) (length i) n (w n l) (may_be i inputs n l) in
          known (rank i n) (omega arith);
      sheet = sheet_decided true k.root (cell_at cells) (output_count i) 0 (λ n l u. known n (omega arith));
    }

pub full_closed : (k : Kernel) (x : State) (inputs : ℕ → Bool) (cells : List Status)
    → IsWithinPlaces (judged_signals k.interface inputs) → length cells ≡ cell_count k
    → decided cells ≡ length cells
    → TableBelow (judged_signals k.interface inputs) k.root (table_of k.interface k.root cells)
    (table_meaning (judged_signals k.interface inputs) inputs k.root x)
    → TableBelow (judged_signals k.interface inputs) k.root
    (table_gates (judged_signals k.interface inputs) inputs k.root x (table_of k.interface k.root cells))
    (table_of k.interface k.root cells)
full_closed k x inputs cells w size all sound =
    let i = k.interface in
    let j = judged_signals i inputs in
    let T = table_of i k.root cells in
    let M = table_meaning j inputs k.root x in
    let g = table_sound j w inputs k.root x T sound in
    let d = full_decided k inputs cells w size all in
    record {
      outputs = λ n l. below_then (g.outputs n l)
          (known_back (T.outputs n) (M.outputs n) (sound.outputs n l) (d.outputs n l));
      sheet = sheet_then true k.root _ M.sheet T.sheet g.sheet
          (decided_back true k.root T.sheet M.sheet sound.sheet d.sheet);
    }
