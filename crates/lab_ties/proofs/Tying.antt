-- Ties are added, one part after another. L tells the ties of a statement at a place.
use Rattle.std.specs.Prelude.{◌≡◌, ◌≤◌, ◌+◌, ◌&&◌, ℕ, Bool, true, false, ltb, List, ◌++◌}
use Rattle.std.proofs.lemmas.Bool.{lt-ltb}
use Rattle.std.proofs.Common.{refl, sym, ap, ◌∙◌, arith, append_assoc}
use Rattle.est_kernel.specs.View.{name_of, query_of}
use Rattle.est_kernel.specs.declared.statement.LocalSignal.{LocalSignal}
use Rattle.est_kernel.specs.declared.statement.Test.{Test}
use Rattle.est_kernel.specs.declared.statement.Statement.{Statement}
use Rattle.est_kernel.specs.declared.statement.Statement.TheVariants.{Nothing, Pause, Emit, Present', Suspend', Seq'}
use Rattle.est_kernel.specs.declared.statement.Statement.TheVariants.{Loop', Par', Trap', Exit, Local' as Binder'}
use Rattle.est_meaning.specs.declared.status.Status.{Status}
use Rattle.est_cells.specs.Tables.{is_possible, is_sure, sheet_size}
use Rattle.est_net.specs.Cells.{cell_at}
use Rattle.est_net.specs.Layout.{possible_codes, sure_codes}
use Rattle.est_net.specs.Owners.{statements}
use Rattle.lab_instant.specs.declared.seen.Incarnation.{Incarnation}
use Rattle.lab_ties.specs.Ties.{Adds, AddsAgain, AddsBoth, AreTied, AreTiedAgain, AreTiedBoth, AreTiedLocals}
use Rattle.lab_ties.specs.Ties.{AreTiedLocalsAgain, after_part, again_at, is_in_doubt, is_unanswered, own_ties, reads}
use Rattle.lab_ties.specs.Ties.{tie_if, ties_at}
use Rattle.lab_ties.specs.declared.place.NextPlace.{NextPlace}
use Rattle.lab_ties.specs.declared.place.TwoPlaces.{TwoPlaces}
use Rattle.lab_ties.specs.declared.place.IncarnationPlace.{IncarnationPlace}
use Rattle.lab_ties.specs.declared.tie.Tie.{Tie}
use Rattle.lab_ties.specs.declared.tie.TieKind.TheVariants.{Waits}
use Rattle.lab_ties.specs.declared.ties.Wanted.{Wanted}

-- a place by its parts
abbrev pub place : (main : Bool) (i n c t : ℕ) → IncarnationPlace
place main i n c t = record { at = record { statement = n; number = i }; cell = c; main = main; traps = t }

-- where a statement's cells have room, its own cells have
pub own_room : (main : Bool) (s : Statement) (t c most : ℕ) → c + sheet_size main s t ≤ most → c + t + 3 ≤ most
own_room main Nothing t c most h = omega (arith, h)
own_room main (Pause n) t c most h = omega (arith, h)
own_room main (Emit s) t c most h = omega (arith, h)
own_room main (Exit k) t c most h = omega (arith, h)
own_room main (Present' x a p b q) t c most h = omega (arith, h)
own_room main (Suspend' x a p) t c most h = omega (arith, h)
own_room main (Seq' a p b q) t c most h = omega (arith, h)
own_room main (Loop' a p) t c most h = omega (arith, h)
own_room main (Par' a p b q) t c most h = omega (arith, h)
own_room main (Trap' a p) t c most h = omega (arith, h)
own_room main (Binder' s a p) t c most h = omega (arith, h)

-- a list is added after another
then_added : (old mid new xs ys : List Tie) → mid ≡ old ++ xs → new ≡ mid ++ ys → new ≡ old ++ (xs ++ ys)
then_added old mid new xs ys a b = rw (b, a, append_assoc old xs ys) refl

-- two parts
pub both_added : (L : (p : Statement) → IncarnationPlace → List Tie) (main : Bool) (i n c t : ℕ) (p q : Statement)
    (old mid new : List Tie) (next end : NextPlace) → Adds p (place main i n c t)
    (L p (place main i n c t)) old mid next
    → Adds q (place main i next.statement next.cell t) (L q (place main i next.statement next.cell t)) mid new end
    → AddsBoth p q (place main i n c t)
    (L p (place main i n c t) ++ L q (after_part p (place main i n c t))) old new
    (record { second = next.cell; after = end })
both_added L main i n c t p q old mid new next end a b =
    let a_statement = a.statement in
    let a_cell = a.cell in
    let b_statement = b.statement in
    let b_cell = b.cell in
    let b_later = b.later in
    let a_later = a.later in
    let first = L p (place main i n c t) in
    record {
      tied = then_added old mid new first _ a.tied b.tied
          ∙ (ap (λ (m : ℕ). old ++ (first ++ L q (place main i m next.cell t))) a_statement
          ∙ ap (λ (k : ℕ). old ++ (first ++ L q (place main i (n + statements p) k t))) a_cell);
      second = a_cell;
      statement = omega arith;
      cell = omega arith;
      numbers = b.numbers;
      later = b_later;
      first = a_later;
    }

-- a loop's body, and the body as the restart begins it
pub again_added : (L : (p : Statement) → IncarnationPlace → List Tie) (main : Bool) (i n c t : ℕ) (p : Statement)
    (old mid new : List Tie) (next end : NextPlace) → Adds p (place main i n c t)
    (L p (place main i n c t)) old mid next
    → Adds p (place false 1 n next.cell t) (L p (place false 1 n next.cell t)) mid new end
    → AddsAgain p (place main i n c t)
    (L p (place main i n c t) ++ L p (again_at p (place main i n c t))) old new end
again_added L main i n c t p old mid new next end a b =
    let a_cell = a.cell in
    let a_later = a.later in
    let b_statement = b.statement in
    let b_cell = b.cell in
    let b_later = b.later in
    let first = L p (place main i n c t) in
    record {
      tied = then_added old mid new first _ a.tied b.tied
          ∙ ap (λ (k : ℕ). old ++ (first ++ L p (place false 1 n k t))) a_cell;
      statement = omega arith;
      cell = omega arith;
      numbers = b.numbers;
      later = omega arith;
    }

-- a loop that can go on
pub loop_tied : (w : Wanted) (main : Bool) (i n c t : ℕ) (a : _) (p : Statement) (cells : List Status)
    (old new : List Tie) (end : NextPlace) → main ≡ true
    → AreTiedAgain w p (place main i (n + 1) (c + t + 3) t) cells old new end
    → AreTied w (Loop' a p) (place main i n c t) cells old new end
loop_tied w false i n c t a p cells old new end is_main h = let k : false ≡ true = is_main in cc
loop_tied w true i n c t a p cells old new end is_main h =
    let h_statement = h.statement in
    let h_cell = h.cell in
    let h_later = h.later in
    record {
      tied = h.tied;
      statement = omega arith;
      cell = omega arith;
      numbers = h.numbers;
      later = omega arith;
    }

-- the same of local signals
pub local_loop_tied : (main : Bool) (i n c t : ℕ) (a : _) (p : Statement) (cells : List Status)
    (old new : List Tie) (end : NextPlace) → main ≡ true
    → AreTiedLocalsAgain p (place main i (n + 1) (c + t + 3) t) cells old new end
    → AreTiedLocals (Loop' a p) (place main i n c t) cells old new end
local_loop_tied false i n c t a p cells old new end is_main h = let k : false ≡ true = is_main in cc
local_loop_tied true i n c t a p cells old new end is_main h =
    let h_statement = h.statement in
    let h_cell = h.cell in
    let h_later = h.later in
    record {
      tied = h.tied;
      statement = omega arith;
      cell = omega arith;
      numbers = h.numbers;
      later = omega arith;
    }

-- the ties of the signal that a statement declares, and those inside
pub local_tied : (main : Bool) (i n c t : ℕ) (s : LocalSignal) (a : _) (p : Statement) (cells : List Status)
    (old mid new : List Tie) (end : NextPlace)
    → mid ≡ old ++ own_ties s.index (record { statement = n; number = i }) (cell_at cells (c + t + 3)) p
    (place main i (n + 1) (c + t + 4) t) cells
    → AreTiedLocals p (place main i (n + 1) (c + t + 4) t) cells mid new end
    → AreTiedLocals (Binder' s a p) (place main i n c t) cells old new end
local_tied main i n c t s a p cells old mid new end own h =
    let h_statement = h.statement in
    let h_cell = h.cell in
    let h_later = h.later in
    record {
      tied = then_added old mid new _ _ own h.tied;
      statement = omega arith;
      cell = omega arith;
      numbers = h.numbers;
      later = omega arith;
    }

-- `present`
pub present_tied : (w : Wanted) (main : Bool) (i n c k : ℕ) (t : Test) (a : _) (p : Statement) (b : _) (q : Statement)
    (cells : List Status) (old mid new : List Tie) (both : TwoPlaces) (go first second : Status)
    (left_open is_tied : Bool)
    → go ≡ cell_at cells c → first ≡ cell_at cells (c + k + 3) → second ≡ cell_at cells both.second
    → left_open ≡ is_unanswered go first second → is_tied ≡ (left_open && reads (name_of w.name) (query_of t))
    → AreTiedBoth w p q (place main i (n + 1) (c + k + 3) k) cells old mid both
    → new ≡ mid ++ tie_if is_tied w.signal (record { statement = n; number = i }) Waits
    → AreTied w (Present' t a p b q) (place main i n c k) cells old new both.after
present_tied w main i n c k t a p b q cells old mid new both go first second left_open is_tied go_is first_is second_is
    open_is tied_is h grown =
    let h_statement = h.statement in
    let h_cell = h.cell in
    let h_later = h.later in
    let h_first = h.first in
    let h_second = h.second in
    let x = name_of w.name in
    let f = cell_at cells in
    let parts = place main i (n + 1) (c + k + 3) k in
    let F = ties_at w p parts cells in
    let G = ties_at w q (after_part p parts) cells in
    let at : Incarnation = record { statement = n; number = i } in
    let own : is_tied ≡ (is_unanswered (f c) (f (c + k + 3)) (f (c + k + 3 + sheet_size main p k))
    && reads x (query_of t))
    = tied_is ∙ ap (λ (z : Bool). z && reads x (query_of t))
    (open_is ∙ rw (go_is, first_is, second_is, h_second) refl) in
    record {
      tied = then_added old mid new (F ++ G) _ h.tied grown
          ∙ (ap (λ (z : List Tie). old ++ z) (append_assoc F G _)
          ∙ ap (λ (z : Bool). old ++ (F ++ (G ++ tie_if z w.signal at Waits))) own);
      statement = omega arith;
      cell = omega arith;
      numbers = h.numbers;
      later = omega arith;
    }

-- the code that pauses, as its cell has it
surely_told : (f : ℕ → Status) (c n k : ℕ) → ltb k n ≡ true → sure_codes f c n k ≡ is_sure (f (c + k))
unfolding sure_codes
surely_told f c n k e = rw e refl

maybe_told : (f : ℕ → Status) (c n k : ℕ) → ltb k n ≡ true → possible_codes f c n k ≡ is_possible (f (c + k))
unfolding possible_codes
maybe_told f c n k e = rw e refl

surely_pauses : (f : ℕ → Status) (c k : ℕ) (v : Status) → v ≡ f (c + 2)
    → is_sure v ≡ sure_codes f (c + 1) (k + 2) 1
surely_pauses f c k v e =
    ap is_sure (e ∙ ap f (omega arith)) ∙ sym (surely_told f (c + 1) (k + 2) 1 (lt-ltb 1 (k + 2) (omega arith)))

maybe_pauses : (f : ℕ → Status) (c k : ℕ) (v : Status) → v ≡ f (c + 2)
    → is_possible v ≡ possible_codes f (c + 1) (k + 2) 1
maybe_pauses f c k v e =
    ap is_possible (e ∙ ap f (omega arith)) ∙ sym (maybe_told f (c + 1) (k + 2) 1 (lt-ltb 1 (k + 2) (omega arith)))

-- `suspend`
pub suspend_tied : (w : Wanted) (main : Bool) (i n c k : ℕ) (t : Test) (a : _) (p : Statement) (cells : List Status)
    (old mid new : List Tie) (end : NextPlace) (go pauses : Status) (left_open is_tied : Bool)
    → go ≡ cell_at cells c → pauses ≡ cell_at cells (c + 2)
    → left_open ≡ is_in_doubt go (is_sure pauses) (is_possible pauses)
    → is_tied ≡ (left_open && reads (name_of w.name) (query_of t))
    → AreTied w p (place main i (n + 1) (c + k + 3) k) cells old mid end
    → new ≡ mid ++ tie_if is_tied w.signal (record { statement = n; number = i }) Waits
    → AreTied w (Suspend' t a p) (place main i n c k) cells old new end
suspend_tied w main i n c k t a p cells old mid new end go pauses left_open is_tied go_is pauses_is open_is tied_is h
    grown =
    let h_statement = h.statement in
    let h_cell = h.cell in
    let h_later = h.later in
    let x = name_of w.name in
    let f = cell_at cells in
    let F = ties_at w p (place main i (n + 1) (c + k + 3) k) cells in
    let at : Incarnation = record { statement = n; number = i } in
    let must = sure_codes f (c + 1) (k + 2) 1 in
    let may = possible_codes f (c + 1) (k + 2) 1 in
    let own : is_tied ≡ (is_in_doubt (f c) must may && reads x (query_of t))
    = tied_is ∙ ap (λ (z : Bool). z && reads x (query_of t))
    (open_is ∙ (ap (λ (v : Status). is_in_doubt v (is_sure pauses) (is_possible pauses)) go_is
    ∙ (ap (λ (z : Bool). is_in_doubt (f c) z (is_possible pauses)) (surely_pauses f c k pauses pauses_is)
    ∙ ap (λ (z : Bool). is_in_doubt (f c) must z) (maybe_pauses f c k pauses pauses_is)))) in
    record {
      tied = then_added old mid new F _ h.tied grown
          ∙ ap (λ (z : Bool). old ++ (F ++ tie_if z w.signal at Waits)) own;
      statement = omega arith;
      cell = omega arith;
      numbers = h.numbers;
      later = omega arith;
    }
