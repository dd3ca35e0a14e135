-- Looking for a cell among those of a statement: its own, and those of its parts.
use Rattle.std.specs.Prelude.{◌≡◌, ◌<◌, ◌≤◌, ◌+◌, ◌-◌, ℕ, Bool, true, false, cond, List, [], ◌++◌, length}
use Rattle.std.proofs.Common.{refl, sym, ◌∙◌, arith, subst}
use Rattle.est_kernel.specs.declared.statement.Statement.{Statement}
use Rattle.est_kernel.specs.declared.statement.Statement.TheVariants.{Nothing, Pause, Emit, Present', Suspend', Seq'}
use Rattle.est_kernel.specs.declared.statement.Statement.TheVariants.{Loop', Par', Trap', Exit, Local' as Binder'}
use Rattle.est_cells.specs.Tables.{sheet_size}
use Rattle.est_net.specs.Owners.{statements, own_cells, kind_at, cell_of, own_owners, inside_loop, owners_in}
use Rattle.est_net.specs.Inner.Finding.{IsAfter, IsAmong, Finds}
use Rattle.est_net.specs.declared.owners.Search.{Search}
use Rattle.est_net.specs.declared.owners.Search.TheVariants.{Found, After}
use Rattle.est_net.specs.declared.owners.Spot.{Spot}
use Rattle.est_net.specs.declared.owners.StatementCell.{StatementCell}
use Rattle.est_net.proofs.OwnerLists.{at_left, at_right, own_length, own_there, owners_length}

-- among the first of two lists, or the second
in_first : (c x : ℕ) (a b : List StatementCell) (o : StatementCell) → IsAmong c a x o → IsAmong c (a ++ b) x o
in_first c x a b o h = record { from = h.from; here = at_left a b (x - c) o h.here }

in_second : (c d x m : ℕ) (a b : List StatementCell) (o : StatementCell) → length a ≡ m → d ≡ c + m → IsAmong d b x o
    → IsAmong c (a ++ b) x o
in_second c d x m a b o l e h =
    let f = h.from in
    record { from = omega arith; here = at_right a b (x - c) (x - d) o (omega arith) h.here }

-- a cell of the statement's own
own_here : (i n t own c x : ℕ) → c ≤ x → x - c < own
    → IsAmong c (own_owners i n t own) x (cell_of i n (kind_at t (x - c)))
own_here i n t own c x l h = record { from = l; here = own_there i n t own (x - c) h }

pub own_found : (main : Bool) (s : Statement) (i n t c x : ℕ) → c ≤ x → x - c < own_cells s t
    → IsAmong c (owners_in main s i n t) x (cell_of i n (kind_at t (x - c)))
own_found main Nothing i n t c x l h = own_here i n t (t + 3) c x l h
own_found main (Pause k) i n t c x l h = own_here i n t (t + 3) c x l h
own_found main (Emit s) i n t c x l h = own_here i n t (t + 3) c x l h
own_found main (Exit k) i n t c x l h = own_here i n t (t + 3) c x l h
own_found main (Present' s a p b q) i n t c x l h = in_first c x _ _ _ (own_here i n t (t + 3) c x l h)
own_found main (Suspend' s a p) i n t c x l h = in_first c x _ _ _ (own_here i n t (t + 3) c x l h)
own_found main (Seq' a p b q) i n t c x l h = in_first c x _ _ _ (own_here i n t (t + 3) c x l h)
own_found main (Loop' a p) i n t c x l h = in_first c x _ _ _ (own_here i n t (t + 3) c x l h)
own_found main (Par' a p b q) i n t c x l h = in_first c x _ _ _ (own_here i n t (t + 3) c x l h)
own_found main (Trap' a p) i n t c x l h = in_first c x _ _ _ (own_here i n t (t + 3) c x l h)
own_found main (Binder' s a p) i n t c x l h = in_first c x _ _ _ (own_here i n t (t + 4) c x l h)

-- a statement with one part, which lies inside `within t` traps where the statement lies inside t
pub record HasPart (s p : Statement) (within : ℕ → ℕ) : Type 0 where
  pub owners : (main : Bool) (i n t : ℕ)
      → owners_in main s i n t ≡ own_owners i n t (own_cells s t) ++ owners_in main p i (n + 1) (within t)
  pub statements : statements s ≡ 1 + statements p
  pub size : (main : Bool) (t : ℕ) → sheet_size main s t ≡ own_cells s t + sheet_size main p (within t)

-- the spot after a statement's own cells
abbrev pub inside : Spot → ℕ → Spot
inside at own = record { statement = at.statement + 1; cell = at.cell + own }

pub part_finds : (main : Bool) (s p : Statement) (i : ℕ) (at : Spot) (t own : ℕ) (within : ℕ → ℕ) (x : ℕ) (r : Search)
    → HasPart s p within
    → own ≡ own_cells s t → at.statement ≤ at.cell → 3 ≤ own
    → Finds main p i (inside at own) (within t) x r → Finds main s i at t x r
part_finds main s p i at t own within x (Found o) w e a b h =
    subst (λ z. IsAmong at.cell z x o) (sym (w.owners main i at.statement t))
    (in_second at.cell (at.cell + own) x own _ _ o (own_length i at.statement t (own_cells s t) ∙ sym e) refl h)
part_finds main s p i at t own within x (After next) w e a b h =
    let size = w.size main t in
    let number = w.statements in
    let h1 = h.number in
    let h2 = h.place in
    let h3 = h.later in
    record { number = omega arith; place = omega arith; low = h.low; numbers = h.numbers; later = omega arith }

-- a statement with two parts
pub record HasTwoParts (s p q : Statement) : Type 0 where
  pub owners : (main : Bool) (i n t : ℕ)
      → owners_in main s i n t
      ≡ own_owners i n t (own_cells s t)
      ++ (owners_in main p i (n + 1) t ++ owners_in main q i (n + 1 + statements p) t)
  pub statements : statements s ≡ 1 + statements p + statements q
  pub size : (main : Bool) (t : ℕ) → sheet_size main s t ≡ own_cells s t + sheet_size main p t + sheet_size main q t

pub first_found : (main : Bool) (s p q : Statement) (i : ℕ) (at : Spot) (t own x : ℕ) (o : StatementCell)
    → HasTwoParts s p q → own ≡ own_cells s t
    → IsAmong (at.cell + own) (owners_in main p i (at.statement + 1) t) x o
    → IsAmong at.cell (owners_in main s i at.statement t) x o
first_found main s p q i at t own x o w e h =
    subst (λ z. IsAmong at.cell z x o) (sym (w.owners main i at.statement t))
    (in_second at.cell (at.cell + own) x own _ _ o (own_length i at.statement t (own_cells s t) ∙ sym e) refl
    (in_first (at.cell + own) x _ _ o h))

pub second_finds : (main : Bool) (s p q : Statement) (i : ℕ) (at next : Spot) (t own x : ℕ) (r : Search)
    → HasTwoParts s p q → own ≡ own_cells s t → IsAfter main p (inside at own) t x next
    → Finds main q i next t x r → Finds main s i at t x r
second_finds main s p q i at next t own x (Found o) w e a h =
    let k : next.statement ≡ at.statement + 1 + statements p = a.number in
    subst (λ z. IsAmong at.cell z x o) (sym (w.owners main i at.statement t))
    (in_second at.cell (at.cell + own) x own _ _ o (own_length i at.statement t (own_cells s t) ∙ sym e) refl
    (in_second (at.cell + own) next.cell x (sheet_size main p t) _ _ o (owners_length main p i (at.statement + 1) t)
    a.place (subst (λ z. IsAmong next.cell (owners_in main q i z t) x o) k h)))
second_finds main s p q i at next t own x (After then) w e a h =
    let size = w.size main t in
    let number = w.statements in
    let a1 = a.number in
    let a2 = a.place in
    let a3 = a.later in
    let h1 = h.number in
    let h2 = h.place in
    let h3 = h.later in
    record { number = omega arith; place = omega arith; low = h.low; numbers = h.numbers; later = omega arith }

-- a loop and its body
pub record HasBody (s p : Statement) : Type 0 where
  pub owners : (main : Bool) (i n t : ℕ)
      → owners_in main s i n t
      ≡ own_owners i n t (own_cells s t)
      ++ (owners_in main p (inside_loop main i) (n + 1) t ++ cond main (owners_in false p 1 (n + 1) t) [])
  pub statements : statements s ≡ 1 + statements p
  pub size : (main : Bool) (t : ℕ)
      → sheet_size main s t ≡ own_cells s t + sheet_size main p t + cond main (sheet_size false p t) 0

pub body_found : (main : Bool) (s p : Statement) (i j : ℕ) (at : Spot) (t own x : ℕ) (o : StatementCell)
    → HasBody s p → own ≡ own_cells s t → j ≡ inside_loop main i
    → IsAmong (at.cell + own) (owners_in main p j (at.statement + 1) t) x o
    → IsAmong at.cell (owners_in main s i at.statement t) x o
body_found main s p i j at t own x o w e b h =
    subst (λ z. IsAmong at.cell z x o) (sym (w.owners main i at.statement t))
    (in_second at.cell (at.cell + own) x own _ _ o (own_length i at.statement t (own_cells s t) ∙ sym e) refl
    (in_first (at.cell + own) x _ _ o
    (subst (λ z. IsAmong (at.cell + own) (owners_in main p z (at.statement + 1) t) x o) b h)))

pub again_finds : (main : Bool) (s p : Statement) (i : ℕ) (at : Spot) (n c t own x : ℕ) (r : Search) → HasBody s p
    → own ≡ own_cells s t → main ≡ true → IsAfter main p (inside at own) t x (record { statement = n; cell = c })
    → Finds false p 1 (record { statement = at.statement + 1; cell = c }) t x r → Finds main s i at t x r
again_finds true s p i at n c t own x (Found o) w e b a h =
    subst (λ z. IsAmong at.cell z x o) (sym (w.owners true i at.statement t))
    (in_second at.cell (at.cell + own) x own _ _ o (own_length i at.statement t (own_cells s t) ∙ sym e) refl
    (in_second (at.cell + own) c x (sheet_size true p t) _ _ o (owners_length true p i (at.statement + 1) t) a.place h))
again_finds true s p i at n c t own x (After then) w e b a h =
    let size = w.size true t in
    let number = w.statements in
    let a1 = a.number in
    let a2 = a.place in
    let a3 = a.later in
    let h1 = h.number in
    let h2 = h.place in
    let h3 = h.later in
    record { number = omega arith; place = omega arith; low = h.low; numbers = h.numbers; later = omega arith }
again_finds false s p i at n c t own x r w e b a h = let z : false ≡ true = b in cc
