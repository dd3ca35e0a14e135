-- What took part in an instant, read off the cells in their order (this project's own form).
use Rattle.std.specs.Prelude.{ℕ, zero, suc, ◌+◌, ◌-◌, List, [], ◌∷◌, ◌++◌, Option, Some, None, length, slice_get}
use Rattle.est_meaning.specs.declared.status.Status.{Status}
use Rattle.est_meaning.specs.declared.status.Status.TheVariants.{Present, Absent, Unknown}
use Rattle.est_net.specs.declared.owners.CellKind.{CellKind}
use Rattle.est_net.specs.declared.owners.CellKind.TheVariants.{Go, Code, Status as OfSignal}
use Rattle.est_net.specs.declared.owners.StatementCell.{StatementCell}
use Rattle.lab_instant.specs.declared.seen.Incarnation.{Incarnation}
use Rattle.lab_instant.specs.declared.seen.Local.{Local}

-- the statement that a cell belongs to, in its incarnation
abbrev pub incarnation_of : StatementCell → Incarnation
incarnation_of o = record { statement = o.statement; number = o.incarnation }

-- a list of one, or of none
abbrev pub listed : {A : Type 0} → Option A → List A
listed (Some a) = a ∷ []
listed None = []

-- what f has at the places below n, in their order
unfoldable pub found_below : {A : Type 0} → (ℕ → Option A) → ℕ → List A
found_below f zero = []
found_below f (suc n) = found_below f n ++ listed (f n)

-- the statement, if a cell tells that it began: it is its go cell, and true
abbrev pub begun_by_kind : CellKind → Status → Incarnation → Option Incarnation
begun_by_kind Go Present at = Some at
begun_by_kind Go Absent at = None
begun_by_kind Go Unknown at = None
begun_by_kind (Code k) v at = None
begun_by_kind OfSignal v at = None

-- the statement, if a cell tells that it ran and it did not begin: it is the true cell of a code, and its go cell is
-- false
abbrev pub resumed_by_kind : CellKind → (go status : Status) → Incarnation → Option Incarnation
resumed_by_kind Go go v at = None
resumed_by_kind (Code k) Absent Present at = Some at
resumed_by_kind (Code k) Absent Absent at = None
resumed_by_kind (Code k) Absent Unknown at = None
resumed_by_kind (Code k) Present v at = None
resumed_by_kind (Code k) Unknown v at = None
resumed_by_kind OfSignal go v at = None

-- the local signal with its status, if the cell tells that
abbrev pub local_by_kind : CellKind → Status → Incarnation → Option Local
local_by_kind Go v at = None
local_by_kind (Code k) v at = None
local_by_kind OfSignal v at = Some (record { declared = at; status = v })

-- of a cell at place x, the place of its statement's go cell: a statement's own cells begin with it, and the cells of
-- its codes follow, from 0 on
abbrev pub go_place : CellKind → ℕ → ℕ
go_place (Code k) x = x - k - 1
go_place Go x = x
go_place OfSignal x = x

-- what the cell at a place tells, by its owner; f has the cells of the kernel's statement from place c on
abbrev pub begun_at : Option StatementCell → Status → Option Incarnation
begun_at None v = None
begun_at (Some o) v = begun_by_kind o.kind v (incarnation_of o)

abbrev pub resumed_at : Option StatementCell → (ℕ → Status) → ℕ → Option Incarnation
resumed_at None f x = None
resumed_at (Some o) f x = resumed_by_kind o.kind (f (go_place o.kind x)) (f x) (incarnation_of o)

abbrev pub local_at : Option StatementCell → Status → Option Local
local_at None v = None
local_at (Some o) v = local_by_kind o.kind v (incarnation_of o)

-- the statements that began; those that went on; the local signals: by the owners of the cells from place c on
abbrev pub all_begun : List StatementCell → (ℕ → Status) → ℕ → List Incarnation
all_begun owners f c = found_below (λ x. begun_at (slice_get owners x) (f (c + x))) (length owners)

abbrev pub all_resumed : List StatementCell → (ℕ → Status) → ℕ → List Incarnation
all_resumed owners f c = found_below (λ x. resumed_at (slice_get owners x) f (c + x)) (length owners)

abbrev pub all_locals : List StatementCell → (ℕ → Status) → ℕ → List Local
all_locals owners f c = found_below (λ x. local_at (slice_get owners x) (f (c + x))) (length owners)
