-- Places of elements, and statements along lists.
use Rattle.std.proofs.Common.{◌≡◌, ℕ, List, [], ◌∷◌, map, refl, ap}
use Rattle.std.proofs.Common.{Box, Global, ◌∙◌, rules}
use Rattle.est_syntax.specs.Views.{unit_view, sequence_view, statement_view, units_of, sequences_of}
use Rattle.est_syntax.specs.Tree.{sequence, statement}
use Rattle.est_syntax.specs.declared.tree.Unit.{Unit}
use Rattle.est_syntax.specs.declared.tree.Sequence.{Sequence}
use Rattle.est_syntax.specs.declared.tree.Statement.{Statement}
use Rattle.est_syntax.specs.declared.tree.Branches.TheViews.{out-Sequence, out-Statement}
use Rattle.est_syntax.specs.declared.tree.Branches.TheFolds.{the_lemmas}
use Rattle.est_modules.specs.Derived.{Derived, unit_derived, sequence_derived, statement_derived, then_units}
use Rattle.est_modules.specs.Derived.{beside_sequences}
use Rattle.est_modules.specs.Occurrences.{Binder}
use Rattle.est_modules.specs.Modules.{Program}
use Rattle.est_reduce.specs.Bodies.{Body, seq, par}
use Rattle.est_link.specs.Inner.Joins.{joined_by, chained}
use Rattle.est_link.specs.Inner.OpenBodies.{closed_of}
use Rattle.est_link.specs.declared.open_body.OpenBody.{OpenBody}
use Rattle.est_link.specs.Linking.{linked}

-- ---- statements one after another, and side by side

-- the statement of a body in a box
abbrev pub boxed_body : Box OpenBody Global → Body
boxed_body b = closed_of b.value

abbrev pub unit_linked : List Program → (List ℕ → Body) → Program → List Binder → Unit → Body
unit_linked ps bodies p bs u = linked ps bodies p bs (unit_derived (unit_view u))

abbrev pub sequence_linked : List Program → (List ℕ → Body) → Program → List Binder → Sequence → Body
sequence_linked ps bodies p bs q = linked ps bodies p bs (sequence_derived (sequence_view q))

later_units : (ps : List Program) (bodies : List ℕ → Body) (p : Program) (bs : List Binder) (d : Derived)
    (us : List Unit) → linked ps bodies p bs (then_units d (units_of (map unit_view us)))
    ≡ joined_by seq (linked ps bodies p bs d) (chained seq (unit_linked ps bodies p bs) us)
later_units ps bodies p bs d [] = refl
later_units ps bodies p bs d (u ∷ us) = ap (seq (linked ps bodies p bs d))
    (later_units ps bodies p bs (unit_derived (unit_view u)) us)

later_sequences : (ps : List Program) (bodies : List ℕ → Body) (p : Program) (bs : List Binder) (d : Derived)
    (qs : List Sequence) → linked ps bodies p bs (beside_sequences d (sequences_of (map sequence_view qs)))
    ≡ joined_by par (linked ps bodies p bs d) (chained par (sequence_linked ps bodies p bs) qs)
later_sequences ps bodies p bs d [] = refl
later_sequences ps bodies p bs d (q ∷ qs) = ap (par (linked ps bodies p bs d))
    (later_sequences ps bodies p bs (sequence_derived (sequence_view q)) qs)

pub sequence_whole : (ps : List Program) (bodies : List ℕ → Body) (p : Program) (bs : List Binder) (q : Sequence)
    → sequence_linked ps bodies p bs q ≡ joined_by seq (unit_linked ps bodies p bs (out-Sequence q).first.value)
    (chained seq (unit_linked ps bodies p bs) (out-Sequence q).later.items)
sequence_whole ps bodies p bs q =
    let parts = out-Sequence q in
    let seen : sequence_view q ≡ sequence (unit_view parts.first.value)
    (units_of (map unit_view parts.later.items)) parts.closed = search (rules, the_lemmas) in
    ap (λ t. linked ps bodies p bs (sequence_derived t)) seen
    ∙ later_units ps bodies p bs (unit_derived (unit_view parts.first.value)) parts.later.items

pub statement_whole : (ps : List Program) (bodies : List ℕ → Body) (p : Program) (bs : List Binder) (t : Statement)
    → linked ps bodies p bs (statement_derived (statement_view t))
    ≡ joined_by par (sequence_linked ps bodies p bs (out-Statement t).first.value)
    (chained par (sequence_linked ps bodies p bs) (out-Statement t).later.items)
statement_whole ps bodies p bs t =
    let parts = out-Statement t in
    let seen : statement_view t ≡ statement (sequence_view parts.first.value)
    (sequences_of (map sequence_view parts.later.items)) = search (rules, the_lemmas) in
    ap (λ t. linked ps bodies p bs (statement_derived t)) seen
    ∙ later_sequences ps bodies p bs (sequence_derived (sequence_view parts.first.value)) parts.later.items
