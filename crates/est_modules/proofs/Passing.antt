-- What is known after statements and lists.
use Rattle.std.proofs.Common.{◌≡◌, ℕ, List, [], ◌∷◌, ◌++◌, map, refl, ap, sym, ◌∙◌, rules}
use Rattle.std.specs.List.{fold}
use Rattle.std.proofs.lemmas.List.Sums.{fold-append}
use Rattle.est_syntax.specs.Views.{unit_view, sequence_view, statement_view, units_of, sequences_of}
use Rattle.est_syntax.specs.Tree.{TestTree, sequence, statement}
use Rattle.est_syntax.specs.declared.tree.Unit.{Unit}
use Rattle.est_syntax.specs.declared.tree.Sequence.{Sequence}
use Rattle.est_syntax.specs.declared.tree.Statement.{Statement}
use Rattle.est_syntax.specs.declared.tree.Branches.TheViews.{out-Sequence, out-Statement}
use Rattle.est_syntax.specs.declared.tree.Branches.TheFolds.{the_lemmas}
use Rattle.est_modules.specs.Derived.{Derived, missing, nothing, pause, halt, emit, sustain, exit, await, present}
use Rattle.est_modules.specs.Derived.{suspend, abort, weak_abort, repeat, repeat_each, every, trap, signal, run, seq}
use Rattle.est_modules.specs.Derived.{par, unit_derived, sequence_derived, statement_derived, then_units}
use Rattle.est_modules.specs.Derived.{beside_sequences}
use Rattle.est_modules.specs.Occurrences.{Binder, signals, a_trap, tests, binds, Occurrence, tested, occurrences}
use Rattle.est_modules.specs.Tests.{test_names}
use Rattle.est_modules.specs.Inner.Walks.{past, past_names, past_test, passed}

two : {S : Type 0} (f : S → Occurrence → S) (xs ys : List Occurrence) (k : S) {m n : S} → m ≡ fold f k xs
    → n ≡ fold f m ys → n ≡ fold f k (xs ++ ys)
two f xs ys k d e = e ∙ ap (λ m. fold f m ys) d ∙ sym (fold-append f k xs ys)

-- what is known after the names of tests is what is known after their places
names_fold : {S : Type 0} (f : S → Occurrence → S) (bs : List Binder) (ns : List (List ℕ)) (k : S)
    → past_names f bs ns k ≡ fold f k (map (λ (n : List ℕ). record { act = tests n; around = bs }) ns)
names_fold f bs [] k = refl
names_fold f bs (n ∷ ns) k = names_fold f bs ns (past f bs (tests n) k)

test_fold : {S : Type 0} (f : S → Occurrence → S) (bs : List Binder) (t : TestTree) (k : S)
    → past_test f bs t k ≡ fold f k (tested bs t)
test_fold f bs t k = names_fold f bs (test_names t) k

-- what is known after a statement is what is known after its occurrences
pub passed_fold : {S : Type 0} (f : S → Occurrence → S) (bs : List Binder) (p : Derived) (k : S)
    → passed f bs p k ≡ fold f k (occurrences bs p)
passed_fold f bs missing k = refl
passed_fold f bs nothing k = refl
passed_fold f bs pause k = refl
passed_fold f bs halt k = refl
passed_fold f bs (emit s) k = refl
passed_fold f bs (sustain s) k = refl
passed_fold f bs (exit t) k = refl
passed_fold f bs (await d) k = test_fold f bs d.test k
passed_fold f bs (present t p q) k =
    two f (tested bs t) (occurrences bs p ++ occurrences bs q) k (test_fold f bs t k)
    (two f (occurrences bs p) (occurrences bs q) (past_test f bs t k) (passed_fold f bs p (past_test f bs t k))
    (passed_fold f bs q (passed f bs p (past_test f bs t k))))
passed_fold f bs (suspend p d) k =
    two f (occurrences bs p) (tested bs d.test) k (passed_fold f bs p k) (test_fold f bs d.test (passed f bs p k))
passed_fold f bs (abort p d) k =
    two f (occurrences bs p) (tested bs d.test) k (passed_fold f bs p k) (test_fold f bs d.test (passed f bs p k))
passed_fold f bs (weak_abort p d) k =
    two f (occurrences bs p) (tested bs d.test) k (passed_fold f bs p k) (test_fold f bs d.test (passed f bs p k))
passed_fold f bs (repeat p) k = passed_fold f bs p k
passed_fold f bs (repeat_each p t) k =
    two f (occurrences bs p) (tested bs t) k (passed_fold f bs p k) (test_fold f bs t (passed f bs p k))
passed_fold f bs (every d p) k =
    two f (tested bs d.test) (occurrences bs p) k (test_fold f bs d.test k)
    (passed_fold f bs p (past_test f bs d.test k))
passed_fold f bs (trap t p) k = passed_fold f (a_trap t ∷ bs) p k
passed_fold f bs (signal ns p) k = passed_fold f (signals ns ∷ bs) p (past f bs (binds ns) k)
passed_fold f bs (run m rs) k = refl
passed_fold f bs (seq p q) k = two f (occurrences bs p) (occurrences bs q) k (passed_fold f bs p k)
    (passed_fold f bs q (passed f bs p k))
passed_fold f bs (par p q) k = two f (occurrences bs p) (occurrences bs q) k (passed_fold f bs p k)
    (passed_fold f bs q (passed f bs p k))

-- ---- along lists of units and of sequences

abbrev pub unit_passed : {S : Type 0} → (S → Occurrence → S) → List Binder → S → Unit → S
unit_passed f bs k u = passed f bs (unit_derived (unit_view u)) k

abbrev pub sequence_passed : {S : Type 0} → (S → Occurrence → S) → List Binder → S → Sequence → S
sequence_passed f bs k q = passed f bs (sequence_derived (sequence_view q)) k

later_units : {S : Type 0} (f : S → Occurrence → S) (bs : List Binder) (p : Derived) (us : List Unit) (k : S)
    → passed f bs (then_units p (units_of (map unit_view us))) k ≡ fold (unit_passed f bs) (passed f bs p k) us
later_units f bs p [] k = refl
later_units f bs p (u ∷ us) k = later_units f bs (unit_derived (unit_view u)) us (passed f bs p k)

later_sequences : {S : Type 0} (f : S → Occurrence → S) (bs : List Binder) (p : Derived) (qs : List Sequence) (k : S)
    → passed f bs (beside_sequences p (sequences_of (map sequence_view qs))) k
    ≡ fold (sequence_passed f bs) (passed f bs p k) qs
later_sequences f bs p [] k = refl
later_sequences f bs p (q ∷ qs) k = later_sequences f bs (sequence_derived (sequence_view q)) qs (passed f bs p k)

pub sequence_whole : {S : Type 0} (f : S → Occurrence → S) (bs : List Binder) (q : Sequence) (k : S)
    → sequence_passed f bs k q ≡ fold (unit_passed f bs) (unit_passed f bs k (out-Sequence q).first.value)
    (out-Sequence q).later.items
sequence_whole f bs q k =
    let parts = out-Sequence q in
    let seen : sequence_view q ≡ sequence (unit_view parts.first.value)
    (units_of (map unit_view parts.later.items)) parts.closed = search (rules, the_lemmas) in
    ap (λ t. passed f bs (sequence_derived t) k) seen ∙ later_units f bs
    (unit_derived (unit_view parts.first.value)) parts.later.items k

pub statement_whole : {S : Type 0} (f : S → Occurrence → S) (bs : List Binder) (t : Statement) (k : S)
    → passed f bs (statement_derived (statement_view t)) k
    ≡ fold (sequence_passed f bs) (sequence_passed f bs k (out-Statement t).first.value) (out-Statement t).later.items
statement_whole f bs t k =
    let parts = out-Statement t in
    let seen : statement_view t ≡ statement (sequence_view parts.first.value)
    (sequences_of (map sequence_view parts.later.items)) = search (rules, the_lemmas) in
    ap (λ t. passed f bs (statement_derived t) k) seen ∙ later_sequences f bs
    (sequence_derived (sequence_view parts.first.value)) parts.later.items k
