-- Sums up to a most, along lists.
use Rattle.std.proofs.Common.{◌≡◌, ℕ, ◌+◌, ◌<◌, ◌≤◌, min, List, [], ◌∷◌, length, get_or, map, take, refl, ap, sym, ◌∙◌}
use Rattle.std.proofs.Common.{arith, rules}
use Rattle.std.proofs.lemmas.List.Sums.{fold_more}
use Rattle.std.specs.List.{fold}
use Rattle.est_syntax.specs.Views.{literal_view, conjunction_view, expression_view, literals_of, conjunctions_of}
use Rattle.est_syntax.specs.Views.{unit_view, sequence_view, statement_view, units_of, sequences_of}
use Rattle.est_syntax.specs.Tree.{conjunction, expression, sequence, statement}
use Rattle.est_syntax.specs.declared.tree.Literal.{Literal}
use Rattle.est_syntax.specs.declared.tree.Conjunction.{Conjunction}
use Rattle.est_syntax.specs.declared.tree.Expression.{Expression}
use Rattle.est_syntax.specs.declared.tree.Literal.TheViews.{out-Conjunction, out-Expression}
use Rattle.est_syntax.specs.declared.tree.Literal.TheFolds.{the_lemmas as test_lemmas}
use Rattle.est_syntax.specs.declared.tree.Unit.{Unit}
use Rattle.est_syntax.specs.declared.tree.Sequence.{Sequence}
use Rattle.est_syntax.specs.declared.tree.Statement.{Statement}
use Rattle.est_syntax.specs.declared.tree.Branches.TheViews.{out-Sequence, out-Statement}
use Rattle.est_syntax.specs.declared.tree.Branches.TheFolds.{the_lemmas}
use Rattle.est_modules.specs.Derived.{Derived, unit_derived, sequence_derived, statement_derived, then_units}
use Rattle.est_modules.specs.Derived.{beside_sequences}
use Rattle.est_modules.specs.Tests.{literal_words, conjunction_words, literals_words}
use Rattle.est_modules.specs.Tests.{expression_words, conjunctions_words}
use Rattle.est_checks.specs.Counting.{counted}

pub capped : (c a b : ℕ) → min c (min c a + min c b) ≡ min c (a + b)
capped c a b = omega arith

-- the number after a first one and those of a list, each with one more
abbrev pub all_counted : {X : Type 0} → (X → ℕ) → ℕ → List X → ℕ
all_counted f n [] = n
all_counted f n (x ∷ xs) = all_counted f (n + f x + 1) xs

-- a first number is added
pub counted_from : {X : Type 0} (f : X → ℕ) (n m : ℕ) (xs : List X) → all_counted f (n + m) xs ≡ n + all_counted f m xs
counted_from f n m [] = refl
counted_from f n m (x ∷ xs) =
    let e : n + m + f x + 1 ≡ n + (m + f x + 1) = omega arith in
    ap (λ k. all_counted f k xs) e ∙ counted_from f n (m + f x + 1) xs

joined : {X : Type 0} (f : X → ℕ) (n m : ℕ) (xs : List X) → n + all_counted f m xs + 1 ≡ all_counted f (n + m + 1) xs
joined f n m xs =
    let e : n + m + 1 ≡ (n + 1) + m = omega arith in
    let d : n + all_counted f m xs + 1 ≡ (n + 1) + all_counted f m xs = omega arith in
    d ∙ sym (counted_from f (n + 1) m xs) ∙ ap (λ k. all_counted f k xs) (sym e)

-- the number that the code has so far
abbrev pub so_far : {X : Type 0} → ℕ → (X → ℕ) → ℕ → List X → ℕ
so_far c f n xs = fold (λ k x. min c (min c (k + min c (f x)) + 1)) (min c n) xs

-- no number goes past the most
pub at_most : (c a b : ℕ) → a ≡ min c b → a ≤ c
at_most c a b e = omega arith

-- one more element is counted
pub counted_next : {X : Type 0} (c : ℕ) (f : X → ℕ) (n : ℕ) (xs : List X) (i : ℕ) (x : X) (before here both after : ℕ)
    → i < length xs → x ≡ get_or xs i x → before ≡ so_far c f n (take i xs) → here ≡ min c (f x)
    → both ≡ min c (before + here) → after ≡ min c (both + 1) → after ≡ so_far c f n (take (i + 1) xs)
counted_next {X = X} c f n xs i x before here both after room is start number add one =
    let step = λ (k : ℕ). λ (y : X). min c (min c (k + min c (f y)) + 1) in
    one ∙ ap (λ m. min c (m + 1)) add ∙ ap (λ m. min c (min c (before + m) + 1)) number
    ∙ ap (λ k. step k x) start ∙ ap (step (so_far c f n (take i xs))) is
    ∙ sym (fold_more step (min c n) xs i x room)

-- is the whole number, up to the most
pub whole_count : {X : Type 0} (c : ℕ) (f : X → ℕ) (n : ℕ) (xs : List X) → so_far c f n xs ≡ min c (all_counted f n xs)
whole_count c f n [] = refl
whole_count c f n (x ∷ xs) =
    let step : min c (min c (min c n + min c (f x)) + 1) ≡ min c (n + f x + 1) = omega arith in
    ap (λ k. fold (λ k x. min c (min c (k + min c (f x)) + 1)) k xs) step ∙ whole_count c f (n + f x + 1) xs

-- ---- the words of tests

abbrev pub literal_counted : Literal → ℕ
literal_counted l = literal_words (literal_view l)

abbrev pub conjunction_counted : Conjunction → ℕ
conjunction_counted c = conjunction_words (conjunction_view c)

later_literals : (n : ℕ) (ls : List Literal)
    → n + literals_words (literals_of (map literal_view ls)) ≡ all_counted literal_counted n ls
later_literals n [] = omega arith
later_literals n (l ∷ ls) =
    let e : n + (literal_counted l + 1 + literals_words (literals_of (map literal_view ls)))
    ≡ n + literal_counted l + 1 + literals_words (literals_of (map literal_view ls)) = omega arith in
    e ∙ later_literals (n + literal_counted l + 1) ls

later_conjunctions : (n : ℕ) (cs : List Conjunction)
    → n + conjunctions_words (conjunctions_of (map conjunction_view cs)) ≡ all_counted conjunction_counted n cs
later_conjunctions n [] = omega arith
later_conjunctions n (c ∷ cs) =
    let e : n + (conjunction_counted c + 1 + conjunctions_words (conjunctions_of (map conjunction_view cs)))
    ≡ n + conjunction_counted c + 1 + conjunctions_words (conjunctions_of (map conjunction_view cs)) = omega arith in
    e ∙ later_conjunctions (n + conjunction_counted c + 1) cs

pub conjunction_whole : (c : Conjunction) → conjunction_counted c
    ≡ all_counted literal_counted (literal_counted (out-Conjunction c).first.value) (out-Conjunction c).later.items
conjunction_whole c =
    let parts = out-Conjunction c in
    let seen : conjunction_view c
    ≡ conjunction (literal_view parts.first.value) (literals_of (map literal_view parts.later.items)) = search
    (rules, test_lemmas) in
    ap conjunction_words seen ∙ later_literals (literal_counted parts.first.value) parts.later.items

pub expression_whole : (e : Expression) → expression_words (expression_view e)
    ≡ all_counted conjunction_counted (conjunction_counted (out-Expression e).first.value)
    (out-Expression e).later.items
expression_whole e =
    let parts = out-Expression e in
    let seen : expression_view e
    ≡ expression (conjunction_view parts.first.value) (conjunctions_of (map conjunction_view parts.later.items)) =
    search (rules, test_lemmas) in
    ap expression_words seen ∙ later_conjunctions (conjunction_counted parts.first.value) parts.later.items

-- ---- the statements of units

abbrev pub unit_counted : (List ℕ → ℕ) → Unit → ℕ
unit_counted counts u = counted counts (unit_derived (unit_view u))

abbrev pub sequence_counted : (List ℕ → ℕ) → Sequence → ℕ
sequence_counted counts q = counted counts (sequence_derived (sequence_view q))

later_units : (counts : List ℕ → ℕ) (d : Derived) (us : List Unit)
    → counted counts (then_units d (units_of (map unit_view us)))
    ≡ all_counted (unit_counted counts) (counted counts d) us
later_units counts d [] = refl
later_units counts d (u ∷ us) =
    ap (λ n. counted counts d + n + 1) (later_units counts (unit_derived (unit_view u)) us)
    ∙ joined (unit_counted counts) (counted counts d) (unit_counted counts u) us

later_sequences : (counts : List ℕ → ℕ) (d : Derived) (qs : List Sequence)
    → counted counts (beside_sequences d (sequences_of (map sequence_view qs)))
    ≡ all_counted (sequence_counted counts) (counted counts d) qs
later_sequences counts d [] = refl
later_sequences counts d (q ∷ qs) =
    ap (λ n. counted counts d + n + 1) (later_sequences counts (sequence_derived (sequence_view q)) qs)
    ∙ joined (sequence_counted counts) (counted counts d) (sequence_counted counts q) qs

pub sequence_whole : (counts : List ℕ → ℕ) (q : Sequence)
    → sequence_counted counts q ≡ all_counted (unit_counted counts) (unit_counted counts (out-Sequence q).first.value)
    (out-Sequence q).later.items
sequence_whole counts q =
    let parts = out-Sequence q in
    let seen : sequence_view q ≡ sequence (unit_view parts.first.value)
    (units_of (map unit_view parts.later.items)) parts.closed = search (rules, the_lemmas) in
    ap (λ t. counted counts (sequence_derived t)) seen ∙ later_units counts
    (unit_derived (unit_view parts.first.value)) parts.later.items

pub statement_whole : (counts : List ℕ → ℕ) (t : Statement)
    → counted counts (statement_derived (statement_view t))
    ≡ all_counted (sequence_counted counts) (sequence_counted counts (out-Statement t).first.value)
    (out-Statement t).later.items
statement_whole counts t =
    let parts = out-Statement t in
    let seen : statement_view t ≡ statement (sequence_view parts.first.value)
    (sequences_of (map sequence_view parts.later.items)) = search (rules, the_lemmas) in
    ap (λ t. counted counts (statement_derived t)) seen ∙ later_sequences counts
    (sequence_derived (sequence_view parts.first.value)) parts.later.items
