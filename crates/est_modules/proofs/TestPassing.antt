-- What is known after the names of tests.
use Rattle.std.proofs.Common.{◌≡◌, ℕ, List, [], ◌∷◌, ◌++◌, map, refl, ap, ◌∙◌, rules}
use Rattle.std.specs.List.{fold}
use Rattle.est_syntax.specs.Views.{literal_view, conjunction_view, expression_view, literals_of, conjunctions_of}
use Rattle.est_syntax.specs.Tree.{conjunction, expression}
use Rattle.est_syntax.specs.declared.tree.Literal.{Literal}
use Rattle.est_syntax.specs.declared.tree.Conjunction.{Conjunction}
use Rattle.est_syntax.specs.declared.tree.Expression.{Expression}
use Rattle.est_syntax.specs.declared.tree.Literal.TheViews.{out-Conjunction, out-Expression}
use Rattle.est_syntax.specs.declared.tree.Literal.TheFolds.{the_lemmas}
use Rattle.est_modules.specs.Occurrences.{Binder, tests, Occurrence}
use Rattle.est_modules.specs.Tests.{literal_names, conjunction_names, literals_names, expression_names}
use Rattle.est_modules.specs.Tests.{conjunctions_names}
use Rattle.est_modules.specs.Inner.Walks.{past, past_names}

pub names_append : {S : Type 0} (f : S → Occurrence → S) (bs : List Binder) (xs ys : List (List ℕ)) (k : S)
    → past_names f bs (xs ++ ys) k ≡ past_names f bs ys (past_names f bs xs k)
names_append f bs [] ys k = refl
names_append f bs (x ∷ xs) ys k = names_append f bs xs ys (past f bs (tests x) k)

abbrev pub literal_passed : {S : Type 0} → (S → Occurrence → S) → List Binder → S → Literal → S
literal_passed f bs k l = past_names f bs (literal_names (literal_view l)) k

abbrev pub conjunction_passed : {S : Type 0} → (S → Occurrence → S) → List Binder → S → Conjunction → S
conjunction_passed f bs k c = past_names f bs (conjunction_names (conjunction_view c)) k

later_literals : {S : Type 0} (f : S → Occurrence → S) (bs : List Binder) (ls : List Literal) (k : S)
    → past_names f bs (literals_names (literals_of (map literal_view ls))) k ≡ fold (literal_passed f bs) k ls
later_literals f bs [] k = refl
later_literals f bs (l ∷ ls) k =
    names_append f bs (literal_names (literal_view l)) (literals_names (literals_of (map literal_view ls))) k
    ∙ later_literals f bs ls (literal_passed f bs k l)

later_conjunctions : {S : Type 0} (f : S → Occurrence → S) (bs : List Binder) (cs : List Conjunction) (k : S)
    → past_names f bs (conjunctions_names (conjunctions_of (map conjunction_view cs))) k
    ≡ fold (conjunction_passed f bs) k cs
later_conjunctions f bs [] k = refl
later_conjunctions f bs (c ∷ cs) k =
    names_append f bs (conjunction_names (conjunction_view c))
    (conjunctions_names (conjunctions_of (map conjunction_view cs))) k
    ∙ later_conjunctions f bs cs (conjunction_passed f bs k c)

pub conjunction_whole : {S : Type 0} (f : S → Occurrence → S) (bs : List Binder) (c : Conjunction) (k : S)
    → conjunction_passed f bs k c
    ≡ fold (literal_passed f bs) (literal_passed f bs k (out-Conjunction c).first.value) (out-Conjunction c).later.items
conjunction_whole f bs c k =
    let parts = out-Conjunction c in
    let seen : conjunction_view c
    ≡ conjunction (literal_view parts.first.value) (literals_of (map literal_view parts.later.items)) =
    search (rules, the_lemmas) in
    ap (λ t. past_names f bs (conjunction_names t) k) seen
    ∙ names_append f bs (literal_names (literal_view parts.first.value))
    (literals_names (literals_of (map literal_view parts.later.items))) k
    ∙ later_literals f bs parts.later.items (literal_passed f bs k parts.first.value)

pub expression_whole : {S : Type 0} (f : S → Occurrence → S) (bs : List Binder) (e : Expression) (k : S)
    → past_names f bs (expression_names (expression_view e)) k
    ≡ fold (conjunction_passed f bs) (conjunction_passed f bs k (out-Expression e).first.value)
    (out-Expression e).later.items
expression_whole f bs e k =
    let parts = out-Expression e in
    let seen : expression_view e
    ≡ expression (conjunction_view parts.first.value) (conjunctions_of (map conjunction_view parts.later.items)) =
    search (rules, the_lemmas) in
    ap (λ t. past_names f bs (expression_names t) k) seen
    ∙ names_append f bs (conjunction_names (conjunction_view parts.first.value))
    (conjunctions_names (conjunctions_of (map conjunction_view parts.later.items))) k
    ∙ later_conjunctions f bs parts.later.items (conjunction_passed f bs k parts.first.value)
