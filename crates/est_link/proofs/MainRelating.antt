-- The relations of the main module lie over its signals that may be offered.
use Rattle.std.proofs.Common.{◌≡◌, ℕ, suc, ◌+◌, List, [], ◌∷◌, ◌++◌, map, unwrap_or, Bool, true, false, cond, not, ◌||◌}
use Rattle.std.proofs.Common.{◌&&◌, Option, Some, None, option_map, refl, ap, sym, ◌∙◌, subst, arith}
use Rattle.std.proofs.lemmas.Bool.{false≢true, true≢false, or_right, or_left, or_parts, and_from}
use Rattle.std.proofs.lemmas.List.Folds.{list_any-append}
use Rattle.std.specs.List.{list_any, list_all, position}
use Rattle.std.specs.Str.{bytes_eq}
use Rattle.est_kernel.specs.Interfaces.{can_be_offered, offerable, is_named}
use Rattle.est_kernel.specs.declared.interface.Declaration.{Declaration}
use Rattle.est_checks.specs.Duplicates.{redeclared}
use Rattle.est_modules.specs.Visible.{stands_in}
use Rattle.est_link.specs.MainModule.{AreRelations, IsRelation, declaration_of, declarations_of, kernel_kind}
use Rattle.est_link.specs.MainModule.{member_place}
use Rattle.est_modules.specs.Modules.{is_offerable}
use Rattle.est_checks.specs.LawlessRelations.{is_past_offers, is_lawless, first_over_outputs}
use Rattle.est_modules.specs.Modules.{Program, is_offered_kind}
use Rattle.est_modules.specs.Visible.{is_tick}
use Rattle.est_modules.specs.declared.interface.Declared.{Declared}
use Rattle.est_modules.specs.declared.interface.Kind.{Kind}
use Rattle.est_modules.specs.declared.interface.Kind.TheVariants.{Input, Output, InputOutput}
use Rattle.est_link.proofs.Distinct.{kept_name}
use Rattle.est_modules.proofs.Positions.{position_cons}
use Rattle.est_modules.proofs.Testing.{same_bytes, map_none, no_place}
use Rattle.est_relations.specs.Keeping.{is_within, AreOverInputs}
use Rattle.est_relations.specs.declared.relations.Relation.{Relation}
use Rattle.est_relations.specs.declared.relations.Relation.TheVariants.{Exclusion, Implication}
use Rattle.est_syntax.specs.Tree.{RelationTree, excludes, implies}
use Rattle.est_order.proofs.SearchLemmas.{is_true}

-- ---- one signal of each name

-- a name that was seen doesn't come again
not_again : (seen ns : List (List ℕ)) (n : List ℕ) → redeclared seen ns ≡ None → stands_in seen n ≡ true
    → stands_in ns n ≡ false
not_again seen [] n h s = refl
not_again seen (m ∷ ns) n h s =
    let parts = kept_name (is_tick m || stands_in seen m) m (redeclared (seen ++ m ∷ []) ns) h in
    let unseen : stands_in seen m ≡ false = (or_parts (is_tick m) (stands_in seen m) parts.0).1 in
    other (bytes_eq m n) (stands_in ns n) (λ e. false≢true (sym unseen ∙ ap (stands_in seen) (same_bytes m n e) ∙ s))
    (not_again (seen ++ m ∷ []) ns n parts.1
    (list_any-append (λ k. bytes_eq k n) seen (m ∷ []) ∙ or_left (stands_in seen n) _ s))
  where
    other : (b c : Bool) → (b ≡ true → ⊥) → c ≡ false → (b || c) ≡ false
    other true c h k = absurd (h refl)
    other false c h k = k

declared_names : (ds : List Declared) (n : List ℕ) → list_any (λ (d : Declared). bytes_eq d.name n) ds
    ≡ stands_in (map (λ (d : Declared). d.name) ds) n
declared_names [] n = refl
declared_names (d ∷ ds) n = ap (λ b. bytes_eq d.name n || b) (declared_names ds n)

-- ---- signals that may be offered, by their names

-- the interface has a signal of this name that may be offered
abbrev has_offer : List Declared → List ℕ → Bool
has_offer ds n = list_any (λ (d : Declared). bytes_eq d.name n && is_offered_kind d.kind) ds

offer_is : (ds : List Declared) (n : List ℕ) → is_offerable ds n ≡ has_offer ds n
unfolding is_offerable
offer_is ds n = refl

offer_declared : (ds : List Declared) (n : List ℕ) → has_offer ds n ≡ true
    → list_any (λ (d : Declared). bytes_eq d.name n) ds ≡ true
offer_declared [] n h = absurd (false≢true h)
offer_declared (d ∷ ds) n h = more (bytes_eq d.name n) (is_offered_kind d.kind) (has_offer ds n) _
    (offer_declared ds n) h
  where
    more : (b k o r : Bool) → (o ≡ true → r ≡ true) → ((b && k) || o) ≡ true → (b || r) ≡ true
    more true k o r rest h = refl
    more false k o r rest h = rest h

kind_is : (k : Kind) → is_offered_kind k ≡ true → can_be_offered (kernel_kind k) ≡ true
kind_is Input h = refl
kind_is Output h = absurd (false≢true h)
kind_is InputOutput h = refl

-- the place of a name in an interface that begins with a signal
place_here : (d : Declared) (ds : List Declared) (n : List ℕ) (o : Option ℕ) (b : Bool) → bytes_eq d.name n ≡ b
    → (b ≡ true → has_offer ds n ≡ false) → (o ≡ None → has_offer ds n ≡ false)
    → ((b && is_offered_kind d.kind) || has_offer ds n) ≡ true
    → (has_offer ds n ≡ true → offerable (map declaration_of ds) (unwrap_or o 0) ≡ true)
    → offerable (map declaration_of (d ∷ ds)) (unwrap_or (cond b (Some 0) (option_map (λ i. i + 1) o)) 0) ≡ true
place_here d ds n o true e one none h rest = kind_is d.kind (first (is_offered_kind d.kind) (has_offer ds n)
    (one refl) h)
  where
    first : (k o : Bool) → o ≡ false → (k || o) ≡ true → k ≡ true
    first true o f h = refl
    first false o f h = absurd (true≢false (sym h ∙ f))
place_here d ds n None false e one none h rest = absurd (true≢false (sym h ∙ none refl))
place_here d ds n (Some i) false e one none h rest = subst (λ j. offerable (map declaration_of (d ∷ ds)) j
    ≡ true) (next i) (rest h)
  where
    next : (i : ℕ) → suc i ≡ i + 1
    next i = omega arith

not_offer : (ds : List Declared) (n : List ℕ) → list_any (λ (d : Declared). bytes_eq d.name n) ds ≡ false
    → has_offer ds n ≡ false
not_offer ds n h = un (has_offer ds n) refl
  where
    un : (b : Bool) → has_offer ds n ≡ b → has_offer ds n ≡ false
    un true e = absurd (true≢false (sym (offer_declared ds n e) ∙ h))
    un false e = e

named_same : (ds : List Declared) (n : List ℕ) → list_any (is_named n) (map declaration_of ds)
    ≡ list_any (λ (d : Declared). bytes_eq d.name n) ds
named_same [] n = refl
named_same (d ∷ ds) n = ap (λ b. bytes_eq d.name n || b) (named_same ds n)

-- the place of the name of a signal that may be offered is that of such a one
offer_at_place : (seen : List (List ℕ)) (ds : List Declared) (n : List ℕ)
    → redeclared seen (map (λ (d : Declared). d.name) ds) ≡ None → has_offer ds n ≡ true
    → offerable (map declaration_of ds) (member_place (map declaration_of ds) n) ≡ true
offer_at_place seen [] n h is = absurd (false≢true is)
offer_at_place seen (d ∷ ds) n h is =
    let parts = kept_name (is_tick d.name || stands_in seen d.name) d.name
    (redeclared (seen ++ d.name ∷ []) (map (λ (d : Declared). d.name) ds)) h in
    let o = position (is_named n) (map declaration_of ds) in
    let one : bytes_eq d.name n ≡ true → has_offer ds n ≡ false = λ e.
    not_offer ds n (declared_names ds n
    ∙ not_again (seen ++ d.name ∷ []) (map (λ (d : Declared). d.name) ds) n parts.1 (list_any-append
    (λ k. bytes_eq k n) seen (d.name ∷ [])
    ∙ or_right (stands_in seen n) _ (or_left (bytes_eq d.name n) false e))) in
    ap (λ p. offerable (map declaration_of (d ∷ ds)) (unwrap_or p 0)) (position_cons (is_named n) (declaration_of d)
    (map declaration_of ds))
    ∙ place_here d ds n o (bytes_eq d.name n) refl one (λ e. not_offer ds n (sym (named_same ds n)
    ∙ no_place (is_named n) (map declaration_of ds) e)) is
    (offer_at_place (seen ++ d.name ∷ []) ds n parts.1)

-- ---- relations

members_within : (ds : List Declared) (ns : List (List ℕ)) → redeclared [] (map (λ (d : Declared). d.name) ds)
    ≡ None → is_past_offers ds ns ≡ false
    → list_all (offerable (map declaration_of ds)) (map (member_place (map declaration_of ds)) ns) ≡ true
members_within ds [] distinct h = refl
members_within ds (n ∷ ns) distinct h =
    let parts = or_parts (not (is_offerable ds n)) (is_past_offers ds ns) h in
    and_from _ _ (offer_at_place [] ds n distinct (sym (offer_is ds n)
    ∙ is_true (is_offerable ds n) parts.0)) (members_within ds ns distinct parts.1)

relation_within : (ds : List Declared) (t : RelationTree) (r : Relation)
    → redeclared [] (map (λ (d : Declared). d.name) ds) ≡ None → is_lawless ds t ≡ false
    → IsRelation (map declaration_of ds) t r → is_within (offerable (map declaration_of ds)) r ≡ true
relation_within ds (excludes a b ns) (Exclusion members) distinct h is = ap (list_all (offerable
    (map declaration_of ds))) is ∙ members_within ds (a ∷ b ∷ ns) distinct h
relation_within ds (excludes a b ns) (Implication x y) distinct h is = absurd is
relation_within ds (implies a b) (Exclusion members) distinct h is = absurd is
relation_within ds (implies a b) (Implication x y) distinct h is =
    let inputs = offerable (map declaration_of ds) in
    let first = or_parts (not (is_offerable ds a)) _ h in
    let second = or_parts (not (is_offerable ds b)) false first.1 in
    and_from (inputs x.index) (inputs y.index)
    (ap inputs is.0 ∙ offer_at_place [] ds a distinct (sym (offer_is ds a) ∙ is_true (is_offerable ds a) first.0))
    (ap inputs is.1 ∙ offer_at_place [] ds b distinct (sym (offer_is ds b) ∙ is_true (is_offerable ds b) second.0))

all_within : (ds : List Declared) (ts : List RelationTree) (rs : List Relation)
    → redeclared [] (map (λ (d : Declared). d.name) ds) ≡ None → list_any (is_lawless ds) ts ≡ false
    → AreRelations (map declaration_of ds) ts rs → AreOverInputs (map declaration_of ds) rs
all_within ds [] [] distinct h are = refl
all_within ds [] (r ∷ rs) distinct h are = absurd are
all_within ds (t ∷ ts) [] distinct h are = absurd are
all_within ds (t ∷ ts) (r ∷ rs) distinct h are =
    let parts = or_parts (is_lawless ds t) (list_any (is_lawless ds) ts) h in
    and_from (is_within (offerable (map declaration_of ds)) r) _ (relation_within ds t r distinct parts.0 are.0)
    (all_within ds ts rs distinct parts.1 are.1)

-- relations of which none is lawless lie over the signals that may be offered
pub over_inputs : (p : Program) (rs : List Relation) → redeclared [] (map (λ (d : Declared). d.name) p.interface) ≡ None
    → first_over_outputs p ≡ None → AreRelations (declarations_of p) p.relations rs
    → AreOverInputs (declarations_of p) rs
over_inputs p rs distinct lawful are =
    all_within p.interface p.relations rs distinct
    (no_place (is_lawless p.interface) p.relations
    (map_none (λ i. i + 1) (position (is_lawless p.interface) p.relations) lawful)) are

-- ---- one more relation

pub one_related : (ds : List Declaration) (ts : List RelationTree) (rs : List Relation) (t : RelationTree)
    (r : Relation) → AreRelations ds ts rs → IsRelation ds t r → AreRelations ds (ts ++ t ∷ []) (rs ++ r ∷ [])
one_related ds [] [] t r are is = (is, tt)
one_related ds [] (x ∷ xs) t r are is = absurd are
one_related ds (y ∷ ys) [] t r are is = absurd are
one_related ds (y ∷ ys) (x ∷ xs) t r are is = (are.0, one_related ds ys xs t r are.1 is)
