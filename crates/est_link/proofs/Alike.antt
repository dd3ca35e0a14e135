-- A library is linked to one flat module.
use Rattle.std.proofs.Common.{◌≡◌, ℕ, ◌<◌, List, [], ◌∷◌, refl, ap, sym, ◌∙◌, subst}
use Rattle.std.specs.Coded.{le_prop}
use Rattle.est_kernel.specs.declared.interface.TheConstants.{MOST_SIGNALS}
use Rattle.est_kernel.specs.declared.interface.Declaration.{Declaration}
use Rattle.est_kernel.specs.declared.statement.InterfaceSignal.{InterfaceSignal}
use Rattle.est_syntax.specs.Tree.{RelationTree, excludes, implies}
use Rattle.est_link.specs.FlatModules.{FlatModule, IsFlatOf}
use Rattle.est_link.specs.Linking.{IsLinked, links, linked}
use Rattle.est_link.specs.MainModule.{IsRelation, AreRelations, declarations_of}
use Rattle.est_modules.specs.Modules.{Program}
use Rattle.est_link.proofs.RunModules.{from_runs, same_linked}
use Rattle.est_modules.proofs.Testing.{some_same}
use Rattle.est_reduce.specs.Bodies.{Body}
use Rattle.est_relations.specs.declared.relations.Relation.{Relation}
use Rattle.est_relations.specs.declared.relations.Relation.TheVariants.{Exclusion, Implication}

-- ---- bodies

-- a module has one flat body
pub one_body : (ps : List Program) (m : List ℕ) (x y : Body) → IsLinked ps m x → IsLinked ps m y → x ≡ y
one_body ps m x y (links p f found below is) (links q g named under made) =
    let same : p ≡ q = some_same p q (sym found ∙ named) in
    is
    ∙ same_linked ps f g p [] p.body
    (from_runs ps (λ n. f n ≡ g n) m p found (λ n run. one_body ps n (f n) (g n) (below n run) (under n run)))
    ∙ ap (λ (r : Program). linked ps g r [] r.body) same
    ∙ sym made

-- ---- relations

abbrev place_with : (n : ℕ) → n < MOST_SIGNALS → InterfaceSignal
place_with n l = record { index = n; in_range = l }

-- a place that fits does so in one way
same_place : (i j : ℕ) → i ≡ j → (l : i < MOST_SIGNALS) (m : j < MOST_SIGNALS) → place_with i l ≡ place_with j m
same_place i j e l = subst (λ n. (m : n < MOST_SIGNALS) → place_with i l ≡ place_with n m) e
    (λ m. ap (place_with i) (le_prop l m))

one_relation : (ds : List Declaration) (t : RelationTree) (a b : Relation) → IsRelation ds t a → IsRelation ds t b
    → a ≡ b
one_relation ds (excludes x y ns) (Exclusion m) (Exclusion n) h k = ap Exclusion (h ∙ sym k)
one_relation ds (excludes x y ns) (Exclusion m) (Implication c i) h k = absurd k
one_relation ds (excludes x y ns) (Implication c i) b h k = absurd h
one_relation ds (implies x y) (Implication c i) (Implication d j) h k =
    ap (λ n. Implication n i) (same_place c.index d.index (h.0 ∙ sym k.0) c.in_range d.in_range)
    ∙ ap (Implication d) (same_place i.index j.index (h.1 ∙ sym k.1) i.in_range j.in_range)
one_relation ds (implies x y) (Implication c i) (Exclusion n) h k = absurd k
one_relation ds (implies x y) (Exclusion m) b h k = absurd h

one_relations : (ds : List Declaration) (ts : List RelationTree) (a b : List Relation) → AreRelations ds ts a
    → AreRelations ds ts b → a ≡ b
one_relations ds [] [] [] h k = refl
one_relations ds [] [] (s ∷ ss) h k = absurd k
one_relations ds [] (r ∷ rs) b h k = absurd h
one_relations ds (t ∷ ts) (r ∷ rs) (s ∷ ss) h k =
    ap (λ x. x ∷ rs) (one_relation ds t r s h.0 k.0) ∙ ap (λ xs. s ∷ xs) (one_relations ds ts rs ss h.1 k.1)
one_relations ds (t ∷ ts) (r ∷ rs) [] h k = absurd k
one_relations ds (t ∷ ts) [] b h k = absurd h

-- ---- the whole module

-- flat modules of the same parts are the same
same_parts : (a b : FlatModule) → a.interface ≡ b.interface → a.relations ≡ b.relations → a.body ≡ b.body → a ≡ b
same_parts a b interface relations body =
    ap (λ (i : List Declaration). let x : FlatModule = record { interface = i; relations = a.relations; body = a.body }
    in x) interface
    ∙ ap (λ (r : List Relation). let x : FlatModule = record
    { interface = b.interface; relations = r; body = a.body } in x) relations
    ∙ ap (λ (p : Body). let x : FlatModule = record
    { interface = b.interface; relations = b.relations; body = p } in x) body

pub one_flat : (ps : List Program) (main : List ℕ) (a b : FlatModule) → IsFlatOf ps main a → IsFlatOf ps main b → a ≡ b
one_flat ps main a b h k =
    let same : h.home ≡ k.home = some_same h.home k.home (sym h.there ∙ k.there) in
    let its : AreRelations (declarations_of k.home) k.home.relations a.relations =
    subst (λ (p : Program). AreRelations (declarations_of p) p.relations a.relations) same h.relations in
    same_parts a b
    (h.interface ∙ ap declarations_of same ∙ sym k.interface)
    (one_relations (declarations_of k.home) k.home.relations a.relations b.relations its k.relations)
    (one_body ps main a.body b.body h.body k.body)
