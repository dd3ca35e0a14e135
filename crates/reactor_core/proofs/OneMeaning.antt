-- After a journal one module runs at most, and it leaves one term at most.
use Rattle.std.proofs.Common.{◌≡◌, ℕ, Bool, true, List, [], ◌∷◌, ◌++◌, refl, ap, sym, ◌∙◌, subst, inl, inr}
use Rattle.std.specs.Prelude.{is_some, Ok}
use Rattle.std.proofs.lemmas.Option.{same_Some}
use Rattle.est_kernel.specs.Bits.{bits}
use Rattle.est_kernel.specs.Term.{Term}
use Rattle.est_kernel.specs.declared.interface.Declaration.{Declaration}
use Rattle.est_relations.specs.Keeping.{AreLawful}
use Rattle.est_relations.specs.Offers.{PendingInputs, IsFirstImplied, ReadyAnswer}
use Rattle.est_relations.specs.declared.relations.Relation.{Relation}
use Rattle.est_relations.proofs.Answering.{all_hold}
use Rattle.est_meaning.specs.Rounds.{judged_signals}
use Rattle.est_meaning.proofs.OneReactionAtMost.{one_reaction}
use Rattle.reactor_core.specs.declared.entry.Load.{Load as LoadEntry}
use Rattle.reactor_core.specs.declared.entry.PastInstant.{PastInstant}
use Rattle.reactor_core.specs.Meaning.{PastMove}
use Rattle.reactor_core.specs.declared.entry.Move.TheVariants.{Load, Offer, Discard, Step, Unload}
use Rattle.reactor_core.specs.declared.entry.SlotEntry.{SlotEntry}
use Rattle.reactor_core.specs.Loading.{GivenModule}
use Rattle.reactor_core.specs.Reacting.{ReactsWith}
use Rattle.reactor_core.specs.Meaning.{entry, instant, ModuleOf, Running, RunsAfter, Leaves, loaded, offered, discarded}
use Rattle.reactor_core.specs.Meaning.{stepped, is_loaded, mask_of, offers_of, pending_of}
use Rattle.reactor_core.specs.Instants.{IsOutcome, HasNoOutcome, LacksImplied, KeepsRelations}

-- a load entry is of one module at most (the law one_module)
abbrev pub OneModule : Type 0
OneModule = (load : LoadEntry) (m n : GivenModule) → ModuleOf load m → ModuleOf load n → m ≡ n

-- what runs with the same parts is the same
same_parts : (r s : Running) → r.interface ≡ s.interface → r.relations ≡ s.relations → r.pending ≡ s.pending
    → r.instants ≡ s.instants → r ≡ s
same_parts r s interface relations pending instants =
    ap (λ (i : List Declaration). let x : Running = record
    { interface = i; relations = r.relations; pending = r.pending; instants = r.instants } in x) interface
    ∙ ap (λ (i : List Relation). let x : Running = record
    { interface = s.interface; relations = i; pending = r.pending; instants = r.instants } in x) relations
    ∙ ap (λ (p : ℕ). let x : Running = record {
      interface = s.interface;
      relations = s.relations;
      pending = p;
      instants = r.instants;
    } in x) pending
    ∙ ap (λ (past : List PastInstant). let x : Running = record
    { interface = s.interface; relations = s.relations; pending = s.pending; instants = past } in x) instants

-- the module that runs
abbrev module_of : (r : Running) → Term → GivenModule
module_of r term = record { interface = r.interface; relations = r.relations; term = term }

-- one module runs at most
pub same_running : OneModule → (journal : List SlotEntry) (r s : Running) → RunsAfter journal r → RunsAfter journal s
    → r ≡ s
same_running modules journal r s one other =
    let load : one.load ≡ other.load = same_Some one.load other.load (sym one.last ∙ other.last) in
    let is : ModuleOf other.load (module_of r one.term) =
    subst (λ (l : LoadEntry). ModuleOf l (module_of r one.term)) load one.is in
    let same : module_of r one.term ≡ module_of s other.term =
    modules other.load (module_of r one.term) (module_of s other.term) is other.is in
    let interface : r.interface ≡ s.interface = ap (λ (m : GivenModule). m.interface) same in
    let offers : mask_of r.interface (offers_of journal) ≡ mask_of s.interface (offers_of journal) =
    ap (λ (i : List Declaration). mask_of i (offers_of journal)) interface in
    same_parts r s interface (ap (λ (m : GivenModule). m.relations) same) (one.offered ∙ offers ∙ sym other.offered)
    (one.past ∙ sym other.past)

-- what runs is loaded
pub is_loaded_where : (journal : List SlotEntry) (r : Running) → RunsAfter journal r → is_loaded journal ≡ true
is_loaded_where journal r runs = ap is_some runs.last

-- two reactions of what runs emit the same signals and leave the same term
same_reaction : (r s : Running) (t u next rest : Term) (a b : ℕ) → r ≡ s → t ≡ u
    → ReactsWith r.interface t r.pending a next → ReactsWith s.interface u s.pending b rest
    → ((n : ℕ) → bits a n ≡ bits b n) × (next ≡ rest)
same_reaction r s t u next rest a b runs terms one other =
    let same : ReactsWith r.interface t r.pending b rest =
    subst (λ (m : Running). ReactsWith m.interface t m.pending b rest) (sym runs)
    (subst (λ (v : Term). ReactsWith s.interface v s.pending b rest) (sym terms) other) in
    let g = one_reaction (judged_signals r.interface (bits r.pending)) (bits r.pending) t (bits a) next
    (bits b) rest one same in
    ((λ n. ap (λ (f : ℕ → Bool). f n) g.shown), g.next)

-- a step of the term that is left leaves this one
record StepLeaves (before : List SlotEntry) (inputs : ℕ) (next : Term) : Type 0 where
  term : Term
  leaves : Leaves before term
  r : Running
  running : RunsAfter before r
  outputs : ℕ
  reacts : ReactsWith r.interface term r.pending outputs next

-- what the last entry, after those before it, leaves
abbrev LeavesAfter : List SlotEntry → PastMove → Term → Type 0
LeavesAfter before (Load l) t = (m : GivenModule) × (m.term ≡ t) × ModuleOf l m
LeavesAfter before (Offer name) t = Leaves before t
LeavesAfter before Discard t = Leaves before t
LeavesAfter before (Step i) t = StepLeaves before i.inputs t
LeavesAfter before Unload t = ⊥

record IsLast (journal : List SlotEntry) (t : Term) : Type 0 where
  before : List SlotEntry
  last : SlotEntry
  whole : journal ≡ before ++ last ∷ []
  leaves : LeavesAfter before last.done t

last_of : (journal : List SlotEntry) (t : Term) → Leaves journal t → IsLast journal t
last_of _ _ (loaded before stamp l m is) =
    record { before = before; last = entry stamp (Load l); whole = refl; leaves = (m, refl, is) }
last_of _ _ (offered before term h stamp name) = record
    { before = before; last = entry stamp (Offer name); whole = refl; leaves = h }
last_of _ _ (discarded before term h stamp) =
    record { before = before; last = entry stamp Discard; whole = refl; leaves = h }
last_of _ _ (stepped before term h r running outputs next reacts stamp) =
    record {
      before = before;
      last = entry stamp (Step (instant r.pending outputs));
      whole = refl;
      leaves = record { term = term; leaves = h; r = r; running = running; outputs = outputs; reacts = reacts };
    }

apart : {A : Type 0} {B : Type 0} (x : A) (ys : List A) (y : A) → [] ≡ ys ++ y ∷ [] → B
apart x [] y e = absurd cc
apart x (z ∷ ys) y e = absurd cc

snoc_same : {A : Type 0} (xs ys : List A) (x y : A) → xs ++ x ∷ [] ≡ ys ++ y ∷ [] → (xs ≡ ys) × (x ≡ y)
snoc_same [] [] x y e = (refl, cc)
snoc_same [] (z ∷ ys) x y e = apart x ys y cc
snoc_same (z ∷ xs) [] x y e = apart x xs x cc
snoc_same (w ∷ xs) (z ∷ ys) x y e =
    let heads : w ≡ z = cc in
    let tails : xs ++ x ∷ [] ≡ ys ++ y ∷ [] = cc in
    let r = snoc_same xs ys x y tails in (cc, r.1)

pub one_term : OneModule → (journal : List SlotEntry) (t u : Term) → Leaves journal t → Leaves journal u → t ≡ u
one_term modules _ _ u (loaded before stamp l m is) h =
    let g = last_of _ u h in
    let s = snoc_same before g.before (entry stamp (Load l)) g.last g.whole in
    let x = subst (λ (e : SlotEntry). LeavesAfter g.before e.done u) (sym s.1) g.leaves in
    ap (λ (n : GivenModule). n.term) (modules l m x.0 is x.2) ∙ x.1
one_term modules _ _ u (offered before term k stamp name) h =
    let g = last_of _ u h in
    let s = snoc_same before g.before (entry stamp (Offer name)) g.last g.whole in
    let x = subst (λ (e : SlotEntry). LeavesAfter g.before e.done u) (sym s.1) g.leaves in
    one_term modules before term u k (subst (λ (b : List SlotEntry). Leaves b u) (sym s.0) x)
one_term modules _ _ u (discarded before term k stamp) h =
    let g = last_of _ u h in
    let s = snoc_same before g.before (entry stamp Discard) g.last g.whole in
    let x = subst (λ (e : SlotEntry). LeavesAfter g.before e.done u) (sym s.1) g.leaves in
    one_term modules before term u k (subst (λ (b : List SlotEntry). Leaves b u) (sym s.0) x)
one_term modules _ _ u (stepped before term k r running outputs next reacts stamp) h =
    let g = last_of _ u h in
    let s = snoc_same before g.before (entry stamp (Step (instant r.pending outputs))) g.last g.whole in
    let x = subst (λ (e : SlotEntry). LeavesAfter g.before e.done u) (sym s.1) g.leaves in
    let terms : term ≡ x.term = one_term modules before term x.term k
    (subst (λ (b : List SlotEntry). Leaves b x.term) (sym s.0) x.leaves) in
    let runs : r ≡ x.r = same_running modules before r x.r running
    (subst (λ (b : List SlotEntry). RunsAfter b x.r) (sym s.0) x.running) in
    (same_reaction r x.r term x.term next u outputs x.outputs runs terms reacts x.reacts).1

-- the next instant has one outcome at most
pub same_outcome : OneModule → (journal : List SlotEntry) (a b : ℕ) (t u : Term) → IsOutcome journal a t
    → IsOutcome journal b u
    → ((n : ℕ) → bits a n ≡ bits b n) × (t ≡ u)
same_outcome modules journal a b t u one other =
    same_reaction one.running other.running one.term other.term t u a b
    (same_running modules journal one.running other.running one.runs other.runs)
    (one_term modules journal one.term other.term one.leaves other.leaves) one.reacts other.reacts

-- where there is an outcome, nothing is stuck
pub not_both : OneModule → (journal : List SlotEntry) (outputs : ℕ) (next : Term) (undecided : ℕ)
    → IsOutcome journal outputs next → HasNoOutcome journal undecided → ⊥
not_both modules journal outputs next undecided h k =
    let runs : h.running ≡ k.running = same_running modules journal h.running k.running h.runs k.runs in
    let terms : h.term ≡ k.term = one_term modules journal h.term k.term h.leaves k.leaves in
    let same : ReactsWith k.running.interface k.term k.running.pending outputs next =
    subst (λ (t : Term). ReactsWith k.running.interface t k.running.pending outputs next) terms
    (subst (λ (r : Running). ReactsWith r.interface h.term r.pending outputs next) runs h.reacts) in
    k.stuck.cannot same.signals same.code next same.gives

-- where an instant may take what is pending, no implication lacks a signal
none_lacking : (p : PendingInputs) (number : ℕ) (missing : List ℕ) → ReadyAnswer p (Ok (record {}))
    → IsFirstImplied p number missing → ⊥
none_lacking p number missing (inl refused) first = let no = refused.answered in absurd cc
none_lacking p number missing (inr passes) first = passes.passed (number, missing) first

-- the pending inputs don't both keep each relation and lack an implied one
pub ready_or_lacking : OneModule → (journal : List SlotEntry) (number : ℕ) (missing : List ℕ)
    → LacksImplied journal number missing → KeepsRelations journal → ⊥
ready_or_lacking modules journal number missing lacks keeps =
    let same : keeps.running ≡ lacks.running = same_running modules journal keeps.running lacks.running keeps.runs
    lacks.runs in
    let lawful : AreLawful lacks.running.relations (bits lacks.running.pending) =
    subst (λ (r : Running). AreLawful r.relations (bits r.pending)) same keeps.lawful in
    none_lacking (pending_of lacks.running) number missing (all_hold (pending_of lacks.running) lawful) lacks.first
