-- A command on a slot has one answer, except that memory may be refused.
use Rattle.std.proofs.Common.{◌≡◌, ◌⊎◌, ◌∙◌, ℕ, Bool, ◌&&◌, List, [], ◌∷◌, ◌++◌, length, inl, inr, sym, ap, subst}
use Rattle.std.proofs.Common.{⊎_elim}
use Rattle.std.specs.Prelude.{Result, Ok, Err, MatchResult}
use Rattle.std.proofs.lemmas.Option.{same_Some}
use Rattle.refusal_rules.specs.Rules.{Rules, accept, ◌▸◌, Answers}
use Rattle.refusal_rules.proofs.RuleLemmas.{says, unless, naming}
use Rattle.est_kernel.specs.Bits.{bits}
use Rattle.est_kernel.specs.declared.interface.Declaration.{Declaration}
use Rattle.est_relations.specs.Offers.{IsFirstExcluded}
use Rattle.rbac_policy.specs.declared.commands.Entry.{Entry}
use Rattle.reactor_core.specs.declared.entry.Move.TheVariants.{Load, Offer, Discard, Step, Unload}
use Rattle.reactor_core.specs.declared.entry.PastInstant.{PastInstant}
use Rattle.reactor_core.specs.declared.entry.SlotEntry.{SlotEntry}
use Rattle.reactor_core.specs.declared.entry.Stamp.{Stamp}
use Rattle.reactor_core.specs.declared.entry.SlotWord.{SlotWord}
use Rattle.reactor_core.specs.declared.entry.SlotWord.TheVariants as word
use Rattle.reactor_core.specs.declared.refusal.ReactorRefusal.{ReactorRefusal}
use Rattle.reactor_core.specs.declared.refusal.ReactorRefusal.TheVariants as reactor
use Rattle.reactor_core.specs.Answers.{LoadAnswer, load_of, load_rules, reactor_offer_rules}
use Rattle.reactor_core.specs.Loading.{GivenModule, Gives, IsLoadFault}
use Rattle.reactor_core.specs.Meaning.{entry, instant, Running, pending_of}
use Rattle.reactor_core.proofs.OneMeaning.{OneModule, same_running, same_outcome, not_both, ready_or_lacking}
use Rattle.access_core.specs.declared.command.SlotCommand.{SlotCommand}
use Rattle.access_core.specs.declared.command.SlotCommand.TheVariants.{Move, Look, Audit}
use Rattle.access_core.specs.declared.refusal.Refusal.{Refusal}
use Rattle.access_core.specs.declared.refusal.Refusal.TheVariants.{Stuck, Memory}
use Rattle.access_core.specs.declared.reply.Reply.{Reply}
use Rattle.access_core.specs.declared.reply.Reply.TheVariants.{Refused, Look as Shown}
use Rattle.access_core.specs.Answering.{IsRefused}
use Rattle.access_core.specs.Refusals.{of_reactor}
use Rattle.access_core.specs.Shown.{Observes, name_at, status_at, names_of, shown_of}
use Rattle.access_core.specs.SlotStep.{SlotStep, slot_rules, Does, Loads, Offers, Steps, Looks, NamesUndecided}
use Rattle.access_core.specs.SlotStep.{stamp_of, no_reaction, implied_refusal, tells_added}
use Rattle.reactor_core.specs.Instants.{not_ready}
use Rattle.access_core.proofs.OneNaming.{one_excluded, one_lacking, one_undecided, same_mask, same_sight, same_kept}
use Rattle.access_core.proofs.Settling.{IsDefiniteApart, AllDefiniteApart, settled_unless, settled_says, settled_apart}
use Rattle.access_core.proofs.Settling.{settled_converted, both_answers}

-- a text and a name have one first fault at most, and none where they give a module, except that memory may be refused
-- (the law one_load)
pub record OneLoad : Type 0 where
  pub fault : (main text : List ℕ) (a b : ReactorRefusal) → IsLoadFault main text a → IsLoadFault main text b
      → (a ≡ b) ⊎ (a ≡ reactor.Memory) ⊎ (b ≡ reactor.Memory)
  pub never_both : (main text : List ℕ) (m : GivenModule) (a : ReactorRefusal) → Gives main text m
      → IsLoadFault main text a → a ≡ reactor.Memory

-- memory was refused
abbrev pub IsWant : Refusal → Type 0
IsWant refusal = refusal ≡ Memory

abbrev IsReactorWant : ReactorRefusal → Type 0
IsReactorWant refusal = refusal ≡ reactor.Memory

-- the same reply, and the same afterwards
abbrev pub Same : {S : Type 0} (r s : Reply) (a b : S) → Type 0
Same r s a b = (r ≡ s) × (a ≡ b)

-- other words for the refusals and for what follows
pub mapped : {R : Type 0} (rules : Rules R) (Before Other : R → Type 0) (Next Then : Type 0)
    → ((refusal : R) → Before refusal → Other refusal) → (Next → Then) → Answers rules Before Next
    → Answers rules Other Then
mapped accept Before Other Next Then refuses goes_on h = goes_on h
mapped (rule ▸ later) Before Other Next Then refuses goes_on (inl r) =
    inl (record { refusal = r.refusal; given = r.given; answered = refuses r.refusal r.answered })
mapped (rule ▸ later) Before Other Next Then refuses goes_on (inr p) =
    inr (record { passed = p.passed; next = mapped later Before Other Next Then refuses goes_on p.next })

pub same_err : {A B : Type 0} (x y : B) → (let r : Result A B = Err x in r) ≡ Err y → x ≡ y
same_err x y e = cc

pub no_ok : {A B C : Type 0} (x : B) (y : A) → (let r : Result A B = Err x in r) ≡ Ok y → C
no_ok x y e = absurd cc

pub no_err : {A B C : Type 0} (x : A) (y : B) → (let r : Result A B = Ok x in r) ≡ Err y → C
no_err x y e = absurd cc

-- what a load is answered, by its rules
abbrev LoadDone : Stamp → (main text : List ℕ) → (before : List SlotEntry) → Reply → (after : List SlotEntry) → Type 0
LoadDone stamp main text before reply after =
    (after ≡ before ++ entry stamp (Load (load_of main text)) ∷ [])
    × (reply ≡ tells_added word.Load stamp.version after)

load_by_rules : (stamp : Stamp) (main text : List ℕ) (before : List SlotEntry) (reply : Reply) (after : List SlotEntry)
    → Loads stamp main text before reply after
    → Answers (load_rules before main text) (λ refusal. IsRefused (of_reactor refusal) before reply after)
    (LoadDone stamp main text before reply after)
load_by_rules stamp main text before reply after h = by_answer h.answer h.given h.replied where
  by_answer : (answer : Result (List SlotEntry) (ReactorRefusal × List SlotEntry))
      → LoadAnswer before stamp main text answer
      → MatchResult answer
      (λ journal. (after ≡ journal) × (reply ≡ tells_added word.Load stamp.version after))
      (λ refused. IsRefused (of_reactor refused.0) before reply after)
      → Answers (load_rules before main text) (λ refusal. IsRefused (of_reactor refusal) before reply after)
      (LoadDone stamp main text before reply after)
  by_answer (Ok journal) given replied =
      mapped (load_rules before main text) _ _ _ _ (λ refusal e. no_err journal (refusal, before) e)
      (λ done. let e = done.1 in let same : journal ≡ done.0 = cc in (replied.0 ∙ same ∙ done.2.added, replied.1)) given
  by_answer (Err refused) given replied =
      mapped (load_rules before main text) _ _ _ _
      (λ refusal e.
      let same : refused.0 ≡ refusal = ap (λ (p : ReactorRefusal × List SlotEntry). p.0)
      (same_err refused (refusal, before) e) in
      subst (λ (x : ReactorRefusal). IsRefused (of_reactor x) before reply after) same replied)
      (λ done. no_ok refused done.0 done.1) given

-- what an offer is answered, by its rules
abbrev OfferDone : Stamp → (signal : List ℕ) → (before : List SlotEntry) → Reply → (after : List SlotEntry) → Type 0
OfferDone stamp signal before reply after =
    (after ≡ before ++ entry stamp (Offer signal) ∷ []) × (reply ≡ tells_added word.Offer stamp.version after)

offer_by_rules : (stamp : Stamp) (signal : List ℕ) (before : List SlotEntry) (reply : Reply) (after : List SlotEntry)
    → (h : Offers stamp signal before reply after)
    → Answers (reactor_offer_rules before h.given.running signal)
    (λ refusal. IsRefused (of_reactor refusal) before reply after)
    (OfferDone stamp signal before reply after)
offer_by_rules stamp signal before reply after h = by_answer h.answer h.given.running h.given.given h.replied where
  by_answer : (answer : Result (Unit {0}) ReactorRefusal) (r : Running)
      → Answers (reactor_offer_rules before r signal) (λ refusal. (answer ≡ Err refusal) × (after ≡ before))
      ((answer ≡ Ok (record {})) × (after ≡ before ++ entry stamp (Offer signal) ∷ []))
      → MatchResult answer (λ _. reply ≡ tells_added word.Offer stamp.version after)
      (λ refusal. IsRefused (of_reactor refusal) before reply after)
      → Answers (reactor_offer_rules before r signal) (λ refusal. IsRefused (of_reactor refusal) before reply after)
      (OfferDone stamp signal before reply after)
  by_answer (Ok done) r given replied =
      mapped (reactor_offer_rules before r signal) _ _ _ _ (λ refusal e. no_err done refusal e.0)
      (λ did. (did.1, replied)) given
  by_answer (Err refused) r given replied =
      mapped (reactor_offer_rules before r signal) _ _ _ _
      (λ refusal e. subst (λ (x : ReactorRefusal). IsRefused (of_reactor x) before reply after)
      (same_err refused refusal e.0) replied)
      (λ did. no_ok refused (record {}) did.0) given

module _ (modules : OneModule) (one_load : OneLoad) (entries : List Entry) (slot session : ℕ)
    (before : List SlotEntry) where
  -- the rules of a load, of an offer, and of a step are settled
  load_settled : (main text : List ℕ) → AllDefiniteApart IsReactorWant (load_rules before main text)
  load_settled main text = (
    record {
      exclusive = λ refusal here fault given. here (one_load.never_both main text given.0 refusal given.1 fault);
      one = λ a b here there x y.
          ⊎_elim (λ same. same) (λ want. ⊎_elim (λ w. absurd (here w)) (λ w. absurd (there w)) want)
          (one_load.fault main text a b x y);
    },
    (settled_unless, (settled_apart, record {})),
  )

  offer_settled : (r : Running) (signal : List ℕ) → AllDefiniteApart IsReactorWant (reactor_offer_rules before r signal)
  offer_settled r signal = (
    settled_converted unless,
    (
      settled_converted says,
      (
        settled_converted says,
        (
          settled_converted (naming excluded),
          (settled_unless, (settled_apart, record {})),
        ),
      ),
    ),
  ) where
    excluded : (one other : ℕ × List ℕ) → IsFirstExcluded (pending_of r) signal one.0 one.1
        → IsFirstExcluded (pending_of r) signal other.0 other.1
        → one ≡ other
    excluded one other x y =
        let same = one_excluded (pending_of r) signal one.0 other.0 one.1 other.1 x y in
        ap (λ (n : ℕ). (n, one.1)) same.0 ∙ ap (λ (name : List ℕ). (other.0, name)) same.1

  lacking_settled : IsDefiniteApart IsWant (not_ready implied_refusal before)
  lacking_settled = record {
    exclusive = λ refusal _ lacks keeps. ready_or_lacking modules before lacks.0 lacks.1 lacks.3 keeps;
    one = λ a b _ _ x y.
        let same = one_lacking modules before x.0 y.0 x.1 y.1 x.3 y.3 in
        x.2 ∙ ap (λ n. implied_refusal n x.1) same.0 ∙ ap (λ name. implied_refusal y.0 name) same.1 ∙ sym y.2;
  }

  -- the names of the undecided outputs that the session sees
  same_names : (interface : List Declaration) (sees others : ℕ → Bool) (undecided : ℕ)
      → Observes entries session slot interface sees
      → Observes entries session slot interface others → names_of interface sees undecided
      ≡ names_of interface others undecided
  same_names interface sees others undecided x y =
      same_kept (name_at interface) (λ place. sees place && bits undecided place)
      (λ place. others place && bits undecided place) (length interface)
      (λ place below. ap (λ b. b && bits undecided place)
      (same_sight entries session slot interface sees others x y place below))

  same_undecided : (a b : Refusal) → NamesUndecided entries slot session before a
      → NamesUndecided entries slot session before b → a ≡ b
  same_undecided a b x y =
      let runs : x.running ≡ y.running = same_running modules before x.running y.running x.runs y.runs in
      let mask : x.undecided ≡ y.undecided = one_undecided modules before x.undecided y.undecided x.none y.none in
      let observes : Observes entries session slot x.running.interface y.sees =
      subst (λ (r : Running). Observes entries session slot r.interface y.sees) (sym runs) y.observes in
      x.named
      ∙ ap Stuck (same_names x.running.interface x.sees y.sees x.undecided x.observes observes)
      ∙ ap (λ (u : ℕ). Stuck (names_of x.running.interface y.sees u)) mask
      ∙ ap (λ (r : Running). Stuck (names_of r.interface y.sees y.undecided)) runs
      ∙ sym y.named

  reaction_settled : IsDefiniteApart IsWant (no_reaction entries slot session before)
  reaction_settled = record {
    exclusive = λ refusal _ stuck reacts. not_both modules before reacts.0 reacts.1 stuck.undecided reacts.2 stuck.none;
    one = λ a b _ _ x y. same_undecided a b x y;
  }

  -- the rules of each command are settled
  slot_settled : (command : SlotCommand) → AllDefiniteApart IsWant (slot_rules entries slot session command before)
  slot_settled (Move (Load l)) = (settled_unless, (settled_unless, (settled_says, record {})))
  slot_settled (Move (Offer signal)) = (settled_unless, (settled_unless, (settled_unless, record {})))
  slot_settled (Move Discard) =
      (settled_unless, (settled_unless, (settled_unless, (settled_unless, (settled_apart, record {})))))
  slot_settled (Move (Step i)) = (
    settled_unless,
    (
      settled_unless,
      (settled_unless, (lacking_settled, (settled_apart, (reaction_settled, (settled_unless, record {}))))),
    ),
  )
  slot_settled (Move Unload) =
      (settled_unless, (settled_unless, (settled_unless, (settled_unless, (settled_apart, record {})))))
  slot_settled (Look n) = (settled_unless, (settled_unless, (settled_says, (settled_apart, record {}))))
  slot_settled Audit = (settled_unless, (settled_unless, record {}))

  module _ (r s : Reply) (ample : r ≡ Refused Memory → ⊥) (ample_too : s ≡ Refused Memory → ⊥)
      (a b : List SlotEntry) where
    -- a refusal that a reactor gives, and that is told, is not one of memory
    here : (refusal : ReactorRefusal) → IsRefused (of_reactor refusal) before r a → ¬ (IsReactorWant refusal)
    here refusal h want = ample (h.replied ∙ ap (λ x. Refused (of_reactor x)) want)

    there : (refusal : ReactorRefusal) → IsRefused (of_reactor refusal) before s b → ¬ (IsReactorWant refusal)
    there refusal h want = ample_too (h.replied ∙ ap (λ x. Refused (of_reactor x)) want)

    both_refused : (refusal : ReactorRefusal) → IsRefused (of_reactor refusal) before r a
        → IsRefused (of_reactor refusal) before s b → Same r s a b
    both_refused refusal x y = (x.replied ∙ sym y.replied, x.stays ∙ sym y.stays)

    -- two replies that tell of the same journal afterwards
    told : (asked : SlotWord) (version : ℕ) → a ≡ b → r ≡ tells_added asked version a → s ≡ tells_added asked version b
        → Same r s a b
    told asked version same x y = (x ∙ ap (tells_added asked version) same ∙ sym y, same)

    loads : (stamp : Stamp) (main text : List ℕ) → Loads stamp main text before r a → Loads stamp main text before s b
        → Same r s a b
    loads stamp main text x y =
        both_answers (load_rules before main text) (load_settled main text) _ _ _ _ here there both_refused
        (λ did done. told word.Load stamp.version (did.0 ∙ sym done.0) did.1 done.1)
        (load_by_rules stamp main text before r a x) (load_by_rules stamp main text before s b y)

    offers : (stamp : Stamp) (signal : List ℕ) → Offers stamp signal before r a → Offers stamp signal before s b
        → Same r s a b
    offers stamp signal x y =
        let run : x.given.running ≡ y.given.running =
        same_running modules before x.given.running y.given.running x.given.runs y.given.runs in
        both_answers (reactor_offer_rules before x.given.running signal)
        (offer_settled x.given.running signal) _ _ _ _ here there both_refused
        (λ did done. told word.Offer stamp.version (did.0 ∙ sym done.0) did.1 done.1)
        (offer_by_rules stamp signal before r a x)
        (subst (λ (q : Running). Answers (reactor_offer_rules before q signal)
        (λ refusal. IsRefused (of_reactor refusal) before s b)
        (OfferDone stamp signal before s b))
        (sym run) (offer_by_rules stamp signal before s b y))

    steps : (stamp : Stamp) → Steps stamp before r a → Steps stamp before s b → Same r s a b
    steps stamp x y =
        let o = x.adds.outcome in
        let p = y.adds.outcome in
        let run : o.running ≡ p.running = same_running modules before o.running p.running o.runs p.runs in
        let outputs : x.outputs ≡ y.outputs =
        same_mask x.outputs y.outputs (same_outcome modules before x.outputs y.outputs x.next y.next o p).0 in
        let inputs : o.running.pending ≡ p.running.pending = ap (λ (q : Running). q.pending) run in
        let added : (inputs outputs : ℕ) → List SlotEntry =
        λ inputs outputs. before ++ entry stamp (Step (instant inputs outputs)) ∷ [] in
        told word.Step stamp.version
        (x.adds.appended ∙ ap (λ i. added i x.outputs) inputs ∙ ap (added p.running.pending) outputs
        ∙ sym y.adds.appended) x.replied y.replied

    looks : (n : ℕ) → Looks entries slot session n before r a → Looks entries slot session n before s b → Same r s a b
    looks n x y =
        let run : x.running ≡ y.running = same_running modules before x.running y.running x.runs y.runs in
        let same : x.instant ≡ y.instant = same_Some x.instant y.instant (sym x.there.there ∙ y.there.there) in
        let observes : Observes entries session slot x.running.interface y.sees =
        subst (λ (q : Running). Observes entries session slot q.interface y.sees) (sym run) y.observes in
        let shown : shown_of x.running.interface x.sees x.instant ≡ shown_of x.running.interface y.sees x.instant =
        same_kept (status_at x.running.interface x.instant) x.sees y.sees (length x.running.interface)
        (same_sight entries session slot x.running.interface x.sees y.sees x.observes observes) in (
          x.replied
              ∙ ap (λ signals. Shown n signals (length entries))
              (shown ∙ ap (λ (i : PastInstant). shown_of x.running.interface y.sees i) same
              ∙ ap (λ (q : Running). shown_of q.interface y.sees y.instant) run)
              ∙ sym y.replied,
          x.stays ∙ sym y.stays,
        )

    -- what a command does that no rule refuses
    does : (command : SlotCommand) → Does entries slot session command before r a
        → Does entries slot session command before s b → Same r s a b
    does (Move (Load l)) x y = loads (stamp_of entries session) l.main l.text x y
    does (Move (Offer signal)) x y = offers (stamp_of entries session) signal x y
    does (Move Discard) x y = told word.Discard (length entries) (x.added ∙ sym y.added) x.replied y.replied
    does (Move (Step i)) x y = steps (stamp_of entries session) x y
    does (Move Unload) x y = told word.Unload (length entries) (x.added ∙ sym y.added) x.replied y.replied
    does (Look n) x y = looks n x y
    does Audit x y = (x.replied ∙ sym y.replied, x.stays ∙ sym y.stays)

    -- a command on a slot has one reply, and leaves one journal
    pub one_slot_step : (command : SlotCommand) → SlotStep entries slot session command before r a
        → SlotStep entries slot session command before s b
        → Same r s a b
    one_slot_step command =
        both_answers (slot_rules entries slot session command before) (slot_settled command)
        (λ refusal. IsRefused refusal before r a) (λ refusal. IsRefused refusal before s b)
        (Does entries slot session command before r a) (Does entries slot session command before s b)
        (λ refusal h want. ample (h.replied ∙ ap Refused want))
        (λ refusal h want. ample_too (h.replied ∙ ap Refused want))
        (λ refusal x y. (x.replied ∙ sym y.replied, x.stays ∙ sym y.stays)) (does command)
