-- What a table says that was settled by a part of the inputs.
use Rattle.std.specs.Prelude.{◌≡◌, ◌≢◌, ◌&&◌, ℕ, Bool, true, false, not, List, length, Option, Some, None, IfSome}
use Rattle.std.proofs.Common.{refl, ap, sym, ◌∙◌, inl, inr, subst}
use Rattle.std.proofs.lemmas.Bool.{and_parts, cases_Bool, false≢true}
use mathlib.Core.Path.{fun_ext}
use Rattle.est_kernel.specs.Bits.{bits}
use Rattle.est_kernel.specs.Interfaces.{emittable, offerable}
use Rattle.est_kernel.specs.declared.interface.Declaration.{Declaration}
use Rattle.est_kernel.specs.declared.kernel.Kernel.{Kernel}
use Rattle.est_kernel.specs.declared.state.Inputs.{Inputs}
use Rattle.est_kernel.specs.declared.state.State.{State}
use Rattle.est_meaning.specs.Environments.{Env}
use Rattle.est_meaning.specs.Knowledge.{IsIn}
use Rattle.est_meaning.specs.States.{IsState}
use Rattle.est_meaning.specs.declared.status.Status.{Status}
use Rattle.est_meaning.specs.declared.status.Status.TheVariants.{Present}
use Rattle.est_meaning.proofs.RoundsComeToRest.{judged_within}
use Rattle.est_meaning.specs.Views.{env_of}
use Rattle.est_net.specs.Cells.{cell_at, decided}
use Rattle.est_net.specs.Layout.{output_count, sheet_in}
use Rattle.est_rounds.specs.Contract.{AreInputs}
use Rattle.est_rounds.specs.Parts.{AgreeOn, AreInputOutputsAsked, not_asked}
use Rattle.est_micro.specs.Inner.Outcomes.{HasNoCode}
use Rattle.est_micro.specs.Parts.{AgreeBut, AreInputsAlone, IsClosedBut, known_but}
use Rattle.est_micro.specs.Runs.{IsSettledBut, output_cells, table_of}
use Rattle.est_micro.specs.Unsettled.{IsLeftOpen}
use Rattle.est_micro.specs.Waiting.{pauses_from, table_waits_for, waits_for}
use Rattle.est_micro.specs.declared.settling.RunEnd.{RunEnd}
use Rattle.est_micro.proofs.FullTables.{full_decided}
use Rattle.est_micro.proofs.OpenTests.{waits_unasked}
use Rattle.est_micro.proofs.Outcomes.{some_code}
use Rattle.est_micro.proofs.Settles.{full_settled}

-- inputs that agree on what is asked
not_there : (i : List Declaration) (a : ℕ → Bool) (n : ℕ) → IsIn a (offerable i) → offerable i n ≡ false
    → a n ≡ false
not_there i a n h e = elim (cases_Bool (a n)) [ inl t ↦ absurd (false≢true (sym e ∙ h n t)) | inr f ↦ f ]

agree_but : (i : List Declaration) (asked inputs others : ℕ → Bool) → IsIn inputs (offerable i)
    → IsIn others (offerable i) → ((n : ℕ) → asked n ≡ true → others n ≡ inputs n)
    → AgreeBut (not_asked i asked) inputs others
agree_but i asked inputs others a b same n e = elim (cases_Bool (asked n)) [
  | inl t ↦ same n t
  | inr f ↦ elim (cases_Bool (offerable i n)) [
    | inl o ↦ absurd (false≢true (sym e ∙ rw (o, f) refl))
    | inr o ↦ not_there i others n b o ∙ sym (not_there i inputs n a o)
  ]
]

pub unasked_is : (i : List Declaration) (u may asked : ℕ → Bool) → ((n : ℕ) → u n ≡ (may n && not (asked n)))
    → may ≡ offerable i → u ≡ not_asked i asked
unasked_is i u may asked h e = fun_ext (λ n. h n ∙ ap (λ (f : ℕ → Bool). f n && not (asked n)) e)

pub inputs_alone : (i : List Declaration) (u asked : ℕ → Bool) → u ≡ not_asked i asked → AreInputOutputsAsked i asked
    → AreInputsAlone i u
inputs_alone i u asked e h n o =
    let p = and_parts (offerable i n) (not (asked n)) (ap (λ (f : ℕ → Bool). f n) (sym e) ∙ o) in
    elim (cases_Bool (emittable i n)) [
      | inl t ↦ absurd (false≢true (sym (ap not (h n p.0 t)) ∙ p.1))
      | inr f ↦ f
    ]

-- by each input set for which the part stands
abbrev pub IsSettledByAll : (u : ℕ → Bool) (k : Kernel) (x : State) (inputs : ℕ → Bool) (cells : List Status)
    (r : RunEnd) → Type 0
IsSettledByAll u k x inputs cells r = (others : ℕ → Bool) → AgreeBut u inputs others
    → IsSettledBut u k x others cells r

pub settled_for : (u asked : ℕ → Bool) (k : Kernel) (x : State) (inputs : Inputs) (cells : List Status)
    (r : RunEnd)
    → u ≡ not_asked k.interface asked → AreInputs k inputs → IsSettledByAll u k x (bits inputs.signals) cells r
    → (others : Inputs) → AgreeOn k asked (bits inputs.signals) others
    → IsSettledBut u k x (bits others.signals) cells r
settled_for u asked k x inputs cells r e a h others b =
    h (bits others.signals) (subst (λ (z : ℕ → Bool). AgreeBut z (bits inputs.signals) (bits others.signals)) (sym e)
    (agree_but k.interface asked (bits inputs.signals) (bits others.signals) a b.offered b.same))

if_named : {P : ℕ → Type 0} (o : Option ℕ) → ((n : ℕ) → o ≡ Some n → P n) → IfSome o P
if_named (Some n) h = h n refl
if_named None h = tt

-- where there is no outcome
pub left_open : (u asked : ℕ → Bool) (k : Kernel) (x : State) (inputs : ℕ → Bool) (cells : List Status)
    (r : RunEnd)
    (w : Option ℕ) → u ≡ not_asked k.interface asked → IsState k.root x → IsSettledByAll u k x inputs cells r
    → (decided cells ≡ length cells → HasNoCode x r.swept)
    → w ≡ waits_for u true k.root (pauses_from x) Present (env_of r.env)
    (sheet_in (cell_at cells) true k.root (output_count k.interface) 0)
    → IsLeftOpen k x asked inputs cells (record { waits_for = w })
left_open u asked k x inputs cells r w e q h none is =
    let s = h inputs (λ n o. refl) in
    let T = table_of k.interface k.root cells in
    let some : decided cells ≢ length cells = λ all.
    let c = none all in
    some_code k x inputs cells r.swept k.loop_safe q c.lives (full_settled u k x inputs cells r s all) c.ends c.pauses
    (full_decided k inputs cells (judged_within k.interface inputs) s.size all) in
    let first : w ≡ table_waits_for (not_asked k.interface asked) k.interface inputs k.root x T =
    is ∙ (ap (λ (z : Env). waits_for u true k.root (pauses_from x) Present z T.sheet) s.knows
    ∙ ap (λ (z : ℕ → Bool). table_waits_for z k.interface inputs k.root x T) e) in
    record {
      some = some;
      closed = elim s.closed [
        | inl all ↦ absurd (some all)
        | inr rest ↦ subst (λ (z : ℕ → Bool). IsClosedBut z k.interface inputs k.root x T) e rest
      ];
      first = first;
    }

-- what is named is not asked
pub named_unasked : (k : Kernel) (x : State) (asked inputs : ℕ → Bool) (cells : List Status) (w : Option ℕ)
    → IsLeftOpen k x asked inputs cells (record { waits_for = w })
    → IfSome w (λ n. not_asked k.interface asked n ≡ true)
named_unasked k x asked inputs cells w h =
    let u = not_asked k.interface asked in
    let T = table_of k.interface k.root cells in
    if_named w (λ n f. waits_unasked u true k.root (pauses_from x) Present
    (known_but u k.interface inputs (output_cells k.interface cells)) T.sheet n (sym h.first ∙ f))
