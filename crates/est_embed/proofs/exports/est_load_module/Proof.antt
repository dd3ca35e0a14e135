-- `est_load_module` hands on what `hand_out` gives, and what that owns.
use Rattle.std.proofs.Common.{◌≡◌, List, [], ◌∷◌, refl, sym, subst, w64}
use Rattle.std.proofs.Handle.{heap_val, heap_Tells}
use Rattle.std.proofs.raw_atomic.Walks.{proved, leaves}
use Rattle.std.specs.contracts.alloc.Global as heap
use Rattle.est_embed.proofs.Steps.{framed}
use Rattle.est_embed.proofs.Values.{word, handed_out}
use base.Fml.{ftrue, fsep, flft, feq}
use base.Logic.{SProp, emp, id⊢}
use contract.Monad.{fact, fact_i}
use contract.Running.{tables}
use denote.Builtin.{RawPtr, u8, u64, SliceRefOf}
use denote.Exit.{yes}
use denote.Ref.{MutRef, mut_vals, mut_Tells}
use denote.Signature.{plain}
use denote.Slice.{shr_slice_vals, shr_slice_Tells, shr_slice_Lawful}
use denote.Steps.{nothing, only}
use denote.Triple.Call.{calls_at}
use denote.Triple.Clauses.{lasts, at_exit}
use denote.Triple.Entry.{alive}
use denote.Triple.Spec.{triple_of}
use denote.Triple.Walked.{Stays, stay_dropped, gave_ref, walk_of, Goes-dropped, Goes-gave_ref}
use mir.Syntax.{named}
use mir.Val.{Val}
use types.ByLocal.{alloc_all, pass_all, free_all, look_at, get, get_in, through, sets, lands_as}
use denote.RattleType.{Valss}
use denote.Signature.{types_at}
use denote.Triple.Clauses.{Lasts}
use Rattle.std.proofs.Common.{ℕ, ◌≢◌}
use Rattle.est_host.specs.Faults.{IsLoadFaultTold}
use denote.Steps.{heard, owned}
use Rattle.std.proofs.Common.{Option, ap}
use Rattle.std.proofs.ResultValues.{and_tt}
use base.Logic.{sep, ex, ex_i}
use denote.Plain.{uint_Makes}
use denote.RawPtr.{Ptr, rawptr_Lawful}
use mir.Val.{vint}
use types.Logic.{sem}
use types.Kit.{use2, rewrite, ‵, raw, ◌⊛◌, some, later, ◌$◌, ◌∵◌, !, qed, by, move, keep, drop, split, join, fsplit}
use types.Kit.{fjoin, pick, use0, use1, await}
use types.Part.{sub, whole}
use types.Run.{of_opd, addr, stop, fld, no_more, and_then, returns, enter}
use Rattle.est_host.specs.contracts.loading.HostFault as fault
use Rattle.est_host.specs.contracts.running.HostedMachine as running
use Rattle.est_embed.specs.Handing.{IsHanded, lies_there}
use Rattle.est_embed.specs.contracts.handed.Handed as handed
use Rattle.est_embed.specs.contracts.exports.hand_out as h
use Rattle.est_embed.proofs.exports.hand_out.Met.{met}
use Rattle.est_embed.specs.contracts.exports.est_load_module as f
use Rattle.est_embed.proofs.exports.est_load_module.Statement.{statement}
use Rattle.est_embed.proofs.exports.est_load_module.Code as code

abbrev stayed : Stays f.ended.signature.params f.ended.kept
stayed = (
  stay_dropped _ yes,
  (
    stay_dropped _ yes,
    (
      stay_dropped _ yes,
      (gave_ref (2 ∷ []) tt (plain (λ _. RawPtr)), (gave_ref (3 ∷ []) tt (plain (λ _. fault.the_row)), tt)),
    ),
  ),
)

pub est_load_module_spec : {M : Type 1} → statement M
est_load_module_spec 𝓤 𝓛 𝓜 𝓡 wired =
    let c = f.clauses 𝓛 𝓜.mem 𝓡.returns in let W = walk_of 𝓛 f.ended stayed c in let 𝓣 = tables 𝓤 𝓛.H 𝓜 𝓡 𝓡.env in
    proved 𝓛 f.ended stayed c 𝓜 𝓡 (
      Goes-dropped 𝓛 4 (plain (λ _. heap.the_row)) yes (λ κs x w. refl),
      (
        Goes-dropped 𝓛 4 (SliceRefOf (0 ∷ []) tt (plain (λ _. u8)) (λ _. tt)) yes (λ κs x w. refl),
        (
          Goes-dropped 𝓛 4 (SliceRefOf (1 ∷ []) tt (plain (λ _. u8)) (λ _. tt)) yes (λ κs x w. refl),
          (Goes-gave_ref 𝓛 4 2 tt (plain (λ _. RawPtr)), (Goes-gave_ref 𝓛 4 3 tt (plain (λ _. fault.the_row)), tt)),
        ),
      ),
    )
    f.Key.name code.function (code.unfolded 𝓤 𝓛.H 𝓜 𝓡 wired)
    (λ κs. ((λ _. heap_val ∷ []), (shr_slice_vals, (shr_slice_vals, (mut_vals, (mut_vals, tt))))))
    (λ κs. (
      heap_Tells,
      (
        shr_slice_Tells (named 0) κs.0 u8,
        (
          shr_slice_Tells (named 1) κs.1.0 u8,
          (mut_Tells (named 2) κs.1.1.0 RawPtr, (mut_Tells (named 3) κs.1.1.1.0 fault.the_row, tt)),
        ),
      ),
    ))
    (λ κs qs bounds a _ are.
    let main = a.1.0.now in let text = a.1.1.0.now in let R = running.the_row in let S = handed.the_row R in
    let vss : Valss (types_at f.signature.params κs) = (
      heap_val ∷ [],
      (shr_slice_vals a.1.0, (shr_slice_vals a.1.1.0, (mut_vals a.1.1.1.0, (mut_vals a.1.1.1.1.0, tt)))),
    ) in
    let y : W.Ghost = ((κs, qs, bounds, a, vss), tt) in
    let G = triple_of 𝓛 h.signature (h.spec 𝓛 𝓜.mem 𝓡.returns) in let z : G.Ghost = ((κs, qs, bounds, a, vss), tt) in
    let Out = at_exit h.ended κs a in
    let Tells = λ (n : ℕ) (ws : Lasts h.ended κs a). n ≢ 0
    → (n ≡ (Out ws).1.1.1.1.0.now.code) × IsLoadFaultTold main text (Out ws).1.1.1.1.0.now in
    let Stands = λ (n : ℕ) (ws : Lasts h.ended κs a). n ≢ 0 → (Out ws).1.1.1.0.now ≡ a.1.1.1.0.now in
    qed 𝓛 (raw (G.pre z) ∷ []) ∵ enter ! _ _ _ _ _ $
    alloc_all ! (λ l. pass_all ! refl (
      (tt, ((tt, tt), tt)),
      (
        ((shr_slice_Lawful 𝓛 (named 0) κs.0 u8).typed a.1.0 _ are.1.0).0,
        (((shr_slice_Lawful 𝓛 (named 1) κs.1.0 u8).typed a.1.1.0 _ are.1.1.0).0, ((tt, tt), ((tt, tt), tt))),
      ),
    ) $
    sets ! (addr ! (through ! refl (stop !))) refl (tt, tt) $ sets ! (addr ! (through ! refl (stop !))) refl (tt, tt) $
    calls_at ! (framed 𝓤 𝓛.H 𝓜 𝓣) G (met 𝓤 𝓛 𝓜 𝓡 (code.calls-est_embed::exports::hand_out 𝓡.env wired)) z
    (and_then ! (get ! refl)
    (and_then ! (get ! refl) (and_then ! (get ! refl) (and_then ! (get ! refl) (and_then ! (get ! refl)
    (no_more !)))))) (λ v.
    use1 𝓛 (later (some (λ (r : S.Denot). (raw (alive 𝓛 f.signature κs qs) ⊛ ‵ (S.own_val r (v ∷ []))) ⊛
    some (λ (ws : Lasts h.ended κs a). ‵ (lasts h.ended κs a ws) ⊛ (raw (fact 𝓤 (IsHanded main text r.status r.value)) ⊛
    (raw (fact 𝓤 (r.at ≡ (Out ws).1.1.1.0.now)) ⊛ (raw (fact 𝓤 (Tells r.status ws)) ⊛
    raw (fact 𝓤 (Stands r.status ws))))))))) (id⊢ 𝓤 _) $
    await ! tt $ pick ! (λ r. split ! $ move ! (1 ∷ []) $ pick ! (λ ws. split ! $ move ! (1 ∷ []) $
    split ! $ heard ! _ (λ is_handed. split ! $ heard ! _ (λ there. split ! $ heard ! _ (λ tells. heard ! _ (λ stands.
    -- [the last values; the tokens and what was handed out]
    move ! (1 ∷ []) $ split ! $ move ! (1 ∷ []) $ handed_out R ! r (v ∷ []) (λ is fits.
    -- [the machine; the tokens; the last values]
    let n = r.status in let ok = (rawptr_Lawful 𝓛).typed r.at _ refl in let p : Ptr = (Out ws).1.1.1.0.now in
    let Q : Option R.Denot → SProp 𝓤 = λ o. sep 𝓤 (sem 𝓛 (lies_there R o p)) (fact 𝓤 (IsHanded main text n o)) in
    lands_as ! (ap only is) refl (and_tt _ ok.0.0, (record { fits = fits }, (ok.0.1, tt))) $
    sets ! (of_opd ! (get_in ! (fld ! refl (stop !)) (sub ! 0 refl (whole !)))) refl (tt, record { fits = fits }) $
    sets ! (of_opd ! (get ! refl)) refl (tt, record { fits = fits }) $
    returns ! (look_at ! 0 refl) $ free_all ! refl $
    rewrite ! 0 (λ (at : Ptr). ‵ (lies_there R r.value at)) there refl $
    use0 𝓛 (raw (fact 𝓤 (IsHanded main text n r.value))) (fact_i 𝓤 _ (emp 𝓤) is_handed) $ move ! (1 ∷ 0 ∷ []) $
    use2 𝓛 (raw (ex 𝓤 Q)) (ex_i 𝓤 Q r.value) $
    use0 𝓛 (raw (fact 𝓤 (Stands n ws))) (fact_i 𝓤 _ (emp 𝓤) stands) $
    use0 𝓛 (raw (fact 𝓤 (Tells n ws))) (fact_i 𝓤 _ (emp 𝓤) tells) $ join ! $ move ! (1 ∷ 0 ∷ []) $ join ! $
    owned ! u64 _ (uint_Makes 𝓛 w64) n _ (refl, fits) $ keep ! (2 ∷ 3 ∷ 0 ∷ 1 ∷ []) $
    by ! (leaves 𝓛 f.ended stayed c y (vint w64 n) n ws (tt, (tt, (tt, (tt, (tt, tt))))))))))))))))
