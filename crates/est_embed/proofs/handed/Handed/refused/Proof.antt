-- `refused` makes a value that owns nothing.
use Rattle.est_embed.proofs.Steps.{◌≡◌, ℕ, ◌<◌, ◌^◌, List, [], ◌∷◌, refl, w64, proved, tables, ‵, raw, ◌⊛◌}
use Rattle.est_embed.proofs.Steps.{◌$◌, ◌∵◌, ! }
use Rattle.est_embed.proofs.Steps.{qed, drop, enter, of_opd, no_more, and_then, returns, alloc_all, pass_all, free_all}
use Rattle.est_embed.proofs.Steps.{look_at, get, sets, u64, uint_vals, uint_Tells, Ptr, RawPtr, rawptr_vals}
use Rattle.est_embed.proofs.Steps.{rawptr_Tells, rawptr_Lawful, plain, nothing, on_entry, Stays, walk_of, stay_dropped}
use Rattle.est_embed.proofs.Steps.{Goes-dropped, ends_at, Val, vint, join, suffices, done, says}
use Rattle.est_embed.proofs.Values.{word, handed_in}
use mir.Syntax.{a_type, dcons, dnil}
use mir.MapTy.{inst_fn}
use types.Part.{agg}
use denote.Param.{bounded, param}
use denote.Exit.{yes}
use denote.RawPtr.{ptr_val}
use denote.RattleType.{owns, Valss}
use base.Fml.{flft, ftrue}
use types.Kit.{move, split, keep, by, use0, fjoin}
use contract.Monad.{fact, fact_i}
use base.Logic.{emp}
use Rattle.std.proofs.raw_atomic.Walks.{leaves}
use Rattle.std.proofs.Common.{None}
use Rattle.est_embed.specs.contracts.handed.Handed as handed
use Rattle.std.proofs.ResultValues.{and_tt}
use Rattle.est_embed.specs.contracts.handed.Handed.refused as f
use Rattle.est_embed.proofs.handed.Handed.refused.Statement.{statement}
use Rattle.est_embed.proofs.handed.Handed.refused.Code as code

pub refused_spec : {M : Type 1} → statement M
refused_spec 𝓤 𝓛 𝓜 𝓡 wired T L dx glued =
    let En = f.ended T dx in let c = f.clauses T dx 𝓛 𝓜.mem 𝓡.returns in
    let stayed : Stays En.signature.params En.kept = (stay_dropped _ yes, (stay_dropped _ yes, tt)) in
    let W = walk_of 𝓛 En stayed c in let 𝓣 = tables 𝓤 𝓛.H 𝓜 𝓡 𝓡.env in
    let inst = bounded (a_type ∷ []) (T, tt) (dcons dx dnil) in let fn = inst_fn inst code.function in
    proved 𝓛 En stayed c 𝓜 𝓡 (
      Goes-dropped 𝓛 1 (plain (λ _. u64)) yes (λ κs x w. refl),
      (Goes-dropped 𝓛 1 (plain (λ _. RawPtr)) yes (λ κs x w. refl), tt),
    )
    (f.Key.name inst) fn (code.unfolded 𝓤 𝓛.H 𝓜 𝓡 wired (T, tt) dx)
    (λ κs. (uint_vals w64, (rawptr_vals, tt))) (λ κs. (uint_Tells w64, (rawptr_Tells, tt))) (λ κs qs bounds a g are.
    let n = a.0 in let p = a.1.0 in let fits : n < 2 ^ 64 = are.0.1 in let ok = (rawptr_Lawful 𝓛).typed p _ refl in
    let vss : Valss (u64 ∷ RawPtr ∷ []) = (vint w64 n ∷ [], (ptr_val p ∷ [], tt)) in let y : W.Ghost =
    ((κs, qs, bounds, a, vss), g) in
    qed 𝓛 (((‵ (flft κs.0 qs.0) ⊛ ‵ ftrue) ⊛ ‵ (owns (u64 ∷ RawPtr ∷ []) a vss)) ∷ raw ((c κs a).requires g) ∷ []) ∵
    move ! (1 ∷ []) $ drop ! $ split ! $ move ! (1 ∷ []) $ drop ! $
    enter ! _ _ _ _ _ $ alloc_all ! (λ l. pass_all ! refl ((tt, record { fits = fits }), ok) $
    sets ! (agg ! (and_then ! (get ! refl) (and_then ! (get ! refl) (no_more !)))) refl
    (and_tt _ ok.0.0, (record { fits = fits }, (ok.0.1, tt))) $
    returns ! (look_at ! 0 refl) $ free_all ! refl $
    let made : (handed.the_row (param 0 T)).Denot = record { status = n; at = p; value = None } in
    let Told : Type 0 = (made.status ≡ n) × (made.at ≡ p) × (made.value ≡ None) in
    nothing ! $ handed_in (param 0 T) ! n fits p None $
    use0 𝓛 (raw (fact 𝓤 Told)) (fact_i 𝓤 Told (emp 𝓤) (refl, refl, refl)) $
    nothing ! $ nothing ! $ fjoin ! $ nothing ! $ fjoin ! $ keep ! (3 ∷ 0 ∷ 2 ∷ 1 ∷ []) $
    by ! (leaves 𝓛 En stayed c y (word n (ptr_val p)) made (tt, (tt, tt)) (tt, (tt, tt)))))
