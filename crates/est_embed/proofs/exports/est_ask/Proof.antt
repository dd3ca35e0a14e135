use Rattle.est_embed.proofs.Steps.{◌≡◌, ℕ, ◌<◌, ◌^◌, List, [], ◌∷◌, ◌++◌, refl, ap, w64, MutBor, proved, tail}
use Rattle.est_embed.proofs.Steps.{full_share, SProp, id⊢, ex, ex_i, sep, emp, ftrue, flft, flent, fres, GName, named}
use Rattle.est_embed.proofs.Steps.{Val, vint, vptr, fact, fact_i, tables, sem, Body, ‵, raw, ◌⊛◌, some, later, prop}
use Rattle.est_embed.proofs.Steps.{at_ret, ◌$◌, ◌∵◌, !, qed, done, move, keep, drop, use0, use1, use2, use3, split}
use Rattle.est_embed.proofs.Steps.{join, fsplit, pick, await, regoal, suffices, group, lft_new, lft_end, enter}
use Rattle.est_embed.proofs.Steps.{of_opd, addr, stop, no_more, and_then, first, blocks, exec, returns, alloc_all}
use Rattle.est_embed.proofs.Steps.{pass_all, free_all, look_at, get, through, sets, sets_last, lands_as, env, u64}
use Rattle.est_embed.proofs.Steps.{yes, Is, shows, part_at, mem, lends_ref, ref_back, uint_Makes, uint_vals}
use Rattle.est_embed.proofs.Steps.{uint_Tells, uint_Lawful, Ptr, RawPtr, block_ptr, lies_at, in_a_block, rawptr_vals}
use Rattle.est_embed.proofs.Steps.{rawptr_Tells, MutRef, plain, nothing, owned, heard, peeks, calls_at, lasts}
use Rattle.est_embed.proofs.Steps.{on_entry, triple_of, Stays, walk_of, stay_dropped, Goes-dropped, ends_at, framed}
use prog.Wp.{WpFn}
use Rattle.est_host.specs.Answers.{Answered}
use Rattle.est_host.specs.contracts.running.HostedMachine as running
use Rattle.est_embed.specs.contracts.exports.est_ask as f
use Rattle.est_embed.proofs.exports.est_ask.Statement.{statement}
use Rattle.est_embed.proofs.exports.est_ask.Code as code
use Rattle.est_embed.specs.contracts.exports.answer_on as g
use Rattle.est_embed.proofs.exports.answer_on.Met.{met}

abbrev stayed : Stays f.ended.signature.params f.ended.kept
stayed = (stay_dropped _ yes, (stay_dropped _ yes, (stay_dropped _ yes, tt)))

pub est_ask_spec : {M : Type 1} → statement M
est_ask_spec 𝓤 𝓛 𝓜 𝓡 wired =
    let c = f.clauses 𝓛 𝓜.mem 𝓡.returns in let W = walk_of 𝓛 f.ended stayed c in let 𝓣 = tables 𝓤 𝓛.H 𝓜 𝓡 𝓡.env in
    let R = running.the_row in
    proved 𝓛 f.ended stayed c 𝓜 𝓡 (
      Goes-dropped 𝓛 0 (plain (λ _. RawPtr)) yes (λ κs x w. refl),
      (
        Goes-dropped 𝓛 0
            (plain (λ _. u64)) yes (λ κs x w. refl),
        (Goes-dropped 𝓛 0 (plain (λ _. u64)) yes (λ κs x w. refl), tt),
      ),
    )
    f.Key.name code.function (code.unfolded 𝓤 𝓛.H 𝓜 𝓡 wired)
    (λ κs. (rawptr_vals, (uint_vals w64, (uint_vals w64, tt)))) (λ κs. (
      rawptr_Tells,
      (
        uint_Tells w64,
        (
          uint_Tells
              w64,
          tt,
        ),
      ),
    )) (λ κs qs bounds a m are.
    let q = a.1.0 in let n = a.1.1.0 in let asked : q < 2 ^ 64 = are.1.0.1 in let fits : n < 2 ^ 64 = are.1.1.0.1 in
    let y : Ptr → W.Ghost = λ p. (
      (
        κs,
        qs,
        bounds,
        (p, (q, (n, tt))),
        (
          rawptr_vals p,
          (
            vint w64 q ∷ [],
            (
              vint w64 n ∷
                  [],
              tt,
            ),
          ),
        ),
      ),
      m,
    ) in
    qed 𝓛 (raw (on_entry 𝓛 f.signature κs qs a (y a.0).0.4) ∷ ‵ (lies_at R full_share a.0 m) ∷ []) ∵ drop ! $
    in_a_block ! a.0 (λ p. lies_at R full_share p m) (id⊢ 𝓤 _) (λ b o e.
    regoal ! (λ p. prop (WpFn 𝓤 𝓛.H 𝓣.C 𝓣.Λ code.function (rawptr_vals p ++ (vint w64 q ∷ vint w64 n ∷ [])) (W.post
    (y p)))) e refl $
    enter ! _ _ _ _ _ $ alloc_all ! (λ l. pass_all ! refl (
      (tt, tt),
      (
        (tt, record { fits = asked }),
        (
          (
            tt,
            record {
              fits = fits;
            },
          ),
          tt,
        ),
      ),
    ) $
    let Ev = env code.function.locals l in
    first ! $ blocks ! $ sets ! (of_opd ! (get ! refl)) refl (tt, tt) $ sets ! (of_opd ! (get ! refl)) refl (tt, tt) $
    sets_last ! (addr ! (through ! refl (stop !))) refl (tt, tt) $
    exec ! 𝓣.C 𝓣.Λ Ev (tail code.function.body) (at_ret Ev (W.post (y (block_ptr b o)))) $
    sets ! (of_opd ! (get ! refl)) refl (tt, tt) $ sets ! (of_opd ! (get ! refl)) refl (tt, record { fits = asked })
    $ sets ! (of_opd ! (get ! refl)) refl (tt, record { fits = fits }) $
    lft_new ! tt (λ α. let κ = α ∷ [] in move ! (1 ∷ 0 ∷ []) $
    use1 𝓛 (later (some (λ (γ : GName). ‵ ((MutRef (named 0) κ R).own_val (record {
      ref_ptr = (b, o);
      ghost_name = γ;
      now = m;
    }) (vptr b o ∷ [])) ⊛ ‵ (flent κ (Body (mem R) b o γ)))))
    (lends_ref 𝓛 R (named 0) κ m b o) $ await ! tt $ pick ! (λ γ. split ! $
    let G = triple_of 𝓛 g.signature (g.spec 𝓛 𝓜.mem 𝓡.returns) in
    let r : MutBor R.Denot = record { ref_ptr = (b, o); ghost_name = γ; now = m } in
    let z : G.Ghost = (
      (
        (κ, tt),
        (full_share, tt),
        tt,
        (r, (q, (n, tt))),
        (
          vptr b o ∷ [],
          (
            vint w64 q ∷ [],
            (
              vint w64
                  n ∷ [],
              tt,
            ),
          ),
        ),
      ),
      tt,
    ) in
    nothing ! $ owned ! u64 _ (uint_Makes 𝓛 w64) n _ (refl, fits) $ join ! $ owned ! u64 _ (uint_Makes 𝓛 w64) q _
    (refl, asked) $ join ! $ move ! (1 ∷ 0 ∷ []) $ join ! $
    nothing ! $ move ! (3 ∷ 0 ∷ []) $ join ! $ join ! $ nothing ! $ move ! (1 ∷ 0 ∷ []) $ use2 𝓛 (raw (G.pre z)) (id⊢
    𝓤 _) $
    calls_at ! (framed 𝓤 𝓛.H 𝓜 𝓣) G (met 𝓤 𝓛 𝓜 𝓡 (code.calls-est_embed::exports::answer_on 𝓡.env wired)) z
    (and_then ! (get ! refl) (and_then ! (get ! refl) (and_then ! (get ! refl) (no_more !)))) (λ v.
    use1 𝓛 (later (some (λ (x : ℕ). ((‵ (flft κ full_share) ⊛ ‵ ftrue) ⊛ ‵ (u64.own_val x (v ∷ []))) ⊛
    some (λ (ws : R.Denot × (Unit {0} × (Unit {0} × Unit {0}))). ‵ (lasts g.ended z.0.0 z.0.3 ws) ⊛ raw (fact 𝓤
    (Answered m q n x ws.0)))))) (id⊢ 𝓤 _) $
    await ! tt $ pick ! (λ x. split ! $ split ! $ split ! $ lft_end ! tt $ move ! (2 ∷ []) $
    peeks ! u64 (Is u64) (shows 𝓛 u64) x (v ∷ []) (λ is. lands_as ! refl refl ((uint_Lawful 𝓛 w64).typed x _ is).0 $
    move ! (3 ∷ []) $ pick ! (λ ws. split ! $ move ! (1 ∷ []) $ heard ! _ (λ told. fsplit ! $ fsplit ! $
    move ! (4 ∷ 6 ∷ 0 ∷ []) $ use3 𝓛 (later (‵ (part_at R full_share ws.0 b o))) (ref_back 𝓛 R κ γ ws.0 b o) $ await
    ! tt $
    returns ! (look_at ! 0 refl) $ free_all ! refl $ keep ! (0 ∷ 3 ∷ []) $
    let Q : R.Denot → SProp 𝓤 = λ k. sep 𝓤 (sem 𝓛 (lies_at R full_share (block_ptr b o) k)) (fact 𝓤 (Answered m q n x
    k)) in
    use0 𝓛 (raw (fact 𝓤 (Answered m q n x ws.0))) (fact_i 𝓤 _ (emp 𝓤) told) $ move ! (1 ∷ 0 ∷ []) $ use2 𝓛 (raw (ex 𝓤
    Q)) (ex_i 𝓤 Q ws.0) $
    suffices ! _ (ends_at 𝓛 f.ended stayed c (y (block_ptr b o)) v x (tt, (tt, (tt, tt))) (tt, (tt, (tt, tt)))) $
    move ! (1 ∷ []) $ nothing ! $ nothing ! $ join ! $ nothing ! $ join ! $ nothing ! $ join ! $ nothing ! $ group !
    3 $ done !))))))))))
