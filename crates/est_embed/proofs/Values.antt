-- The machine values of what is handed out.
use Rattle.std.proofs.Common.{◌≡◌, ℕ, ◌<◌, ◌^◌, List, [], ◌∷◌, ◌++◌, ◌∙◌, refl, w64, Option}
use seplogic.Ra.Ura.{Ura}
use mir.Val.{Val, vint, vstruct, vcons, vnil, of_list}
use types.Logic.{Logic}
use types.Kit.{Item, Goal, Seq, Step, step, ‵, ◌$◌, move, drop, fsplit, fjoin, fpick, fpack, feq_i, feq_l}
use denote.RattleType.{RattleType, Valss}
use denote.Builtin.{u64}
use denote.RawPtr.{Ptr, RawPtr, ptr_val}
use denote.Laws.{Is, shows}
use denote.Plain.{uint_Makes}
use denote.Steps.{nothing, owned, peeks}
use denote.Struct.Struct.{within}
use denote.Struct.Owning.{shape}
use Rattle.est_embed.specs.Handing.{lies_there}
use Rattle.est_embed.specs.contracts.handed.Handed as handed

-- a status and a place
abbrev pub word : ℕ → Val → Val
word n v = vstruct (vcons (vint w64 n) (vcons v vnil))

module _ (R : RattleType) where
  abbrev pub Row : RattleType
  Row = handed.the_row R

  module _ {M : Type 1} {𝓤 : Ura M} {𝓛 : Logic 𝓤} {K : Type 0} {Γ : List (Item 𝓤)} {G : Goal 𝓤 𝓛.H} where
    pub handed_in : K → (n : ℕ) → n < 2 ^ 64 → (p : Ptr) (x : Option R.Denot)
        → Step K 𝓛 (‵ (Row.own_val (record { status = n; at = p; value = x }) (word n (ptr_val p) ∷ [])) ∷ Γ) G
        (‵ (lies_there R x p) ∷ Γ) G
    handed_in t n fits p x = step (λ s.
        nothing t $ feq_i t (List Val) (ptr_val p ∷ []) (ptr_val p ∷ []) refl $ fjoin t $
        owned t u64 _ (uint_Makes 𝓛 w64) n _ (refl, fits) $ fjoin t $
        feq_i t (List Val) (word n (ptr_val p) ∷ []) (word n (ptr_val p) ∷ []) refl $ fjoin t $
        fpack t (Valss (u64 ∷ RawPtr ∷ [])) (within (shape (handed.the_type R)) (n, (p, tt)) (word n (ptr_val p) ∷ []))
        (vint w64 n ∷ [], (ptr_val p ∷ [], tt)) $ fjoin t $ s)

    pub handed_out : K → (d : Row.Denot) (vs : List Val)
        → (vs ≡ word d.status (ptr_val d.at) ∷ [] → d.status < 2 ^ 64 → Seq K 𝓛 (‵ (lies_there R d.value d.at) ∷ Γ) G)
        → Seq K 𝓛 (‵ (Row.own_val d vs) ∷ Γ) G
    handed_out t d vs k =
        fsplit t $ fpick t (λ vss. fsplit t $ feq_l t (λ ev. fsplit t $
        peeks t u64 (Is u64) (shows 𝓛 u64) d.status vss.0 (λ is. drop t $ fsplit t $ feq_l t (λ ep. drop t $
        k (ev ∙ (λ i. vstruct (of_list (is.0 i ++ (ep i ++ []))) ∷ [])) is.1))))
