-- The texts of objects and operations: each is read from its text, and from no other.
use Rattle.std.proofs.Common.{◌≡◌, ◌∙◌, ◌↔◌, ◌<◌, ◌≤◌, ◌+◌, ◌*◌, ◌-◌, ◌++◌, ℕ, zero, suc, List, [], ◌∷◌, codes, Bool}
use Rattle.std.proofs.Common.{true, false, ◌&&◌, ◌==◌, cond, Option, Some, None, option_and_then, bytes_eq, refl, sym}
use Rattle.std.proofs.Common.{ap, subst, arith, nat_le, nat_lt, ◌⊎◌, inl, inr}
use Rattle.std.specs.Prelude.{decimal}
use Rattle.std.specs.Fmt.{digits}
use Rattle.std.proofs.lemmas.List.{append-nil}
use Rattle.std.proofs.lemmas.Bool.Decides.{nat_tests}
use Rattle.std.proofs.lemmas.Grind.{common_steps}
use Rattle.std.proofs.lemmas.Option.{same_Some}
use Rattle.std.proofs.lemmas.Slice.Eq.{bytes_eq-Decides}
use Rattle.est_text.specs.Identifiers.{is_identifier}
use Rattle.rbac_policy.specs.Texts.{operation_text, operation_of, object_text, IsObject, object_of, object_in, slot_at}
use Rattle.rbac_policy.specs.Texts.{units_slot_at, slot_before}
use Rattle.rbac_policy.specs.declared.objects.TheConstants.{SLOTS}
use Rattle.rbac_policy.specs.declared.objects.Operation.{Operation}
use Rattle.rbac_policy.specs.declared.objects.Operation.TheVariants as operation
use Rattle.rbac_policy.specs.declared.objects.Object.{Object}
use Rattle.rbac_policy.specs.declared.objects.Object.TheVariants as object

-- the slots, one by one

slot_alone : (k : ℕ) → k < SLOTS → object_of (decimal k) ≡ Some (object.Slot k)
unfolding object_of slot_at digits
slot_alone zero h = refl
slot_alone (suc zero) h = refl
slot_alone (suc (suc zero)) h = refl
slot_alone (suc (suc (suc zero))) h = refl
slot_alone (suc (suc (suc (suc zero)))) h = refl
slot_alone (suc (suc (suc (suc (suc zero))))) h = refl
slot_alone (suc (suc (suc (suc (suc (suc zero)))))) h = refl
slot_alone (suc (suc (suc (suc (suc (suc (suc zero))))))) h = refl
slot_alone (suc (suc (suc (suc (suc (suc (suc (suc zero)))))))) h = refl
slot_alone (suc (suc (suc (suc (suc (suc (suc (suc (suc zero))))))))) h = refl
slot_alone (suc (suc (suc (suc (suc (suc (suc (suc (suc (suc zero)))))))))) h = refl
slot_alone (suc (suc (suc (suc (suc (suc (suc (suc (suc (suc (suc zero))))))))))) h = refl
slot_alone (suc (suc (suc (suc (suc (suc (suc (suc (suc (suc (suc (suc zero)))))))))))) h = refl
slot_alone (suc (suc (suc (suc (suc (suc (suc (suc (suc (suc (suc (suc (suc zero))))))))))))) h = refl
slot_alone (suc (suc (suc (suc (suc (suc (suc (suc (suc (suc (suc (suc (suc (suc zero)))))))))))))) h = refl
slot_alone (suc (suc (suc (suc (suc (suc (suc (suc (suc (suc (suc (suc (suc (suc (suc zero))))))))))))))) h = refl
slot_alone (suc (suc (suc (suc (suc (suc (suc (suc (suc (suc (suc (suc (suc (suc (suc (suc k)))))))))))))))) h =
    absurd (omega arith)

slot_before_stop : (k : ℕ) (signal : List ℕ) → k < SLOTS → is_identifier signal ≡ true
    → object_of (decimal k ++ 46 ∷ signal) ≡ Some (object.Signal k signal)
unfolding object_of slot_at digits
slot_before_stop zero signal h is = rw is refl
slot_before_stop (suc zero) signal h is = rw is refl
slot_before_stop (suc (suc zero)) signal h is = rw is refl
slot_before_stop (suc (suc (suc zero))) signal h is = rw is refl
slot_before_stop (suc (suc (suc (suc zero)))) signal h is = rw is refl
slot_before_stop (suc (suc (suc (suc (suc zero))))) signal h is = rw is refl
slot_before_stop (suc (suc (suc (suc (suc (suc zero)))))) signal h is = rw is refl
slot_before_stop (suc (suc (suc (suc (suc (suc (suc zero))))))) signal h is = rw is refl
slot_before_stop (suc (suc (suc (suc (suc (suc (suc (suc zero)))))))) signal h is = rw is refl
slot_before_stop (suc (suc (suc (suc (suc (suc (suc (suc (suc zero))))))))) signal h is = rw is refl
slot_before_stop (suc (suc (suc (suc (suc (suc (suc (suc (suc (suc zero)))))))))) signal h is = rw is refl
slot_before_stop (suc (suc (suc (suc (suc (suc (suc (suc (suc (suc (suc zero))))))))))) signal h is = rw is refl
slot_before_stop (suc (suc (suc (suc (suc (suc (suc (suc (suc (suc (suc (suc zero)))))))))))) signal h is = rw is refl
slot_before_stop (suc (suc (suc (suc (suc (suc (suc (suc (suc (suc (suc (suc (suc zero))))))))))))) signal h is =
    rw is refl
slot_before_stop (suc (suc (suc (suc (suc (suc (suc (suc (suc (suc (suc (suc (suc (suc zero)))))))))))))) signal h is =
    rw is refl
slot_before_stop (suc (suc (suc (suc (suc (suc (suc (suc (suc (suc (suc (suc (suc (suc (suc zero))))))))))))))) signal h
    is = rw is refl
slot_before_stop (suc (suc (suc (suc (suc (suc (suc (suc (suc (suc (suc (suc (suc (suc (suc (suc k))))))))))))))))
    signal h is = absurd (omega arith)

digit : (d : ℕ) → d < 10 → decimal d ≡ (48 + d) ∷ []
unfolding digits
digit zero h = refl
digit (suc zero) h = refl
digit (suc (suc zero)) h = refl
digit (suc (suc (suc zero))) h = refl
digit (suc (suc (suc (suc zero)))) h = refl
digit (suc (suc (suc (suc (suc zero))))) h = refl
digit (suc (suc (suc (suc (suc (suc zero)))))) h = refl
digit (suc (suc (suc (suc (suc (suc (suc zero))))))) h = refl
digit (suc (suc (suc (suc (suc (suc (suc (suc zero)))))))) h = refl
digit (suc (suc (suc (suc (suc (suc (suc (suc (suc zero))))))))) h = refl
digit (suc (suc (suc (suc (suc (suc (suc (suc (suc (suc d)))))))))) h = absurd (omega arith)

two_digits : (d : ℕ) → d < 6 → decimal (10 + d) ≡ 49 ∷ (48 + d) ∷ []
unfolding digits
two_digits zero h = refl
two_digits (suc zero) h = refl
two_digits (suc (suc zero)) h = refl
two_digits (suc (suc (suc zero))) h = refl
two_digits (suc (suc (suc (suc zero)))) h = refl
two_digits (suc (suc (suc (suc (suc zero))))) h = refl
two_digits (suc (suc (suc (suc (suc (suc d)))))) h = absurd (omega arith)

-- from a text to its object

guard : {A : Type 0} (b : Bool) (x : A) (y : A) → cond b (Some x) None ≡ Some y → (b ≡ true) × (x ≡ y)
guard true x y h = (refl, same_Some _ _ h)
guard false x y h = cc

pub passed : {A : Type 0} (b : Bool) (o : Option A) (y : A) → cond b o None ≡ Some y → (b ≡ true) × (o ≡ Some y)
passed true o y h = (refl, h)
passed false o y h = cc

either : {A : Type 0} (b : Bool) (o p : Option A) (y : A) → cond b o p ≡ Some y
    → ((b ≡ true) × (o ≡ Some y)) ⊎ (p ≡ Some y)
either true o p y h = inl (refl, h)
either false o p y h = inr h

pub chained : {A B : Type 0} (f : A → Option B) (o : Option A) (y : B) → option_and_then f o ≡ Some y
    → (x : A) × (o ≡ Some x) × (f x ≡ Some y)
chained f None y h = cc
chained f (Some x) y h = (x, refl, h)

-- a slot and what follows it are the whole text
record Splits (text : List ℕ) (found : ℕ × List ℕ) : Type 0 where
  pub slot : found.0 < SLOTS
  pub whole : text ≡ decimal found.0 ++ found.1

units_split : (text : List ℕ) (found : ℕ × List ℕ) → units_slot_at text ≡ Some found → Splits text found
units_split [] found h = cc
units_split (unit ∷ rest) found h =
    let g = passed (nat_le 48 unit && nat_le unit 57) (slot_before (unit - 48) rest) found h in
    let low : 48 ≤ unit = grind (arith, nat_tests, common_steps, g.0) in
    let high : unit ≤ 57 = grind (arith, nat_tests, common_steps, g.0) in
    let e : 48 + (unit - 48) ≡ unit = omega arith in
    let s = guard (nat_lt (unit - 48) SLOTS) (unit - 48, rest) found g.1 in
    subst (Splits (unit ∷ rest)) s.1 (record {
      slot = grind (arith, nat_tests, s.0);
      whole = sym (rw (digit (unit - 48) (omega arith), e) refl);
    })

slot_splits : (text : List ℕ) (found : ℕ × List ℕ) → slot_at text ≡ Some found → Splits text found
unfolding slot_at
slot_splits [] found h = cc
slot_splits (ten ∷ []) found h = units_split (ten ∷ []) found h
slot_splits (ten ∷ unit ∷ rest) found h =
    elim (either ((nat_le 49 ten && nat_le ten 57) && (nat_le 48 unit && nat_le unit 57))
    (slot_before (10 * (ten - 48) + (unit - 48)) rest) (units_slot_at (ten ∷ unit ∷ rest)) found h) [
      | inl two ↦
          let k = 10 * (ten - 48) + (unit - 48) in
          let s = guard (nat_lt k SLOTS) (k, rest) found two.1 in
          let few : k < SLOTS = grind (arith, nat_tests, s.0) in
          let second : 49 ≤ ten = grind (arith, nat_tests, common_steps, two.0) in
          let low : 48 ≤ unit = grind (arith, nat_tests, common_steps, two.0) in
          let first : ten ≡ 49 = omega (arith, few, second) in
          let e : 48 + (unit - 48) ≡ unit = omega arith in
          let is : 10 + (unit - 48) ≡ k = omega arith in
          let spelt : 49 ∷ unit ∷ rest ≡ decimal (10 + (unit - 48)) ++ rest =
          sym (rw (two_digits (unit - 48) (omega (arith, few, is)), e) refl) in
          subst (Splits (ten ∷ unit ∷ rest)) s.1 (record {
            slot = few;
            whole = ap (λ b. b ∷ unit ∷ rest) first ∙ spelt ∙ ap (λ n. decimal n ++ rest) is;
          })
      | inr one ↦ units_split (ten ∷ unit ∷ rest) found one
    ]

-- the text is that of the object
pub record IsTextOf (text : List ℕ) (o : Object) : Type 0 where
  pub is : IsObject o
  pub text_is : text ≡ object_text o

object_in_is : (k : ℕ) (rest : List ℕ) (o : Object) → k < SLOTS → object_in k rest ≡ Some o
    → IsTextOf (decimal k ++ rest) o
object_in_is k [] o h e = subst (IsTextOf (decimal k ++ [])) (same_Some _ _ e)
    (record { is = h; text_is = append-nil (decimal k) })
object_in_is k (stop ∷ signal) o h e =
    let g = guard ((stop == 46) && is_identifier signal) (object.Signal k signal) o e in
    let dot : stop ≡ 46 = grind (arith, nat_tests, common_steps, g.0) in
    let name : is_identifier signal ≡ true = grind (arith, nat_tests, common_steps, g.0) in
    subst (IsTextOf (decimal k ++ stop ∷ signal)) g.1 (record { is = (h, name); text_is = rw dot refl })

object_of_is : (text : List ℕ) (o : Object) → object_of text ≡ Some o → IsTextOf text o
unfolding object_of
object_of_is text o h =
    elim (either (bytes_eq text (codes "policy")) (Some object.Policy)
    (option_and_then (λ (found : ℕ × List ℕ). object_in found.0 found.1) (slot_at text)) o h) [
      | inl policy ↦ subst (IsTextOf text) (same_Some _ _ policy.1)
          (record { is = tt; text_is = (bytes_eq-Decides text (codes "policy")).0 policy.0 })
      | inr other ↦
          let c = chained (λ (found : ℕ × List ℕ). object_in found.0 found.1) (slot_at text) o other in
          let s = slot_splits text c.0 c.1 in
          subst (λ (t : List ℕ). IsTextOf t o) (sym s.whole) (object_in_is c.0.0 c.0.1 o s.slot c.2)
    ]

-- from an object to its text and back

pub object_of-object_text : (o : Object) → IsObject o → object_of (object_text o) ≡ Some o
unfolding object_of
object_of-object_text object.Policy is = refl
object_of-object_text (object.Slot k) is = slot_alone k is
object_of-object_text (object.Signal k signal) is = slot_before_stop k signal is.0 is.1

-- a text is read as the object whose text it is, and only as that
pub object_of-exact : (text : List ℕ) (o : Object) → (object_of text ≡ Some o) ↔ (IsObject o × (text ≡ object_text o))
object_of-exact text o = (
  (λ (e : object_of text ≡ Some o). let r = object_of_is text o e in (r.is, r.text_is)),
  (λ (r : IsObject o × (text ≡ object_text o)). ap object_of r.1 ∙ object_of-object_text o r.0),
)

-- operations

-- the text is that of this operation, or what the rest of the choice says holds
pick : (text : List ℕ) (one : Operation) (others : Option Operation) (o : Operation)
    → cond (bytes_eq text (operation_text one)) (Some one) others ≡ Some o → (others ≡ Some o → text ≡ operation_text o)
    → text ≡ operation_text o
pick text one others o h later =
    elim (either (bytes_eq text (operation_text one)) (Some one) others o h) [
      | inl this ↦ (bytes_eq-Decides text (operation_text one)).0 this.0 ∙ ap operation_text (same_Some _ _ this.1)
      | inr other ↦ later other
    ]

operation_of_is : (text : List ℕ) (o : Operation) → operation_of text ≡ Some o → text ≡ operation_text o
unfolding operation_of
operation_of_is text o h =
    pick text operation.Offer _ o h (λ h. pick text operation.Observe _ o h (λ h. pick text operation.Step _ o h (λ h.
    pick text operation.Load _ o h
    (λ h. pick text operation.Administer _ o h (λ h. pick text operation.Audit _ o h (λ h. cc))))))

pub operation_of-operation_text : (o : Operation) → operation_of (operation_text o) ≡ Some o
unfolding operation_of
operation_of-operation_text operation.Offer = refl
operation_of-operation_text operation.Observe = refl
operation_of-operation_text operation.Step = refl
operation_of-operation_text operation.Load = refl
operation_of-operation_text operation.Administer = refl
operation_of-operation_text operation.Audit = refl

-- a text is read as the operation whose name it is, and only as that
pub operation_of-exact : (text : List ℕ) (o : Operation) → (operation_of text ≡ Some o) ↔ (text ≡ operation_text o)
operation_of-exact text o =
    (operation_of_is text o, (λ (e : text ≡ operation_text o). ap operation_of e ∙ operation_of-operation_text o))
