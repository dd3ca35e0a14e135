-- Which signals a test reads.
use Rattle.std.proofs.Common.{◌≡◌, ◌∙◌, ℕ, ◌<◌, ◌+◌, Bool, true, ◌||◌, nat_eq, List, [], ◌∷◌}
use Rattle.std.proofs.Common.{length, get_or, take, sym, refl, ap, subst}
use Rattle.std.specs.List.{All, fold}
use Rattle.std.proofs.lemmas.Bool.{eq-eqb, false≢true, or_right, or_left}
use Rattle.std.proofs.lemmas.List.Elements.{All-head, All-more, All-tail, All-weaker}
use Rattle.est_kernel.specs.Bits.{bits}
use Rattle.est_kernel.specs.Term.{Query, of, outer, inner}
use Rattle.est_kernel.specs.View.{query_of, joint_of}
use Rattle.est_kernel.specs.declared.statement.Connective.{Connective}
use Rattle.est_kernel.specs.declared.statement.Operands.{Operands}
use Rattle.est_kernel.specs.declared.statement.Test.{Test}
use Rattle.est_kernel.specs.declared.statement.Test.TheViews.{out-Operands}
use Rattle.est_meaning.specs.Environments.{Env, joint_status, status_of, verdict}
use Rattle.est_meaning.specs.declared.status.Status.{Status}
use Rattle.est_meaning.proofs.TestLemmas.{joined_with, operands_status}
use Rattle.est_explore.specs.Claims.{known, is_yes, IsToldBy}
use Rattle.est_explore.specs.Inner.Reads.{IsReadBy, IsJointReadBy}

pub tells : (t : Test) (s : ℕ → Bool) → IsReadBy (query_of t) s → IsToldBy t s
tells t s h = λ f g a. ap is_yes (h f g a)

pub outer_read : (n : ℕ) (s : ℕ → Bool) → s n ≡ true → IsReadBy (of (outer n)) s
unfolding known
outer_read n s h f g a = ap (λ (b : Bool). verdict b b) (a n h)

pub inner_read : (n : ℕ) (s : ℕ → Bool) → IsReadBy (of (inner n)) s
unfolding known
inner_read n s f g a = refl

pub single_has : (m n : ℕ) → ((k : ℕ) → bits m k ≡ nat_eq n k) → bits m n ≡ true
single_has m n h = h n ∙ eq-eqb n n refl

-- more signals
pub read_more : (q : Query) (s t : ℕ → Bool) → ((n : ℕ) → s n ≡ true → t n ≡ true) → IsReadBy q s → IsReadBy q t
read_more q s t more h f g a = h f g (λ n x. a n (more n x))

pub in_first : (a b r : ℕ) → ((n : ℕ) → bits r n ≡ (bits a n || bits b n)) → (n : ℕ) → bits a n ≡ true → bits r n ≡ true
in_first a b r h n t = h n ∙ or_left (bits a n) (bits b n) t

pub in_second : (a b r : ℕ) → ((n : ℕ) → bits r n ≡ (bits a n || bits b n)) → (n : ℕ) → bits b n ≡ true
    → bits r n ≡ true
in_second a b r h n t = h n ∙ or_right (bits a n) (bits b n) t

-- what these ask is the same where the signals are
pub record AreReadBy (first second : Query) (later : List Test) (s : ℕ → Bool) : Type 0 where
  pub one : IsReadBy first s
  pub two : IsReadBy second s
  pub more : All (λ t. IsReadBy (query_of t) s) later

pub all_more : (first second : Query) (later : List Test) (s t : ℕ → Bool) → ((n : ℕ) → s n ≡ true → t n ≡ true)
    → AreReadBy first second later s → AreReadBy first second later t
all_more first second later s t more h = record {
  one = read_more first s t more h.one;
  two = read_more second s t more h.two;
  more = All-weaker (λ x. IsReadBy (query_of x) s) (λ x. IsReadBy (query_of x) t)
      (λ x. read_more (query_of x) s t more) later h.more;
}

-- one more test
pub read_next : (first second : Query) (xs : List Test) (i : ℕ) (x : Test) (old one new : ℕ) → i < length xs
    → x ≡ get_or xs i x → ((n : ℕ) → bits new n ≡ (bits old n || bits one n))
    → AreReadBy first second (take i xs) (bits old) → IsReadBy (query_of x) (bits one)
    → AreReadBy first second (take (i + 1) xs) (bits new)
read_next first second xs i x old one new within at h are is =
    let more = all_more first second (take i xs) (bits old) (bits new) (in_first old one new h) are in
    record {
      one = more.one;
      two = more.two;
      more = All-more (λ t. IsReadBy (query_of t) (bits new)) xs i x within more.more
          (subst (λ (y : Test). IsReadBy (query_of y) (bits new)) at
          (read_more (query_of x) (bits one) (bits new) (in_second old one new h) is));
    }

same_fold : (c : Connective) (d e : Env) (v w : Status) (ts : List Test) → v ≡ w
    → All (λ t. status_of d (query_of t) ≡ status_of e (query_of t)) ts
    → fold (joined_with c d) v ts ≡ fold (joined_with c e) w ts
same_fold c d e v w [] h all = h
same_fold c d e v w (t ∷ ts) h all =
    same_fold c d e (joint_status c v (status_of d (query_of t))) (joint_status c w (status_of e (query_of t))) ts
    (ap (λ (x : Status). joint_status c x (status_of d (query_of t))) h
    ∙ ap (joint_status c w) (All-head (λ u. status_of d (query_of u) ≡ status_of e (query_of u)) t ts all))
    (All-tail (λ u. status_of d (query_of u) ≡ status_of e (query_of u)) t ts all)

pub operands_read : (o : Operands) (s : ℕ → Bool)
    → AreReadBy (query_of (out-Operands o).first.value) (query_of (out-Operands o).second.value)
    (out-Operands o).later.items s
    → IsJointReadBy (joint_of o) s
operands_read o s h c f g a =
    let parts = out-Operands o in
    operands_status c (known f) o
    ∙ (same_fold c (known f) (known g)
    (joint_status c (status_of (known f) (query_of parts.first.value))
    (status_of (known f) (query_of parts.second.value)))
    (joint_status c (status_of (known g) (query_of parts.first.value))
    (status_of (known g) (query_of parts.second.value)))
    parts.later.items
    (ap (λ (x : Status). joint_status c x (status_of (known f) (query_of parts.second.value))) (h.one f g a)
    ∙ ap (joint_status c (status_of (known g) (query_of parts.first.value))) (h.two f g a))
    (All-weaker (λ t. IsReadBy (query_of t) s)
    (λ t. status_of (known f) (query_of t) ≡ status_of (known g) (query_of t)) (λ t r. r f g a) parts.later.items
    h.more)
    ∙ sym (operands_status c (known g) o))
