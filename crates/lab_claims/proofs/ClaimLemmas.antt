-- Claims that are read in turn.
use Rattle.std.proofs.Common.{◌≡◌, ◌∙◌, ℕ, ◌+◌, ◌<◌, zero, suc, List, [], ◌∷◌, ◌++◌, length, get_or, map, take, drop}
use Rattle.std.proofs.Common.{Bor, codes, ap, sym, refl, arith, length-append}
use Rattle.std.proofs.lemmas.List.{map-append, take_more}
use Rattle.est_kernel.specs.declared.interface.Declaration.{Declaration}
use Rattle.est_kernel.specs.declared.statement.Test.{Test}
use Rattle.lab_lines.specs.Tests.{test_of}
use Rattle.lab_lines.specs.declared.asked_test.AskedTest.{AskedTest}
use Rattle.lab_lines.proofs.OfferLemmas.{cut_at}
use Rattle.lab_claims.specs.Claims.{IsTestText, IsClaimText, always, never, AreClaimTexts, denial_text}
use Rattle.lab_claims.specs.Refused.{IsClaimFault, IsFirstBad}
use Rattle.lab_claims.specs.declared.claims.BadClaim.{BadClaim}

-- the claims so far are read, and so is one more
claims_more : (interface : List Declaration) (ts : List (List ℕ)) (tests : List Test) (t : List ℕ) (test : Test)
    → AreClaimTexts interface ts tests → IsClaimText interface t test
    → AreClaimTexts interface (ts ++ t ∷ []) (tests ++ test ∷ [])
claims_more interface [] [] t test are is = (is, tt)
claims_more interface [] (y ∷ tests) t test are is = absurd are
claims_more interface (x ∷ ts) [] t test are is = absurd are
claims_more interface (x ∷ ts) (y ∷ tests) t test are is = (are.0, claims_more interface ts tests t test are.1 is)

-- the same where a loop takes the next claim
pub claims_next : (interface : List Declaration) (xs : List (Bor (List ℕ))) (i : ℕ) (x : Bor (List ℕ))
    (vs ws : List AskedTest) (v : AskedTest) → i < length xs → ws ≡ vs ++ v ∷ []
    → AreClaimTexts interface (map (λ t. t.now) (take i xs)) (map test_of vs)
    → IsClaimText interface (get_or xs i x).now (test_of v)
    → AreClaimTexts interface (map (λ t. t.now) (take (i + 1) xs)) (map test_of ws)
claims_next interface xs i x vs ws v within grown are is =
    rw (
      take_more xs i x within,
      grown,
      map-append (λ (t : Bor (List ℕ)). t.now) (take i xs) (get_or xs i x ∷ []),
      map-append test_of vs (v ∷ []),
    )
    (claims_more interface (map (λ t. t.now) (take i xs)) (map test_of vs) (get_or xs i x).now (test_of v) are is)

-- one test more
pub one_longer : (vs ws : List AskedTest) (v : AskedTest) (i : ℕ) → ws ≡ vs ++ v ∷ [] → length vs ≡ i
    → length ws ≡ i + 1
one_longer vs ws v i grown count = omega (arith, ap length grown, length-append vs (v ∷ []))

-- how many claims come before it
earlier_count : (xs : List (Bor (List ℕ))) (i : ℕ) → i < length xs → length (map (λ t. t.now) (take i xs)) ≡ i
earlier_count [] i within = absurd (omega arith)
earlier_count (y ∷ xs) zero within = refl
earlier_count (y ∷ xs) (suc i) within = ap suc (earlier_count xs i (omega arith))

-- the claims so far are read, and the next is none
pub first_bad : (interface : List Declaration) (xs : List (Bor (List ℕ))) (i : ℕ) (x : Bor (List ℕ))
    (vs : List AskedTest) (bad : BadClaim) → i < length xs → length vs ≡ i
    → AreClaimTexts interface (map (λ t. t.now) (take i xs)) (map test_of vs) → bad.number ≡ length vs + 1
    → IsClaimFault interface (get_or xs i x).now bad.why → IsFirstBad interface (map (λ t. t.now) xs) bad
first_bad interface xs i x vs bad within count are number fault = record {
  earlier = map (λ t. t.now) (take i xs);
  claim = (get_or xs i x).now;
  later = map (λ t. t.now) (drop (suc i) xs);
  cut = cut_at xs i x within;
  tests = map test_of vs;
  read = are;
  number = number ∙ ap (λ n. n + 1) (count ∙ sym (earlier_count xs i within));
  fault = fault;
}

-- `always T`
pub always_claim : (interface : List Declaration) (claim text : List ℕ) (test : Test) → claim ≡ codes "always " ++ text
    → IsTestText interface text test → IsClaimText interface claim test
always_claim interface claim text test e is = rw e (always text test is)

-- `never T`
pub never_claim : (interface : List Declaration) (claim text denied : List ℕ) (part test : Test)
    → claim ≡ codes "never " ++ text → denied ≡ denial_text text
    → IsTestText interface text part → IsTestText interface denied test → IsClaimText interface claim test
never_claim interface claim text denied part test e n of_part is = rw e (never text part test of_part (rw n at is))
