use Rattle.std.proofs.Common.{◌≡◌, ◌∙◌, ◌++◌, codes, rules}
use Rattle.std.proofs.lemmas.Result.{err_from_is_err_and}
use Rattle.lab_lines.specs.Tests.{test_of}
use Rattle.lab_claims.specs.Claims.{denial_text}
use Rattle.lab_claims.specs.Refused.{in_always, in_denial, in_never}
use Rattle.lab_claims.proofs.ClaimLemmas.{always_claim, never_claim}
use Rattle.lab_claims.proofs.claims.read_claim.Goals as goal

pub returns-in_err-test-clause-fault : goal.returns-in_err-test-clause-fault
returns-in_err-test-clause-fault c =
    let p = err_from_is_err_and c.from_residual.result c.from_residual.ensures.1 in
    let e : c.args.claim.now ≡ codes "always " ++ c.in-Some.text.now = search rules in
    rw (p.1, p.2) (in_always c.in-Some.text.now e c.in_err-test.ensures.fault)

pub returns-in-Some-clause-read : goal.returns-in-Some-clause-read
returns-in-Some-clause-read c =
    let e : c.args.claim.now ≡ codes "always " ++ c.in-Some.text.now = search rules in
    always_claim c.args.interface.now c.args.claim.now c.in-Some.text.now (test_of c.in_ok-test.test) e
    c.in_ok-test.ensures.read

pub returns-in_err-_part-clause-fault : goal.returns-in_err-_part-clause-fault
returns-in_err-_part-clause-fault c =
    let p = err_from_is_err_and c.from_residual-in_err-_part.result c.from_residual-in_err-_part.ensures.1 in
    let e : c.args.claim.now ≡ codes "never " ++ c.in-Some-after.text.now = search rules in
    rw (p.1, p.2) (in_never c.in-Some-after.text.now e c.in_err-_part.ensures.fault)

pub returns-in_err-test-2-clause-fault : goal.returns-in_err-test-2-clause-fault
returns-in_err-test-2-clause-fault c =
    let p = err_from_is_err_and c.from_residual-in_err-test-2.result c.from_residual-in_err-test-2.ensures.1 in
    let e : c.args.claim.now ≡ codes "never " ++ c.in-Some-after.text.now = search rules in
    let d : c.as_str.result.now ≡ denial_text c.in-Some-after.text.now =
    c.as_str.ensures.value ∙ c.in_ok-denial.ensures in
    rw (p.1, p.2)
    (in_denial c.in-Some-after.text.now (test_of c.in_ok-_part._part) e c.in_ok-_part.ensures.read
    (rw d at c.in_err-test-2.ensures.fault))

pub returns-clause-read : goal.returns-clause-read
returns-clause-read c =
    let e : c.args.claim.now ≡ codes "never " ++ c.in-Some-after.text.now = search rules in
    let d : c.as_str.result.now ≡ denial_text c.in-Some-after.text.now =
    c.as_str.ensures.value ∙ c.in_ok-denial.ensures in
    never_claim c.args.interface.now c.args.claim.now c.in-Some-after.text.now c.as_str.result.now
    (test_of c.in_ok-_part._part) (test_of c.in_ok-test-2.test) e d c.in_ok-_part.ensures.read
    c.in_ok-test-2.ensures.read
