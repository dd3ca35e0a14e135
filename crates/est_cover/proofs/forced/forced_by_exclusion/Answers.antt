use Rattle.std.proofs.Common.{◌≡◌, ◌∙◌, sym, true, false}
use Rattle.std.proofs.lemmas.Bool.{false≢true}
use Rattle.est_kernel.specs.Bits.{bits}
use Rattle.est_cover.proofs.OneAtMost.{one_if_none}
use Rattle.est_cover.proofs.ForcedLemmas.{is_offered, not_another, one_alone}
use Rattle.est_cover.proofs.forced.forced_by_exclusion.Goals as goal

pub returns-in_default : goal.returns-in_default
returns-in_default c = one_if_none (bits c.args.part.inputs) c.args.members.now (sym c.in_default.ensures)

pub returns-in_default-first_in : goal.returns-in_default-first_in
returns-in_default-first_in c =
    one_alone c.args.part.unasked c.args.part.inputs c.without.result c.args.members.now c.in-Some.first.index
    (record {
      out = c.without.ensures.same;
      other = λ k d. c.without.ensures.other k d ∙ c.union-all.ensures k;
    })
    (sym c.in-Some.ensures) (sym c.in_default-first_in.ensures)

pub returns-then-has : goal.returns-then-has
returns-then-has c = (
  sym c.has.ensures ∙ c.if-has.true,
  λ set has one. not_another c.args.part.unasked c.args.part.inputs c.without.result c.args.members.now
      c.in-Some.first.index c.in-Some-first_in.other.index c.requires (sym c.in-Some.ensures) c.without.ensures.same
      (sym c.in-Some-first_in.ensures) set has one,
)

pub returns : goal.returns
returns c = λ set has one.
    let no : set c.in-Some-first_in.other.index ≡ false =
    not_another c.args.part.unasked c.args.part.inputs c.without.result c.args.members.now
    c.in-Some.first.index c.in-Some-first_in.other.index c.requires (sym c.in-Some.ensures) c.without.ensures.same
    (sym c.in-Some-first_in.ensures) set has one in
    let out : bits c.args.part.unasked c.in-Some-first_in.other.index ≡ false = sym c.has.ensures ∙ c.if-has.false in
    let yes : bits c.args.part.inputs c.in-Some-first_in.other.index ≡ true =
    is_offered c.args.part.unasked c.args.part.inputs c.without.result c.args.members.now c.in-Some.first.index
    c.in-Some-first_in.other.index
    (record {
      out = c.without.ensures.same;
      other = λ k d. c.without.ensures.other k d ∙ c.union-all.ensures k;
    })
    (sym c.in-Some-first_in.ensures) out in
    false≢true (sym no ∙ (has c.in-Some-first_in.other.index out ∙ yes))
