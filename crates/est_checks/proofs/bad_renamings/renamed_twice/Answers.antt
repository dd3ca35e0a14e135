use Rattle.std.proofs.Common.{◌∙◌, ◌||◌, List, ap, sym, length, filter, nat_lt}
use Rattle.std.proofs.lemmas.List.{take_all}
use Rattle.std.specs.Str.{bytes_eq}
use Rattle.est_syntax.specs.Tree.{RenamingTree}
use Rattle.est_syntax.specs.Views.{renaming_view}
use Rattle.est_syntax.specs.declared.tree.Renaming.{Renaming}
use Rattle.est_modules.specs.NameSets.{has}
use Rattle.est_modules.specs.declared.names.set.NameSet.{NameSet}
use Rattle.est_modules.proofs.Lists.{count_map}
use Rattle.est_checks.proofs.Twice.{named_again, named_new, named_once}
use Rattle.est_checks.proofs.bad_renamings.renamed_twice.Goals as goal
use Rattle.est_checks.proofs.bad_renamings.renamed_twice.Goals.{then-not-branch+in_ok-insert-2, else-not-branch}
use Rattle.est_order.proofs.SearchLemmas.{not_false as of_not, is_true}

pub loop-renaming-preserved : goal.loop-renaming-preserved
loop-renaming-preserved c =
    let rs = c.args.renamings.now in
    let k = c.loop-renaming.renaming-index in
    let r = c.renaming-item.result in
    let at = c.renaming-item.is in
    let room = c.loop-renaming-test.true in
    record {
      once = λ s.
          c.in_ok-insert.ensures.has s ∙ ap (λ b. b || bytes_eq r.inner s) (c.loop-renaming.invariant.once s)
          ∙ named_once rs k r s at room;
      twice = elim c.if-not-branch.branch [
        | then-not-branch+in_ok-insert-2 w ↦ (λ s.
            ap (λ (t : NameSet). has t s) w.twice-is
            ∙ w.in_ok-insert-2.ensures.has s
            ∙ ap (λ b. b || bytes_eq r.inner s) (c.loop-renaming.invariant.twice s)
            ∙ named_again rs k r s at room
            (sym (c.loop-renaming.invariant.once r.inner)
            ∙ is_true (has c.loop-renaming.once r.inner) (sym c.in_ok-insert.ensures.added ∙ w.if-not-branch.true)))
        | else-not-branch w ↦ (λ s.
            ap (λ (t : NameSet). has t s) w.twice-is
            ∙ c.loop-renaming.invariant.twice s
            ∙ named_new rs k r s at room
            (sym (c.loop-renaming.invariant.once r.inner)
            ∙ of_not (has c.loop-renaming.once r.inner) (sym c.in_ok-insert.ensures.added ∙ w.if-not-branch.false)))
      ];
    }

pub returns : goal.returns
returns c s =
    let test = λ (r : RenamingTree). bytes_eq r.inner s in
    c.loop-renaming.invariant.twice s
    ∙ ap (λ (rs : List Renaming). nat_lt 1 (length (filter (λ (r : Renaming). bytes_eq r.inner s) rs)))
    (take_all c.loop-renaming.renaming-index c.args.renamings.now c.loop-renaming-test.false)
    ∙ ap (nat_lt 1) (sym (count_map test renaming_view c.args.renamings.now))
