use Rattle.std.proofs.Common.{◌+◌, rules}
use Rattle.est_reduce.specs.declared.body.Body.TheFolds.{the_lemmas}
use Rattle.est_reduce.specs.Inner.Exits.{leads}
use Rattle.est_reduce.specs.Reductions.{reduced}
use Rattle.est_reduce.specs.Views.{body_of}
use Rattle.est_reduce.proofs.Binders.{small_binders}
use Rattle.est_reduce.proofs.builder.+statement.Goals as goal

pub statement-reduce_in_signals-requires : goal.statement-reduce_in_signals-requires
statement-reduce_in_signals-requires t c =
    let l = c.args.place.now.locals in
    let n = c.in-Signal.count in
    let parts = small_binders l n (reduced (leads c.args.place.now.exits.now) (l + n)
    (body_of c.in-Signal.p.value)) c.requires.room (rw c.in-Signal.is at c.requires.small) in
    (search (rules, the_lemmas), (parts.0, rw c.deref-in-Signal.ensures parts.1))

pub statement-inside_binders-requires : goal.statement-inside_binders-requires
statement-inside_binders-requires t c =
    let l = c.args.place.now.locals in
    let n = c.in-Signal.count in
    let parts = small_binders l n (reduced (leads c.args.place.now.exits.now) (l + n)
    (body_of c.in-Signal.p.value)) c.requires.room (rw c.in-Signal.is at c.requires.small) in
    parts.0
