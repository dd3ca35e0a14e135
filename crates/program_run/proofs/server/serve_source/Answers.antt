use Rattle.std.proofs.Common.{rules, ◌≡◌, ◌≤◌, inl, inr, length, refl, replicate, subst, true}
use Rattle.std.proofs.KnownBytes.{Keeps-refl}
use Rattle.history_receipts.specs.declared.receipt_list.TheConstants.{SEATS}
use Rattle.policy_board.specs.SeatState.{new_seat}
use Rattle.server_threads.specs.Turns.{AreBack}
use Rattle.client_loop.specs.Workers.{ServesNext}
use Rattle.program_run.specs.Serving.{Turn, quota_of}
use Rattle.program_run.proofs.Closing.{as_many}
use Rattle.program_run.proofs.server.serve_source.Goals.{in-Ok-2, in-Err}
use Rattle.program_run.proofs.server.serve_source.Goals as goal

pub close-requires-in-Ok-served : goal.close-requires-in-Ok-served
close-requires-in-Ok-served g c =
    let alike : c.in-Ok.field-0.seats.items ≡ replicate c.args.workers new_seat = search rules in
    let few : length c.in-Ok-served.back.seats.items ≤ SEATS
    = rw (as_many _ _ _ c.args.workers new_seat _ _ alike c.in-Ok-served.ensures)
    (subst (λ n. n ≤ SEATS) c.count.ensures.count c.count.ensures.few) in
    search (rules, few)

pub returns-in-Ok-served-clause-serves : goal.returns-in-Ok-served-clause-serves
returns-in-Ok-served-clause-serves g c =
    let turn : Turn = λ worker number before after. ServesNext {I = g.row.S-Reader.Denot} {O = g.row.S-Writer.Denot}
    g.S.Reader.Read.remaining g.S.Writer.Write.contents g.S.Source.gave g.S.Source.took worker number before after in
    let seats = c.in-Ok-served.back.seats.items in
    let alike : c.in-Ok.field-0.seats.items ≡ replicate c.args.workers new_seat = search rules in
    let quota : c.unwrap_or-quota.result ≡ quota_of c.args.connections = search rules in
    let all : c.in-Ok-served.back.all_taken ≡ true = search rules in
    inl (record {
      seats = seats;
      back = subst (λ q. AreBack turn q true (replicate c.args.workers new_seat) seats) quota
          (subst (λ a. AreBack turn c.unwrap_or-quota.result a (replicate c.args.workers new_seat) seats) all
          (subst (λ s. AreBack turn c.unwrap_or-quota.result c.in-Ok-served.back.all_taken s seats) alike
          c.in-Ok-served.ensures));
      closes = search rules;
    })

pub returns-clause-serves : goal.returns-clause-serves
returns-clause-serves g c = inr (record {
  given = c.match-served.fault;
  told = refl;
  named = elim c.match-served.branch [ in-Ok-2 w ↦ inr w.fault-is | in-Err w ↦ inl w.fault-is ];
  silent = Keeps-refl _;
})
