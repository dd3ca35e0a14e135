use Rattle.client_loop.proofs.SharedLemmas.{keeps_added, published, step_same}
use Rattle.client_loop.proofs.shared_desk.command_board.Goals as goal

pub reply_of-requires : goal.reply_of-requires
reply_of-requires g c =
    let a = c.admin.ensures in
    published c.args.session c.args.command a.0 a.1 c.admin.result a.4

pub returns : goal.returns
returns g c =
    let a = c.admin.ensures in
    record {
      old = a.0;
      new = a.1;
      is_list = a.2;
      known = a.3;
      step = λ slots. step_same slots a.0 a.1 c.admin.result c.reply_of.result c.args.session c.args.command
          c.reply_of.ensures.refused (λ entry p. c.reply_of.ensures.accepted entry a.0 a.1 p) a.4;
      seat_knows = a.5.known;
      seat_seen = a.5.seen;
      seat_read = a.5.read;
      seat_keeps = keeps_added a.0 a.1 c.admin.result c.args.seat.now c.admin.new.seat c.args.session c.args.command a.4
          a.5;
    }
