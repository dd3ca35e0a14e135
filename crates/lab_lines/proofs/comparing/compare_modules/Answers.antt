use Rattle.std.proofs.Common.{◌≡◌, length, arith, rules}
use Rattle.est_kernel.specs.Bits.{bits}
use Rattle.lab_lines.proofs.comparing.compare_modules.Goals as goal

pub returns : goal.returns
returns g c =
    let reactions : c.len-reactions.result ≡ length c.in_ok-found.found.rows.items =
    let e = c.len-reactions.ensures in let o = c.in_ok-found.found.rows.ok.0 in omega arith in
    let states : c.len-states.result ≡ length c.in_ok-found.found.nodes.items =
    let e = c.len-states.ensures in let o = c.in_ok-found.found.nodes.ok.0 in omega arith in
    record {
      found = c.in_ok-found.found;
      watched = bits c.args.subject.now.watched;
      explored = c.in_ok-found.ensures.explored;
      ended = c.in_ok-found.ensures.ended;
      comparison = c.in_ok-comparison.comparison;
      right = c.in_ok-comparison.ensures _ _ c.in_ok-found.ensures.ended;
      said = rw (← reactions, ← states) (search rules);
    }
