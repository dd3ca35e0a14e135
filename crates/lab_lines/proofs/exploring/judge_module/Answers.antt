use Rattle.std.proofs.Common.{◌≡◌, map, length, arith, rules}
use Rattle.serde_json.specs.View.{view}
use Rattle.est_kernel.specs.Bits.{bits}
use Rattle.lab_lines.proofs.exploring.judge_module.Goals as goal

pub returns : goal.returns
returns g c =
    let reactions : c.len-reactions.result ≡ length c.in_ok-found.found.rows.items =
    let e = c.len-reactions.ensures in let o = c.in_ok-found.found.rows.ok.0 in omega arith in
    let states : c.len-states.result ≡ length c.in_ok-found.found.nodes.items =
    let e = c.len-states.ensures in let o = c.in_ok-found.found.nodes.ok.0 in omega arith in
    record {
      found = c.in_ok-found.found;
      watched = bits c.watched_by.result;
      explored = c.in_ok-found.ensures.explored;
      ended = c.in_ok-found.ensures.ended;
      stuck = view c.in_ok-stuck.stuck;
      stuck_told = record {
        verdict = c.in_ok-given.given;
        right = c.in_ok-given.ensures _ _ c.in_ok-found.ensures.ended;
        said = search rules;
      };
      verdicts = map view c.in_ok-verdicts.verdicts.items;
      verdicts_told = c.in_ok-verdicts.ensures;
      said = rw (← reactions, ← states) c.in_ok-told.ensures;
    }
