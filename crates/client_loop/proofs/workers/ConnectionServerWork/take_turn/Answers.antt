use Rattle.std.proofs.Common.{rules}
use Rattle.client_loop.proofs.workers.ConnectionServerWork.take_turn.Goals as goal

pub returns : goal.returns
returns g c = record {
  connection = c.in-Some.connection;
  end = c.serve_connection-served.result;
  given = c.in-Some.ensures;
  taken = c.take_back.ensures;
  served = search rules;
  read_fault = c.serve_connection-served.ensures.read_fault;
  write_fault = c.serve_connection-served.ensures.write_fault;
}
