use Rattle.std.proofs.Common.{inr}
use Rattle.client_loop.specs.Logins.{session_of}
use Rattle.program_run.proofs.Devices.{failed_in_run}
use Rattle.program_run.proofs.run.script.Goals as goal

pub returns-clause-runs : goal.returns-clause-runs
returns-clause-runs g c = inr (record {
  why = c.serve-why.result.why;
  answers = g.O.Write.contents c.serve-why.new.writer.device;
  one = record {
    desk = c.finish_logout.new.desk;
    one = record {
      desk = c.serve-why.new.desk;
      left = session_of c.serve-why.result.left;
      served = rw c.in-Ok.ensures at c.serve-why.ensures.serves;
      logged_out = c.finish_logout.ensures;
    };
  };
  ends = c.finish.ensures.ends;
})

pub returns-clause-devices : goal.returns-clause-devices
returns-clause-devices g c = record {
  read = λ is. c.serve-why.ensures.read_fault (c.finish.ensures.read is);
  write = λ is. failed_in_run _ _ _ _ (c.finish.ensures.write is) c.serve-why.ensures.write_fault
      c.serve-why.ensures.unfailed_writer;
}
