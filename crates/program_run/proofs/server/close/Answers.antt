use Rattle.std.proofs.Common.{rules, ◌≡◌, inl, length}
use Rattle.rbac_policy.specs.declared.objects.TheConstants.{SLOTS}
use Rattle.program_run.proofs.Closing.{nothing_is_found}
use Rattle.program_run.proofs.server.close.Goals as goal

pub returns-in-Ok-clause-closes : goal.returns-in-Ok-clause-closes
returns-in-Ok-clause-closes g c =
    let sixteen : length c.in-Ok.histories.slots ≡ SLOTS = search rules in
    inl (record {
      policy = c.in-Ok.histories.policy;
      slots = c.in-Ok.histories.slots;
      are = record {
        run = c.in-Ok.ensures.run;
        one = c.in-Ok.ensures.one;
        rises = c.in-Ok.ensures.rises;
        sound = nothing_is_found _ _ sixteen c.in-Ok.ensures.list c.in-Ok.ensures.legal;
      };
      reports = c.write_report.ensures.reports;
    })
