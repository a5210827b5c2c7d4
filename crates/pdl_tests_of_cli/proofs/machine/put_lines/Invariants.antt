use Rattle.std.proofs.Common.{◌≡◌, ◌≤◌}
use Rattle.pdl_tests_of_cli.proofs.machine.put_lines.Given as goal

-- the machine has had as many cycles, in each of which at most one thread ended
abbrev pub invariant-loop-done : goal.invariant-loop-done
invariant-loop-done l =
    record {
      cycles : l.machine.cycles ≡ l.done;
      ended : l.ended ≤ l.done;
    }
