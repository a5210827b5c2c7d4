use Rattle.std.proofs.Common.{◌≡◌, ◌++◌, drop, filter}
use Rattle.pdl_pipe.specs.Infos.{is_told}
use Rattle.pdl_pipe.proofs.netlist.add_infos.Given as goal

abbrev pub invariant-loop-m : goal.invariant-loop-m
invariant-loop-m l = l.infos ++ filter (is_told l.fn.delayed) (drop l.m-index l.mems) ≡ l.fn.infos ++ filter (is_told l.fn.delayed) l.mems
