use Rattle.std.proofs.Common.{◌≡◌, ◌+◌, ◌≤◌, length, drop, filter}
use Rattle.pdl_kit.specs.declared.mem_info.MemInfo.{MemInfo}
use Rattle.pdl_netrun.proofs.start.count_delayed.Given as goal

abbrev pub invariant-loop-mem : goal.invariant-loop-mem
invariant-loop-mem l = record {
  rest : l.count + length (filter (λ (m : MemInfo). m.delayed) (drop l.mem-index l.n.mems)) ≡ length (filter (λ (m : MemInfo). m.delayed) l.n.mems);
  few : l.count ≤ l.mem-index;
}
