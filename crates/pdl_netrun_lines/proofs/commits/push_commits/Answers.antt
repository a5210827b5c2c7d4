use Rattle.std.proofs.Common.{◌≡◌, ◌∙◌, ◌+◌, ◌<◌, ◌++◌, ℕ, List, ap, ap₂, arith, drop, get_or, length, map, subst, sym}
use Rattle.std.proofs.lemmas.List.{drop_all, get_or_default}
use Rattle.pdl_kit.specs.Sinks.{TakesPrefix}
use Rattle.pdl_kit.specs.declared.mem_info.MemInfo.{MemInfo}
use Rattle.pdl_semantics.specs.Lines.{Put, mem_lines}
use Rattle.pdl_net.specs.Run.{mem_at, no_mem}
use Rattle.pdl_law_parts.specs.Runs.{column_of, commit_mems, puts_in, puts_of}
use Rattle.pdl_trace.specs.Passed.{HasPassed}
use Rattle.pdl_trace.proofs.BytePieces.{step_on, step_off, at_last, faulted}
use Rattle.pdl_netrun_lines.proofs.CycleLines.{lines_of, lines_next}
use Rattle.pdl_netrun_lines.proofs.commits.push_commits.Goals as goal

pub returns-in_err-push_memory-clause-bytes : goal.returns-in_err-push_memory-clause-bytes
returns-in_err-push_memory-clause-bytes g c =
    let o = g.S.Sink.written c.args.sink.now in
    let a = g.S.Sink.written c.loop-i.sink in
    let b = g.S.Sink.written c.push_memory.new.sink in
    let n = c.args.sim.now.netlist in
    let order = c.args.order.now in
    let i = c.loop-i.i-index in
    let low = c.loop-i-test.true in
    let f : MemInfo → List Put = λ m. puts_in n c.args.sim.now.last.ports m.name in
    let lines : List MemInfo → List ℕ = lines_of c.args.cycle f in
    let x = get_or order i 0 in
    let m = c.index-mems-i.result in
    let there : x < length c.args.mems.now = subst (λ (ms : List MemInfo). x < length ms) (sym c.requires.mems) (c.requires.order.there i 0 low) in
    let is : m ≡ mem_at n x =
    c.index-mems-i.is ∙ get_or_default c.args.mems.now x m no_mem there ∙ ap (λ (ms : List MemInfo). get_or ms x no_mem) c.requires.mems in
    let all = c.args.out.now ++ lines (map (mem_at n) order) in
    let rest = lines (map (mem_at n) (drop i order)) in
    let after = lines (map (mem_at n) (drop (i + 1) order)) in
    let puts = puts_of c.commit.result ++ puts_of c.commit2.result in
    let shows : puts ≡ f (mem_at n x) = ap₂ (λ p q. puts_of p ++ puts_of q) c.commit.ensures c.commit2.ensures in
    let piece = mem_lines c.args.cycle (column_of m) puts in
    let e : rest ≡ piece ++ after = lines_next c.args.cycle f (mem_at n) order i m puts low is shows in
    let prefix : TakesPrefix o b all = step_off o a b all rest c.loop-i.out piece after e c.loop-i.invariant.way c.in_err-push_memory.ensures.bytes in
    let same : all ≡ c.args.out.now ++ lines (commit_mems n) = ap (λ (ms : List MemInfo). c.args.out.now ++ lines ms) c.requires.order.mems in
    faulted c.from_residual.result o b
    (c.args.out.now ++ lines (commit_mems n)) c.push_memory.new.out c.from_residual.ensures.0
    (subst (TakesPrefix o b) same prefix)

pub loop-i-preserved : goal.loop-i-preserved
loop-i-preserved g c =
    let o = g.S.Sink.written c.args.sink.now in
    let a = g.S.Sink.written c.loop-i.sink in
    let b = g.S.Sink.written c.push_memory.new.sink in
    let n = c.args.sim.now.netlist in
    let order = c.args.order.now in
    let i = c.loop-i.i-index in
    let low = c.loop-i-test.true in
    let f : MemInfo → List Put = λ m. puts_in n c.args.sim.now.last.ports m.name in
    let lines : List MemInfo → List ℕ = lines_of c.args.cycle f in
    let x = get_or order i 0 in
    let m = c.index-mems-i.result in
    let there : x < length c.args.mems.now = subst (λ (ms : List MemInfo). x < length ms) (sym c.requires.mems) (c.requires.order.there i 0 low) in
    let is : m ≡ mem_at n x =
    c.index-mems-i.is ∙ get_or_default c.args.mems.now x m no_mem there ∙ ap (λ (ms : List MemInfo). get_or ms x no_mem) c.requires.mems in
    let all = c.args.out.now ++ lines (map (mem_at n) order) in
    let rest = lines (map (mem_at n) (drop i order)) in
    let after = lines (map (mem_at n) (drop (i + 1) order)) in
    let puts = puts_of c.commit.result ++ puts_of c.commit2.result in
    let shows : puts ≡ f (mem_at n x) = ap₂ (λ p q. puts_of p ++ puts_of q) c.commit.ensures c.commit2.ensures in
    let piece = mem_lines c.args.cycle (column_of m) puts in
    let e : rest ≡ piece ++ after = lines_next c.args.cycle f (mem_at n) order i m puts low is shows in
    record {
      way = step_on o a b all rest c.loop-i.out piece after e c.loop-i.invariant.way c.push_memory.new.out c.in_ok-push_memory.ensures.bytes;
      later = omega (arith, c.loop-i.invariant.later, c.push_memory.ensures.cause.later);
    }

pub returns-clause-bytes : goal.returns-clause-bytes
returns-clause-bytes g c =
    let o = g.S.Sink.written c.args.sink.now in
    let a = g.S.Sink.written c.loop-i.sink in
    let n = c.args.sim.now.netlist in
    let order = c.args.order.now in
    let i = c.loop-i.i-index in
    let f : MemInfo → List Put = λ m. puts_in n c.args.sim.now.last.ports m.name in
    let lines : List MemInfo → List ℕ = lines_of c.args.cycle f in
    let all = c.args.out.now ++ lines (map (mem_at n) order) in
    let rest = lines (map (mem_at n) (drop i order)) in
    let none = ap (λ (l : List ℕ). lines (map (mem_at n) l)) (drop_all i order c.loop-i-test.false) in
    let same : all ≡ c.args.out.now ++ lines (commit_mems n) = ap (λ (ms : List MemInfo). c.args.out.now ++ lines ms) c.requires.order.mems in
    subst (λ l. HasPassed o a l c.loop-i.out) same (at_last o a all rest c.loop-i.out none c.loop-i.invariant.way)
