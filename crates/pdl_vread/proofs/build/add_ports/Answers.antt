use Rattle.std.proofs.Common.{◌≡◌, length, rules}
use Rattle.std.specs.Iterator.Adapters.{zip_first, zip_second}
use Rattle.std.specs.Slice.Iter.{iter_rest}
use Rattle.std.proofs.lemmas.List.{length_push}
use Rattle.std.proofs.lemmas.Slice.Zip.{zip_turn, zip_end}
use Rattle.pdl_vread.specs.Built as spec
use Rattle.pdl_vread.proofs.DrivenNets.{port_push, ports_end}
use Rattle.pdl_vread.proofs.build.add_ports.Goals as goal

pub loop-decl-preserved : goal.loop-decl-preserved
loop-decl-preserved c =
    let nets = c.in_ok-nets.nets.items in
    let first : iter_rest (zip_first c.into_iter-decl-iterator.result) ≡ c.args.decls.now = first_of (cc, search rules) in
    let second : iter_rest (zip_second c.into_iter-decl-iterator.result) ≡ nets = first_of (cc, search rules) in
    let all : nets ≡ spec.drivers (length c.args.decls.now) c.args.drives.now = first_of (cc c.in_ok-nets.ensures, search (rules, c.in_ok-nets.ensures)) in
    let d = c.in-Some.decl.now in
    let x = c.in-Some.net.now in
    let t =
    zip_turn c.args.decls.now nets c.loop-decl.yielded c.into_iter-decl-iterator.result c.loop-decl.decl-iterator c.next.new.self c.next.result first second c.loop-decl.yielded_by
    (c.in-Some.decl, c.in-Some.net) c.in-Some.is c.next.ensures.steps in
    port_push c.args.drives.now c.args.decls.now nets (length c.loop-decl.yielded) _ d x _ c.loop-decl.ports c.push.new.self _ all t.0 (t.2 d)
    (t.3 x)
    (length_push c.loop-decl.yielded (c.in-Some.decl, c.in-Some.net)) c.in_ok-port.ensures c.in_ok-push.ensures.ok c.loop-decl.invariant

pub returns : goal.returns
returns c =
    let nets = c.in_ok-nets.nets.items in
    let first : iter_rest (zip_first c.into_iter-decl-iterator.result) ≡ c.args.decls.now = first_of (cc, search rules) in
    let second : iter_rest (zip_second c.into_iter-decl-iterator.result) ≡ nets = first_of (cc, search rules) in
    let all : nets ≡ spec.drivers (length c.args.decls.now) c.args.drives.now = first_of (cc c.in_ok-nets.ensures, search (rules, c.in_ok-nets.ensures)) in
    let e =
    zip_end c.args.decls.now nets c.loop-decl.yielded c.into_iter-decl-iterator.result c.loop-decl.decl-iterator c.next.new.self c.next.result first second c.loop-decl.yielded_by c.in-None.is c.next.ensures.steps in
    ports_end c.args.drives.now c.args.decls.now nets (length c.loop-decl.yielded) c.loop-decl.ports _ all e c.loop-decl.invariant
