use Rattle.std.proofs.Common.{◌≡◌, ◌==◌, List, [], ◌∷◌, ◌++◌, map, true, refl, sym, ap, subst, eq-eqb}
use Rattle.std.specs.Prelude.{if◌then◌else◌}
use Rattle.pdl_net.specs.Meaning.{signal}
use Rattle.pdl_lockapi.specs.declared.ReservePort.{ReservePort}
use Rattle.pdl_lockapi.specs.declared.Kind.TheVariants.{W}
use Rattle.pdl_lockapi.specs.Laws.{ReserveSignal, reserve_signal}
use Rattle.pdl_law_parts.specs.Walk.{both}
use Rattle.pdl_pipe_locks.specs.Ports.{AreReserves}
use Rattle.pdl_pipe_locks.proofs.PortLists.{adds_one}
use Rattle.pdl_pipe_locks.proofs.ports.push_reserve.Goals as goal

pub returns-clause-adds : goal.returns-clause-adds
returns-clause-adds c =
    let a = c.args.b.now in
    let b = c.both.new.b in
    let r = c.args.r.now in
    let x = c.in_ok-enable.ensures in
    let ps = c.args.ports.now in
    let fs : List ReserveSignal = record { enable = both (signal a c.args.moves) (signal a r.on); addr = signal a r.addr } ∷ [] in
    let one =
    adds_one a b ps c.in_ok-enable.enable r.addr (both (signal a c.args.moves) (signal a r.on))
    (signal a r.addr) x.extends c.requires.ports x.means c.requires.given.addr refl in
    let test : (r.mem == c.args.m) ≡ true = eq-eqb r.mem c.args.m c.if-r-m.false in
    let P : List ReserveSignal → Type 0 =
    λ gs. AreReserves b (ps ++ record { enable = c.in_ok-enable.enable; kind = W; addr = r.addr } ∷ []) (map (reserve_signal a) ps ++ gs) in
    let Q : List ReservePort → Type 0 = λ qs. AreReserves b qs (map (reserve_signal a) ps ++ (if r.mem == c.args.m then fs else [])) in
    subst Q (sym c.in_ok-push.ensures.ok) (subst P (sym (ap (λ t. if t then fs else []) test)) one)
