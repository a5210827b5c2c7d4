use Rattle.std.proofs.Common.{◌≡◌, ◌++◌, ◌∷◌, ◌∙◌, [], sym, ap, ap₂, ℕ, Bool, List, is_some, length, length-append, arith}
use Rattle.pdl_word.specs.Words.{bit}
use Rattle.pdl_semantics.specs.Cycle as stated
use Rattle.pdl_machine_facts.specs.Ports.{stage_values}
use Rattle.pdl_machine_facts.proofs.TwiceFlags.{flag_count}
use Rattle.pdl_form.specs.FormView.{form}
use Rattle.pdl_machine_run.specs.View.{thread_in}
use Rattle.pdl_machine_run.specs.Acts.{acts_of, are_held, are_moving, one_ends, commits_shown}
use Rattle.pdl_machine_run.specs.Requests.{requests_shown}
use Rattle.pdl_machine_run.proofs.PortCounts.{stages_shown, commits_most, requests_most}
use Rattle.pdl_machine_run.proofs.Turns.{Turn, turn_of, turn_steps, turn_orders, turn_child, turn_awaits, turn_ports, turn_ready, turn_state, turn_beside, shown_all}
use Rattle.pdl_machine_run.proofs.cycle.cycle.Goals as goal

pub step_beside-requires-clause-memories : goal.step_beside-requires-clause-memories
step_beside-requires-clause-memories c =
    let f = form c.args.pipe.now in
    let b = c.args.beside.now in
    let bits = c.args.replies.now in
    let next = c.args.next in
    let ys = c.args.stages.now in
    let zs = c.decide.new.stages in
    let t : Turn f b bits next ys zs =
    turn_of f c.requires.run b bits next ys c.carry_out_all.new.stages zs c.requires.ready c.requires.beside c.requires.reached c.carry_out_all.auto.stages c.decide.auto.stages c.carry_out_all.ensures.carried c.carry_out_all.ensures.wide c.decide.ensures.slots c.decide.ensures.deeds c.decide.ensures.decided in
    turn_steps f b bits next ys zs t

pub step_beside-requires-clause-orders : goal.step_beside-requires-clause-orders
step_beside-requires-clause-orders c =
    let f = form c.args.pipe.now in
    let b = c.args.beside.now in
    let bits = c.args.replies.now in
    let next = c.args.next in
    let ys = c.args.stages.now in
    let zs = c.decide.new.stages in
    let t : Turn f b bits next ys zs =
    turn_of f c.requires.run b bits next ys c.carry_out_all.new.stages zs c.requires.ready c.requires.beside c.requires.reached c.carry_out_all.auto.stages c.decide.auto.stages c.carry_out_all.ensures.carried c.carry_out_all.ensures.wide c.decide.ensures.slots c.decide.ensures.deeds c.decide.ensures.decided in
    let sq = c.squasher-squasher.result in
    let squashed = c.squasher-squasher.ensures in
    turn_orders f b bits next ys zs t sq squashed

pub step_beside-requires-clause-room : goal.step_beside-requires-clause-room
step_beside-requires-clause-room c =
    let f = form c.args.pipe.now in
    let b = c.args.beside.now in
    let bits = c.args.replies.now in
    let next = c.args.next in
    let ys = c.args.stages.now in
    let zs = c.decide.new.stages in
    let t : Turn f b bits next ys zs =
    turn_of f c.requires.run b bits next ys c.carry_out_all.new.stages zs c.requires.ready c.requires.beside c.requires.reached c.carry_out_all.auto.stages c.decide.auto.stages c.carry_out_all.ensures.carried c.carry_out_all.ensures.wide c.decide.ensures.slots c.decide.ensures.deeds c.decide.ensures.decided in
    let ms = acts_of 0 zs in
    let empty : c.clear.new.self.items ≡ [] = c.clear.ensures.items in
    let first : c.show_stages.new.shown.items ≡ stage_values (are_held zs) (are_moving zs) =
    c.show_stages.ensures.shown ∙ ap (λ (vs : List ℕ). vs ++ stage_values (are_held zs) (are_moving zs)) empty in
    let many = ap (λ (vs : List ℕ). length vs) first in
    let all = stages_shown zs in
    let held = c.show_stages.new.shown.ok.0 in
    let one = c.clear.ensures.capacity in
    let two = c.show_stages.ensures.capacity in
    let long = t.long in
    let room = c.requires.room in
    omega arith

pub show_end-requires : goal.show_end-requires
show_end-requires c =
    let f = form c.args.pipe.now in
    let b = c.args.beside.now in
    let bits = c.args.replies.now in
    let next = c.args.next in
    let ys = c.args.stages.now in
    let zs = c.decide.new.stages in
    let t : Turn f b bits next ys zs =
    turn_of f c.requires.run b bits next ys c.carry_out_all.new.stages zs c.requires.ready c.requires.beside c.requires.reached c.carry_out_all.auto.stages c.decide.auto.stages c.carry_out_all.ensures.carried c.carry_out_all.ensures.wide c.decide.ensures.slots c.decide.ensures.deeds c.decide.ensures.decided in
    let ms = acts_of 0 zs in
    let empty : c.clear.new.self.items ≡ [] = c.clear.ensures.items in
    let first : c.show_stages.new.shown.items ≡ stage_values (are_held zs) (are_moving zs) =
    c.show_stages.ensures.shown ∙ ap (λ (vs : List ℕ). vs ++ stage_values (are_held zs) (are_moving zs)) empty in
    let second : c.step_beside.new.shown.items
    ≡ stage_values (are_held zs) (are_moving zs) ++ (commits_shown b.twice.items 0 ms b.memories.items ++ requests_shown 0 ms f.pipe.mems) =
    c.step_beside.ensures.shown ∙ ap (λ (vs : List ℕ). vs ++ (commits_shown b.twice.items 0 ms b.memories.items ++ requests_shown 0 ms f.pipe.mems)) first in
    let many = ap (λ (vs : List ℕ). length vs) second in
    let all = stages_shown zs in
    let commits = commits_most b.twice.items 0 ms b.memories.items in
    let requests = requests_most 0 ms f.pipe.mems in
    let mems = t.beside.roomy.memories.count in
    let sum = length-append (stage_values (are_held zs) (are_moving zs)) (commits_shown b.twice.items 0 ms b.memories.items ++ requests_shown 0 ms f.pipe.mems) in
    let rest = length-append (commits_shown b.twice.items 0 ms b.memories.items) (requests_shown 0 ms f.pipe.mems) in
    let held = c.step_beside.new.shown.ok.0 in
    let one = c.clear.ensures.capacity in
    let two = c.show_stages.ensures.capacity in
    let three = c.step_beside.ensures.capacity in
    let long = t.long in
    let room = c.requires.room in
    record { room = omega arith }

pub call-called-requires : goal.call-called-requires
call-called-requires c =
    let f = form c.args.pipe.now in
    let b = c.args.beside.now in
    let bits = c.args.replies.now in
    let next = c.args.next in
    let ys = c.args.stages.now in
    let zs = c.decide.new.stages in
    let t : Turn f b bits next ys zs =
    turn_of f c.requires.run b bits next ys c.carry_out_all.new.stages zs c.requires.ready c.requires.beside c.requires.reached c.carry_out_all.auto.stages c.decide.auto.stages c.carry_out_all.ensures.carried c.carry_out_all.ensures.wide c.decide.ensures.slots c.decide.ensures.deeds c.decide.ensures.decided in
    record { few = turn_child f b bits next ys zs t c.args.way.now c.requires.ahead }

pub step_stages-requires-clause-room : goal.step_stages-requires-clause-room
step_stages-requires-clause-room c =
    let f = form c.args.pipe.now in
    let b = c.args.beside.now in
    let bits = c.args.replies.now in
    let next = c.args.next in
    let ys = c.args.stages.now in
    let zs = c.decide.new.stages in
    let t : Turn f b bits next ys zs =
    turn_of f c.requires.run b bits next ys c.carry_out_all.new.stages zs c.requires.ready c.requires.beside c.requires.reached c.carry_out_all.auto.stages c.decide.auto.stages c.carry_out_all.ensures.carried c.carry_out_all.ensures.wide c.decide.ensures.slots c.decide.ensures.deeds c.decide.ensures.decided in
    turn_awaits f b bits next ys zs t

pub returns-clause-state : goal.returns-clause-state
returns-clause-state c =
    let f = form c.args.pipe.now in
    let b = c.args.beside.now in
    let bits = c.args.replies.now in
    let next = c.args.next in
    let ys = c.args.stages.now in
    let zs = c.decide.new.stages in
    let t : Turn f b bits next ys zs =
    turn_of f c.requires.run b bits next ys c.carry_out_all.new.stages zs c.requires.ready c.requires.beside c.requires.reached c.carry_out_all.auto.stages c.decide.auto.stages c.carry_out_all.ensures.carried c.carry_out_all.ensures.wide c.decide.ensures.slots c.decide.ensures.deeds c.decide.ensures.decided in
    let sq = c.squasher-squasher.result in
    let squashed = c.squasher-squasher.ensures in
    let way = c.args.way.now in
    let born : thread_in c.call-called.new.place ≡ stated.born_thread f.pipe next (stated.child_of (acts_of 0 zs)) =
    c.call-called.ensures.thread f.pipe (t.run.typed.vars ∙ sym c.requires.ahead.count) in
    turn_state f b bits next ys zs t sq squashed c.step_stages.new.stages
    (thread_in c.call-called.new.place) born c.step_stages.auto.stages c.step_stages.ensures.threads c.step_beside.new.beside c.step_beside.ensures.twice c.step_beside.ensures.memories c.step_beside.ensures.orders c.step_beside.ensures.requests c.call-called.result c.call-called.ensures.called

pub returns-clause-ports : goal.returns-clause-ports
returns-clause-ports c =
    let f = form c.args.pipe.now in
    let b = c.args.beside.now in
    let bits = c.args.replies.now in
    let next = c.args.next in
    let ys = c.args.stages.now in
    let zs = c.decide.new.stages in
    let t : Turn f b bits next ys zs =
    turn_of f c.requires.run b bits next ys c.carry_out_all.new.stages zs c.requires.ready c.requires.beside c.requires.reached c.carry_out_all.auto.stages c.decide.auto.stages c.carry_out_all.ensures.carried c.carry_out_all.ensures.wide c.decide.ensures.slots c.decide.ensures.deeds c.decide.ensures.decided in
    let sq = c.squasher-squasher.result in
    let squashed = c.squasher-squasher.ensures in
    let ms = acts_of 0 zs in
    let empty : c.clear.new.self.items ≡ [] = c.clear.ensures.items in
    let first : c.show_stages.new.shown.items ≡ stage_values (are_held zs) (are_moving zs) =
    c.show_stages.ensures.shown ∙ ap (λ (vs : List ℕ). vs ++ stage_values (are_held zs) (are_moving zs)) empty in
    let second : c.step_beside.new.shown.items
    ≡ stage_values (are_held zs) (are_moving zs) ++ (commits_shown b.twice.items 0 ms b.memories.items ++ requests_shown 0 ms f.pipe.mems) =
    c.step_beside.ensures.shown ∙ ap (λ (vs : List ℕ). vs ++ (commits_shown b.twice.items 0 ms b.memories.items ++ requests_shown 0 ms f.pipe.mems)) first in
    let ended = bit (one_ends f.pipe ms) in
    let last : c.show_end.new.shown.items
    ≡ (stage_values (are_held zs) (are_moving zs) ++ (commits_shown b.twice.items 0 ms b.memories.items ++ requests_shown 0 ms f.pipe.mems))
    ++ ended ∷ bit (is_some sq) ∷ [] =
    c.show_end.ensures.shown ∙ ap₂ (λ (vs : List ℕ) (s : Bool). vs ++ ended ∷ bit s ∷ []) second c.is_some.ensures in
    shown_all (stage_values (are_held zs) (are_moving zs)) (commits_shown b.twice.items 0 ms b.memories.items)
    (requests_shown 0 ms f.pipe.mems) (ended ∷ bit (is_some sq) ∷ []) c.show_end.new.shown.items last
    ∙ turn_ports f b bits next ys zs t sq squashed

pub returns-clause-ready : goal.returns-clause-ready
returns-clause-ready c =
    let f = form c.args.pipe.now in
    let b = c.args.beside.now in
    let bits = c.args.replies.now in
    let next = c.args.next in
    let ys = c.args.stages.now in
    let zs = c.decide.new.stages in
    let t : Turn f b bits next ys zs =
    turn_of f c.requires.run b bits next ys c.carry_out_all.new.stages zs c.requires.ready c.requires.beside c.requires.reached c.carry_out_all.auto.stages c.decide.auto.stages c.carry_out_all.ensures.carried c.carry_out_all.ensures.wide c.decide.ensures.slots c.decide.ensures.deeds c.decide.ensures.decided in
    let sq = c.squasher-squasher.result in
    let squashed = c.squasher-squasher.ensures in
    let way = c.args.way.now in
    let born : thread_in c.call-called.new.place ≡ stated.born_thread f.pipe next (stated.child_of (acts_of 0 zs)) =
    c.call-called.ensures.thread f.pipe (t.run.typed.vars ∙ sym c.requires.ahead.count) in
    turn_ready f b bits next ys zs t sq squashed c.step_stages.new.stages
    (thread_in c.call-called.new.place) born c.step_stages.auto.stages c.step_stages.ensures.threads
    (c.step_stages.ensures.wide f t.wide (c.call-called.ensures.wide f c.requires.ahead))

pub returns-clause-ahead : goal.returns-clause-ahead
returns-clause-ahead c =
    let f = form c.args.pipe.now in
    let b = c.args.beside.now in
    let bits = c.args.replies.now in
    let next = c.args.next in
    let ys = c.args.stages.now in
    let zs = c.decide.new.stages in
    let t : Turn f b bits next ys zs =
    turn_of f c.requires.run b bits next ys c.carry_out_all.new.stages zs c.requires.ready c.requires.beside c.requires.reached c.carry_out_all.auto.stages c.decide.auto.stages c.carry_out_all.ensures.carried c.carry_out_all.ensures.wide c.decide.ensures.slots c.decide.ensures.deeds c.decide.ensures.decided in
    c.step_stages.ensures.way f t.wide (c.call-called.ensures.wide f c.requires.ahead)

pub returns-clause-beside : goal.returns-clause-beside
returns-clause-beside c =
    let f = form c.args.pipe.now in
    let b = c.args.beside.now in
    let bits = c.args.replies.now in
    let next = c.args.next in
    let ys = c.args.stages.now in
    let zs = c.decide.new.stages in
    let t : Turn f b bits next ys zs =
    turn_of f c.requires.run b bits next ys c.carry_out_all.new.stages zs c.requires.ready c.requires.beside c.requires.reached c.carry_out_all.auto.stages c.decide.auto.stages c.carry_out_all.ensures.carried c.carry_out_all.ensures.wide c.decide.ensures.slots c.decide.ensures.deeds c.decide.ensures.decided in
    let sq = c.squasher-squasher.result in
    let squashed = c.squasher-squasher.ensures in
    let way = c.args.way.now in
    let born : thread_in c.call-called.new.place ≡ stated.born_thread f.pipe next (stated.child_of (acts_of 0 zs)) =
    c.call-called.ensures.thread f.pipe (t.run.typed.vars ∙ sym c.requires.ahead.count) in
    turn_beside f b bits next ys zs t sq squashed c.step_stages.new.stages
    (thread_in c.call-called.new.place) born c.step_stages.auto.stages c.step_stages.ensures.threads c.step_beside.new.beside c.step_beside.ensures.twice c.step_beside.ensures.memories c.step_beside.ensures.orders c.step_beside.ensures.requests
    (c.step_beside.ensures.long (length f.pipe.stages) t.beside.long)

pub step_beside-requires-clause-told : goal.step_beside-requires-clause-told
step_beside-requires-clause-told c =
    let p = (form c.args.pipe.now).pipe in
    let b = c.requires.beside in
    ap (λ (ts : List Bool). length ts) b.twice ∙ flag_count p.stmts 0 p.mems ∙ sym b.roomy.memories.count
