use Rattle.std.proofs.Common.{◌≡◌, ◌<◌, ◌∙◌, List, length, ap, sym, subst, arith}
use Rattle.std.specs.Prelude.{Some, option_map}
use Rattle.pdl_form.specs.FormView.{form}
use Rattle.pdl_semantics.specs.Flat.{Mem}
use Rattle.pdl_form_types.specs.Stmts.{IsTypedMem}
use Rattle.pdl_net.specs.Signal.{const_signal}
use Rattle.pdl_net.specs.Meaning.{Means, signal}
use Rattle.pdl_machine_inflight.specs.Readings.{reading}
use Rattle.pdl_pipe_answers.specs.Readings.{reading_view}
use Rattle.pdl_law_sides.specs.Sides.{asks_memory}
use Rattle.pdl_pipe_walk.specs.declared.nets.AskNet.{AskNet}
use Rattle.pdl_pipe_walk.specs.Parts.{ask_in}
use Rattle.pdl_word.specs.Each.{Each}
use Rattle.std.specs.Prelude.{map}
use Rattle.pdl_pipe_beside.specs.Requests.{address_from, IsAddressNet}
use Rattle.pdl_pipe_beside.proofs.EndGrowth.{end_is}
use Rattle.pdl_pipe_beside.proofs.StageRequests.{typed_at, end_addresses, request_some}
use Rattle.pdl_pipe_beside.proofs.outside.request.Goals as goal

pub address_bits-width-requires : goal.address_bits-width-requires
address_bits-width-requires c =
    let p = (form c.args.round.now.pipe.now).pipe in
    subst IsTypedMem (sym c.memory.ensures) (typed_at p.mems c.args.m c.requires.low c.requires.mems)

pub stage_request-requires-clause-asks : goal.stage_request-requires-clause-asks
stage_request-requires-clause-asks c =
    let f = form c.args.round.now.pipe.now in
    let a = c.args.b.now in
    let e = c.end_at-end.result in
    let r = reading_view c.in-Some.r in
    let is : reading f.pipe c.args.m ≡ Some r = sym c.read_delayed.ensures ∙ ap (option_map reading_view) c.in-Some.is in
    let at = end_is a f c.args.round.now.ends.now r.stage e c.requires.ends (c.requires.leads.stage c.args.m r is) c.end_at-end.ensures in
    let depth = c.address_bits-width.ensures.power ∙ ap (λ (x : Mem). x.depth) c.memory.ensures in
    subst (λ (qs : List AskNet). Each (IsAddressNet a c.args.m c.address_bits-width.result) qs)
    (sym c.as_slice-asks.ensures) (end_addresses a f e c.args.m c.address_bits-width.result depth at)

pub returns-in_ok-asked-in-Some-clause-asks : goal.returns-in_ok-asked-in-Some-clause-asks
returns-in_ok-asked-in-Some-clause-asks c =
    let f = form c.args.round.now.pipe.now in
    let a = c.args.b.now in
    let d = c.stage_request.new.b in
    let es = c.args.round.now.ends.now in
    let m = c.args.m in
    let w = c.address_bits-width.result in
    let e = c.end_at-end.result in
    let r = reading_view c.in-Some.r in
    let x = c.in_ok-asked-in-Some.asked in
    let s = c.in_ok-asked-in-Some.ensures in
    let is : reading f.pipe m ≡ Some r = sym c.read_delayed.ensures ∙ ap (option_map reading_view) c.in-Some.is in
    let low : r.stage < length es = let l = c.requires.leads.stage m r is in omega (arith, l, c.requires.ends.count) in
    let depth = c.address_bits-width.ensures.power ∙ ap (λ (y : Mem). y.depth) c.memory.ensures in
    let E : List AskNet → Type 0 = λ qs. Means d x.enable (asks_memory m (signal a e.moves) (map (ask_in a) qs)) in
    let A : List AskNet → Type 0 = λ qs. Means d x.addr (address_from m (signal a e.moves) (const_signal w 0) (map (ask_in a) qs)) in
    request_some a d f.pipe es m w r e x is low c.end_at-end.ensures
    (subst E c.as_slice-asks.ensures s.enable) s.enable_one (subst A c.as_slice-asks.ensures s.addr) s.wide depth
