use Rattle.std.proofs.Common.{◌≡◌, ◌∷◌, [], ◌++◌, sym, ap, ◌∙◌, subst, arith}
use Rattle.pdl_form.specs.FormView.{form}
use Rattle.pdl_net.specs.Circuit.{HasArray, array_width, array_depth}
use Rattle.pdl_net.specs.Meaning.{WriteSignal, signal, write_signal, write_signals}
use Rattle.pdl_net.specs.Growth.{ExtendsBut}
use Rattle.pdl_net.specs.HasWidth.{HasWidth}
use Rattle.pdl_net.proofs.Keeps.{extends_keeps}
use Rattle.pdl_build.specs.Change.{one_array, write_port}
use Rattle.pdl_law_parts.specs.Walk.{both}
use Rattle.pdl_law_parts.specs.Ports.{advises_to}
use Rattle.pdl_pipe_walk.specs.Parts.{advising_in}
use Rattle.pdl_pipe_locks.proofs.AdviceGrowth.{plain_kept, given_advising, advice_none, advice_one, advice_then}
use Rattle.pdl_pipe_locks.proofs.advice.advise_one.Goals as goal

pub array_of-array-requires : goal.array_of-array-requires
array_of-array-requires c = let l = c.requires.given.low in omega (arith, l)

pub write-requires-clause-has : goal.write-requires-clause-has
write-requires-clause-has c =
    let p = (form c.args.pipe.now).pipe in
    let g = c.requires.given in
    let k = extends_keeps c.args.b.now c.both.new.b c.in_ok-on.ensures.extends in
    subst (HasArray c.both.new.b) (sym c.array_of-array.ensures)
    ((plain_kept c.args.b.now c.both.new.b p k c.requires.arrays).has_array c.args.x.now.mem g.low g.unlocked.1)

pub write-requires-clause-addr_there : goal.write-requires-clause-addr_there
write-requires-clause-addr_there c = c.in_ok-on.ensures.extends.there c.args.x.now.addr c.requires.given.addr

pub write-requires-clause-addr_reach : goal.write-requires-clause-addr_reach
write-requires-clause-addr_reach c =
    let p = (form c.args.pipe.now).pipe in
    let k = extends_keeps c.args.b.now c.both.new.b c.in_ok-on.ensures.extends in
    let g = given_advising c.args.b.now c.both.new.b p k c.args.x.now c.requires.given in
    g.reach
    ∙ sym ((plain_kept c.args.b.now c.both.new.b p k c.requires.arrays).depth c.args.x.now.mem g.low g.unlocked.0 g.unlocked.1)
    ∙ sym (ap (array_depth c.both.new.b) c.array_of-array.ensures)

pub write-requires-clause-value : goal.write-requires-clause-value
write-requires-clause-value c =
    let p = (form c.args.pipe.now).pipe in
    let k = extends_keeps c.args.b.now c.both.new.b c.in_ok-on.ensures.extends in
    let g = given_advising c.args.b.now c.both.new.b p k c.args.x.now c.requires.given in
    subst (HasWidth c.both.new.b c.args.x.now.value)
    (sym ((plain_kept c.args.b.now c.both.new.b p k c.requires.arrays).width c.args.x.now.mem g.low g.unlocked.1)
    ∙ sym (ap (array_width c.both.new.b) c.array_of-array.ensures)) g.value

pub returns : goal.returns
returns c =
    let a = c.args.b.now in
    let b = c.both.new.b in
    let d = c.write.new.self in
    let p = (form c.args.pipe.now).pipe in
    let x = c.args.x.now in
    let g = c.requires.given in
    let e = c.in_ok-on.ensures.extends in
    let arrays = plain_kept a b p (extends_keeps a b e) c.requires.arrays in
    let w : WriteSignal = record { enable = both (signal a c.args.moves) (signal a x.on); addr = signal a x.addr; value = signal a x.value } in
    let same : write_signal b (write_port c.in_ok-on.on x.addr x.value) ≡ w =
    cc (c.in_ok-on.ensures.means.same, e.kept x.addr g.addr, e.kept x.value g.value.there) in
    let writes = subst (λ i. write_signals d i ≡ write_signals b i ++ w ∷ []) c.array_of-array.ensures
    (c.in_ok-write.ensures.writes ∙ ap (λ v. write_signals b c.array_of-array.result ++ v ∷ []) same) in
    advice_then p a b d (λ m. []) (λ m. advises_to m (signal a c.args.moves) (advising_in a x ∷ []))
    (advice_none p a b c.requires.arrays e)
    (advice_one p b d x.mem w g.low g.unlocked arrays
    (subst (λ i. ExtendsBut (one_array i) b d) c.array_of-array.ensures c.in_ok-write.ensures.extends) writes)
