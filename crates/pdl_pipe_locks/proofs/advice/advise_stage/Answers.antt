use Rattle.std.proofs.Common.{get_or, refl}
use Rattle.pdl_form.specs.FormView.{form}
use Rattle.pdl_net.specs.declared.Net.TheVariants.{Input}
use Rattle.pdl_net.proofs.KeptWidths.{width_keeps}
use Rattle.pdl_pipe_walk.proofs.NetGrowth.{bits_keep}
use Rattle.pdl_pipe_walk.specs.declared.nets.AdvisingNet.{AdvisingNet}
use Rattle.pdl_pipe_locks.specs.Advised.{IsGivenAdvising}
use Rattle.pdl_pipe_locks.proofs.AdviceGrowth.{plain_kept, given_advises, advice_same}
use Rattle.pdl_pipe_locks.proofs.AdviceStages.{advised_step, advised_end}
use Rattle.pdl_pipe_locks.proofs.advice.advise_stage.Goals as goal
use Rattle.pdl_word.proofs.Each.{each_get}

abbrev no_advising : AdvisingNet
no_advising = record { mem = 0; on = Input 0; addr = Input 0; value = Input 0 }

pub loop-x-init : goal.loop-x-init
loop-x-init c = advice_same (form c.args.pipe.now).pipe c.args.b.now

pub advise_one-requires-clause-bits : goal.advise_one-requires-clause-bits
advise_one-requires-clause-bits c = bits_keep c.args.b.now c.loop-x.b c.args.bits c.loop-x.invariant.keeps c.requires.bits

pub advise_one-requires-clause-arrays : goal.advise_one-requires-clause-arrays
advise_one-requires-clause-arrays c = plain_kept c.args.b.now c.loop-x.b (form c.args.pipe.now).pipe c.loop-x.invariant.keeps c.requires.arrays

pub advise_one-requires-clause-moves : goal.advise_one-requires-clause-moves
advise_one-requires-clause-moves c = width_keeps c.args.b.now c.loop-x.b c.args.moves 1 c.loop-x.invariant.keeps c.requires.moves

pub advise_one-requires-clause-given : goal.advise_one-requires-clause-given
advise_one-requires-clause-given c =
    let p = (form c.args.pipe.now).pipe in
    each_get (IsGivenAdvising c.loop-x.b p) c.args.advises.now c.loop-x.x-index no_advising c.loop-x-test.true
    (given_advises c.args.b.now c.loop-x.b p c.loop-x.invariant.keeps c.args.advises.now c.requires.given)

pub loop-x-preserved : goal.loop-x-preserved
loop-x-preserved c =
    let a = c.args.b.now in
    let p = (form c.args.pipe.now).pipe in
    let i = c.loop-x.x-index in
    let xs = c.args.advises.now in
    let given = each_get (IsGivenAdvising a p) xs i no_advising c.loop-x-test.true c.requires.given in
    advised_step p a c.loop-x.b c.args.moves xs c.advise_one.new.b i no_advising (get_or xs i no_advising)
    c.requires.moves.there c.loop-x-test.true refl given c.loop-x.invariant c.in_ok-advise_one.ensures

pub returns : goal.returns
returns c =
    advised_end (form c.args.pipe.now).pipe c.args.b.now c.loop-x.b c.args.moves c.args.advises.now c.loop-x.x-index c.loop-x-test.false c.loop-x.invariant
