use Rattle.pdl_pipe_ports.proofs.InputLists.{pair_added, reply_means, word_means}
use Rattle.pdl_pipe_ports.proofs.inputs.delayed_input.Goals as goal

pub returns-clause-reply : goal.returns-clause-reply
returns-clause-reply c =
    let one = c.in_ok-reply.ensures.extends in
    let two = c.in_ok-word.ensures.extends in
    reply_means c.args.b.now c.input.new.self c.input-2.new.self c.args.mem.now _ _ c.in_ok-name.ensures c.in_ok-name-2.ensures one two c.in_ok-reply.reply _ c.in_ok-reply.ensures.means

pub returns-clause-word : goal.returns-clause-word
returns-clause-word c =
    let one = c.in_ok-reply.ensures.extends in
    let two = c.in_ok-word.ensures.extends in
    word_means c.args.b.now c.input.new.self c.input-2.new.self c.args.mem.now _ _ c.in_ok-name.ensures c.in_ok-name-2.ensures one two c.in_ok-word.word c.in_ok-word.ensures.means

pub returns-clause-extends : goal.returns-clause-extends
returns-clause-extends c =
    let one = c.in_ok-reply.ensures.extends in
    let two = c.in_ok-word.ensures.extends in
    pair_added c.args.b.now c.input.new.self c.input-2.new.self c.args.mem.now _ _ c.in_ok-name.ensures c.in_ok-name-2.ensures one two
