use Rattle.std.proofs.Common.{ap, ◌∙◌, ◌%◌, ◌^◌}
use Rattle.pdl_cli_commands.proofs.RunSummaries.{one_word_more}
use Rattle.pdl_cli_commands.proofs.summary.words_in.Goals as goal

pub loop-address-preserved : goal.loop-address-preserved
loop-address-preserved c =
    let width = c.args.mem.now.width in
    one_word_more c.args.words.now width c.loop-address.address c.cut_to.result c.loop-address.kept c.push.new.self
    (c.cut_to.ensures ∙ ap (λ word. word % 2 ^ width) c.word_at.ensures) c.in_ok-push.ensures.ok c.loop-address.invariant
