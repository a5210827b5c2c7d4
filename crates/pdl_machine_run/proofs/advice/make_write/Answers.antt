use Rattle.std.proofs.Common.{◌∙◌, sym, ap}
use Rattle.pdl_machine_run.specs.View.{advised_view}
use Rattle.pdl_machine_run.specs.Advice.{with_word_at}
use Rattle.pdl_machine_run.proofs.AdviceWrites.{word_written, nothing_written}
use Rattle.pdl_machine_run.proofs.advice.make_write.Goals as goal

pub returns-then-m-memories : goal.returns-then-m-memories
returns-then-m-memories c =
    word_written c.args.memories.now (advised_view c.args.write) c.index-memories-m.result c.set_word.new.self
    c.if-m-memories.true c.index-memories-m.is
    (c.set_word.ensures ∙ ap (with_word_at c.args.write.address c.args.write.value) (sym c.index-memories-m.is))

pub returns-else-m-memories : goal.returns-else-m-memories
returns-else-m-memories c = nothing_written c.args.memories.now (advised_view c.args.write) c.if-m-memories.false
