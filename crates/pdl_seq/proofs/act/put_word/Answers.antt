use Rattle.std.proofs.Common.{ap, ◌∙◌, List, ℕ, [], slice_set}
use Rattle.std.proofs.lemmas.List.{get_or_default}
use Rattle.pdl_seq.proofs.WrittenWord.{shape_set}
use Rattle.pdl_seq.proofs.act.put_word.Goals as goal

pub returns-clause-shape : goal.returns-clause-shape
returns-clause-shape c =
    shape_set c.args.memories.now c.args.m c.args.address c.args.value c.write.new.self
    (c.write.ensures
    ∙ ap (λ (l : List ℕ). slice_set l c.args.address c.args.value)
    (get_or_default c.args.memories.now c.args.m c.index-memories-m.result [] c.requires.memory))
