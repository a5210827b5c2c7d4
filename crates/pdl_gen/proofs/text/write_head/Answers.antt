use Rattle.std.proofs.Common.{ap, ◌∙◌, ◌++◌}
use Rattle.pdl_gen.proofs.Numbering.{three_pieces}
use Rattle.pdl_gen.proofs.text.write_head.Goals as goal

pub returns : goal.returns
returns c =
    three_pieces c.args.text.now.items _ _ _ c.extend_from_slice.new.self.items c.extend_from_slice-2.new.self.items c.extend_from_slice-3.new.self.items
    c.in_ok-extend_from_slice.ensures.items
    (c.in_ok-extend_from_slice-2.ensures.items ∙ ap (λ l. c.extend_from_slice.new.self.items ++ l) c.kind_name.ensures)
    c.in_ok-extend_from_slice-3.ensures.items
