use Rattle.std.proofs.Common.{sym, subst}
use Rattle.pdl_word.specs.Each.{Each}
use Rattle.pdl_pipe.specs.NamedNets.{IsNamedIn}
use Rattle.pdl_pipe.proofs.NamedParts.{stage_stays}
use Rattle.pdl_pipe.proofs.names.names_of.Goals as goal

pub returns : goal.returns
returns g c =
    let b = c.args.b.now in
    let x = c.args.parts.now.line.now in
    let begun = c.in_ok-name_stages.ensures in
    let beside = c.in_ok-name_beside.ensures in
    let stages = c.name_stages.new.names.items in
    let all = c.name_beside.new.names.items in record {
      each = beside.each (begun.adds.each (subst (Each (IsNamedIn b x)) (sym c.new-names.ensures.items) tt));
      stages = λ k low. stage_stays b x stages all k beside (begun.has k low);
    }
