use Rattle.pdl_pipe.specs.declared.names.Role.TheVariants.{Holds, Moves, Guess}
use Rattle.pdl_pipe.proofs.NamedParts.{named_stays, var_stays, adds_more}
use Rattle.pdl_pipe.proofs.stage_names.name_stage.Goals as goal

pub returns-clause-adds : goal.returns-clause-adds
returns-clause-adds c =
    let b = c.args.b.now in
    let x = c.args.line.now in
    let old = c.args.names.now.items in
    let one = c.name_thread.new.names.items in
    let two = c.name_vars.new.names.items in
    let three = c.name_guess.new.names.items in
    let all = c.name_items.new.names.items in
    adds_more b x old one all c.in_ok-name_thread.ensures.adds
    (adds_more b x one two all c.in_ok-name_vars.ensures.adds
    (adds_more b x two three all c.in_ok-name_guess.ensures.adds c.in_ok-name_items.ensures))

pub returns-clause-has : goal.returns-clause-has
returns-clause-has c =
    let b = c.args.b.now in
    let x = c.args.line.now in
    let k = c.args.stage in
    let one = c.name_thread.new.names.items in
    let two = c.name_vars.new.names.items in
    let three = c.name_guess.new.names.items in
    let all = c.name_items.new.names.items in
    let from_two = adds_more b x two three all c.in_ok-name_guess.ensures.adds c.in_ok-name_items.ensures in
    let from_one = adds_more b x one two all c.in_ok-name_vars.ensures.adds from_two in record {
      holds = named_stays b x one all (Holds k) from_one c.in_ok-name_thread.ensures.holds;
      moves = named_stays b x one all (Moves k) from_one c.in_ok-name_thread.ensures.moves;
      vars = λ v live. var_stays b x two all k v from_two (c.in_ok-name_vars.ensures.has v live);
      guess = λ i live. named_stays b x three all (Guess k i) c.in_ok-name_items.ensures (c.in_ok-name_guess.ensures.has i live);
    }
