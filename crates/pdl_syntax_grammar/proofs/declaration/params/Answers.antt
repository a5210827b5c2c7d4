use Rattle.std.proofs.Common.{rules, ◌≡◌, ◌≢◌, ◌+◌, ◌-◌, ◌∙◌, sym, arith, Ok, Err, Some, None, true, false}
use Rattle.pdl_syntax_tokens.specs.declared.token.Mark.TheVariants as mark
use Rattle.pdl_syntax_tokens.specs.Cursor.{first_kind}
use Rattle.pdl_syntax_grammar.specs.Reading as spec
use Rattle.pdl_syntax_grammar.specs.declared.stop.Stop.TheVariants.{NoMemory as no_memory}
use Rattle.pdl_syntax_tree.specs.View.{param_view}
use Rattle.pdl_syntax_grammar.proofs.Rows.{value_last, value_stuck, value_fails, value_more}
use Rattle.pdl_syntax_grammar.proofs.declaration.params.Goals as goal

pub returns-in_err-next : goal.returns-in_err-next
returns-in_err-next c =
    let fails : c.in_err-next.field-0.0 ≢ no_memory → spec.list_of spec.param mark.CloseRound c.args.room c.args.tokens.now ≡ Err c.param.new.tokens =
    λ h. sym c.loop-turn.invariant
    ∙ value_fails param_view spec.param mark.CloseRound
    (c.args.room - c.loop-turn._turn) c.loop-turn.done c.loop-turn.tokens c.param.new.tokens (omega arith)
    (c.in_err-next.ensures h) in
    search (rules, fails)

pub returns-then-not-more : goal.returns-then-not-more
returns-then-not-more c =
    let read : spec.param c.loop-turn.tokens ≡ Ok (param_view c.in_ok-next.next, c.param.new.tokens) = search rules in
    let last : spec.goes_on mark.CloseRound (first_kind c.param.new.tokens) ≡ Some false = search rules in
    sym c.loop-turn.invariant
    ∙ value_last param_view spec.param mark.CloseRound
    (c.args.room - c.loop-turn._turn) c.loop-turn.done c.push.new.self c.in_ok-next.next c.loop-turn.tokens c.param.new.tokens c.skip.new.self
    (omega arith) read last c.in_ok-push.ensures.ok c.skip.ensures

pub returns-in-None : goal.returns-in-None
returns-in-None c h =
    let read : spec.param c.loop-turn.tokens ≡ Ok (param_view c.in_ok-next.next, c.param.new.tokens) = search rules in
    let stuck : spec.goes_on mark.CloseRound (first_kind c.param.new.tokens) ≡ None = search rules in
    sym c.loop-turn.invariant
    ∙ value_stuck param_view spec.param mark.CloseRound
    (c.args.room - c.loop-turn._turn) c.loop-turn.done c.in_ok-next.next c.loop-turn.tokens c.param.new.tokens
    (omega arith) read stuck

pub loop-turn-preserved : goal.loop-turn-preserved
loop-turn-preserved c =
    let read : spec.param c.loop-turn.tokens ≡ Ok (param_view c.in_ok-next.next, c.param.new.tokens) = search rules in
    let more : spec.goes_on mark.CloseRound (first_kind c.param.new.tokens) ≡ Some true = search rules in
    sym
    (value_more param_view spec.param mark.CloseRound (c.args.room - c.loop-turn._turn)
    (c.args.room - (c.loop-turn._turn + 1)) c.loop-turn.done c.push.new.self c.in_ok-next.next c.loop-turn.tokens c.param.new.tokens c.skip.new.self
    (omega arith) read more c.in_ok-push.ensures.ok c.skip.ensures)
    ∙ c.loop-turn.invariant
