use Rattle.std.proofs.Common.{rules, ◌≡◌, ◌≢◌, ◌+◌, ◌-◌, ◌∙◌, sym, arith, Ok, Err, Some, None, true, false}
use Rattle.pdl_syntax_tokens.specs.declared.token.Mark.TheVariants as mark
use Rattle.pdl_syntax_tokens.specs.Cursor.{first_kind}
use Rattle.pdl_syntax_grammar.specs.Reading as spec
use Rattle.pdl_syntax_grammar.specs.declared.stop.Stop.TheVariants.{NoMemory as no_memory}
use Rattle.pdl_syntax_tree.specs.View.{literal_view}
use Rattle.pdl_syntax_grammar.proofs.Rows.{value_last, value_stuck, value_fails, value_more}
use Rattle.pdl_syntax_grammar.proofs.text.literals.Goals as goal

pub returns-in_err-next : goal.returns-in_err-next
returns-in_err-next c =
    let fails : c.in_err-next.field-0.0 ≢ no_memory → spec.list_of spec.literal mark.CloseRound c.args.room c.args.tokens.now ≡ Err c.literal.new.tokens =
    λ h. sym c.loop-turn.invariant
    ∙ value_fails literal_view spec.literal mark.CloseRound
    (c.args.room - c.loop-turn._turn) c.loop-turn.done c.loop-turn.tokens c.literal.new.tokens (omega arith)
    (c.in_err-next.ensures h) in
    search (rules, fails)

pub returns-then-not-more : goal.returns-then-not-more
returns-then-not-more c =
    let read : spec.literal c.loop-turn.tokens ≡ Ok (literal_view c.in_ok-next.next, c.literal.new.tokens) = search rules in
    let last : spec.goes_on mark.CloseRound (first_kind c.literal.new.tokens) ≡ Some false = search rules in
    sym c.loop-turn.invariant
    ∙ value_last literal_view spec.literal mark.CloseRound
    (c.args.room - c.loop-turn._turn) c.loop-turn.done c.push.new.self c.in_ok-next.next c.loop-turn.tokens c.literal.new.tokens c.skip.new.self
    (omega arith) read last c.in_ok-push.ensures.ok c.skip.ensures

pub returns-in-None : goal.returns-in-None
returns-in-None c h =
    let read : spec.literal c.loop-turn.tokens ≡ Ok (literal_view c.in_ok-next.next, c.literal.new.tokens) = search rules in
    let stuck : spec.goes_on mark.CloseRound (first_kind c.literal.new.tokens) ≡ None = search rules in
    sym c.loop-turn.invariant
    ∙ value_stuck literal_view spec.literal mark.CloseRound
    (c.args.room - c.loop-turn._turn) c.loop-turn.done c.in_ok-next.next c.loop-turn.tokens c.literal.new.tokens
    (omega arith) read stuck

pub loop-turn-preserved : goal.loop-turn-preserved
loop-turn-preserved c =
    let read : spec.literal c.loop-turn.tokens ≡ Ok (literal_view c.in_ok-next.next, c.literal.new.tokens) = search rules in
    let more : spec.goes_on mark.CloseRound (first_kind c.literal.new.tokens) ≡ Some true = search rules in
    sym
    (value_more literal_view spec.literal mark.CloseRound (c.args.room - c.loop-turn._turn)
    (c.args.room - (c.loop-turn._turn + 1)) c.loop-turn.done c.push.new.self c.in_ok-next.next c.loop-turn.tokens c.literal.new.tokens c.skip.new.self
    (omega arith) read more c.in_ok-push.ensures.ok c.skip.ensures)
    ∙ c.loop-turn.invariant
