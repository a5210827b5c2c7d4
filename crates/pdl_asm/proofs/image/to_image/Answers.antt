use Rattle.std.proofs.Common.{◌+◌, ◌-◌, ◌++◌, ℕ, List, None, get_or, length, sym, ap, ◌∙◌, arith}
use Rattle.std.specs.Prelude.{flat_map}
use Rattle.std.specs.List.{range_with_len}
use Rattle.pdl_asm.specs.Assembly.{word_line}
use Rattle.pdl_asm.proofs.LineSteps.{flat_end, flat_step, text_end}
use Rattle.pdl_asm.proofs.image.to_image.Goals as goal

pub loop-address-preserved : goal.loop-address-preserved
loop-address-preserved c =
    let t = c.args.table.now in
    let slots = c.slots-slots.result.now in
    let a : ℕ = c.loop-address.address in
    let f : ℕ → List ℕ = λ k. word_line t.mem t.word k (get_or slots k None) in
    let later = flat_map f (range_with_len (a + 1) (length slots - (a + 1))) in
    let line = ap (λ m. word_line m c.word-width.result a (get_or slots a None)) c.mem-mem.ensures.value
    ∙ ap (λ n. word_line t.mem n a (get_or slots a None)) c.word-width.ensures.value in
    ap (λ xs. xs ++ later) (c.in_ok-push_word.ensures ∙ ap (λ xs. c.loop-address.text.items ++ xs) line)
    ∙ sym (flat_step f c.loop-address.text.items a (length slots) c.loop-address-test.true) ∙ c.loop-address.invariant

pub returns-clause-text : goal.returns-clause-text
returns-clause-text c =
    let slots = c.slots-slots.result.now in
    let f : ℕ → List ℕ = λ a. word_line c.args.table.now.mem c.args.table.now.word a (get_or slots a None) in
    sym (flat_end f c.loop-address.text.items c.loop-address.address (length slots) (omega arith)) ∙ c.loop-address.invariant
    ∙ text_end c.args.table.now slots c.args.words.now c.slots-slots.ensures.value c.slots-slots.ensures.len

pub returns-clause-table : goal.returns-clause-table
returns-clause-table c = c.word-width.ensures.table
