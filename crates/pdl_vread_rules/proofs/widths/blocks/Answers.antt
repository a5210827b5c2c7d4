use Rattle.std.proofs.Common.{◌≡◌, ◌∙◌, length, get_or, rules, arith, None, sym, ap}
use Rattle.std.specs.Iterator.Adapters.{zip_first, zip_second}
use Rattle.std.specs.Slice.Iter.{iter_rest}
use Rattle.std.proofs.lemmas.Grind.{common_steps}
use Rattle.std.proofs.lemmas.List.{length_push}
use Rattle.std.proofs.lemmas.Slice.Zip.{zip_turn, zip_end}
use Rattle.pdl_vread_text.specs.declared.file.ArrayBlock.{ArrayBlock}
use Rattle.pdl_vread_rules.specs.RuleQuestions.{first_wrong, both}
use Rattle.pdl_vread_rules.specs.Widths as spec
use Rattle.pdl_vread_rules.proofs.Blocks.{block_more, block_stop_at, block_end}
use Rattle.pdl_vread_rules.proofs.widths.blocks.Goals as goal

pub loop-decl-preserved : goal.loop-decl-preserved
loop-decl-preserved c =
    let first : iter_rest (zip_first c.into_iter-decl-iterator.result) ≡ c.args.decls.now = first_of (cc, search rules) in
    let second : iter_rest (zip_second c.into_iter-decl-iterator.result) ≡ c.args.blocks.now = first_of (cc, search rules) in
    let n = length c.loop-decl.yielded in
    let d = c.in-Some.decl.now in
    let ws = c.in-Some.block.now in
    let t =
    zip_turn c.args.decls.now c.args.blocks.now c.loop-decl.yielded c.into_iter-decl-iterator.result c.loop-decl.decl-iterator c.next.new.self c.next.result first second c.loop-decl.yielded_by
    (c.in-Some.decl, c.in-Some.block) c.in-Some.is c.next.ensures.steps in
    let x : d ≡ get_or c.args.decls.now n d = t.2 d in
    let y : ws ≡ get_or c.args.blocks.now n ws = t.3 ws in
    let ask = spec.asked_write c.args.widths.now in
    let a = c.as_slice.result.now in
    let b = c.as_slice-in-loop-decl.result.now in
    let told : first_wrong (both ask a b) ≡ None = c.in_ok-writes.ensures in
    let p : a ≡ (get_or c.args.decls.now n d).writes = c.as_slice.ensures ∙ ap (λ (z : ArrayBlock). z.writes) x in
    let q : b ≡ get_or c.args.blocks.now n ws = c.as_slice-in-loop-decl.ensures ∙ y in
    let r : first_wrong (both ask (get_or c.args.decls.now n d).writes (get_or c.args.blocks.now n ws)) ≡ None =
    sym (ap (λ z. first_wrong (both ask z b)) p ∙ ap (λ z. first_wrong (both ask (get_or c.args.decls.now n d).writes z)) q) ∙ told in
    block_more c.args.widths.now c.args.decls.now c.args.blocks.now n _ d ws _ t.0 t.1
    (length_push c.loop-decl.yielded (c.in-Some.decl, c.in-Some.block)) r c.loop-decl.invariant

pub returns-in_err-writes : goal.returns-in_err-writes
returns-in_err-writes c =
    let first : iter_rest (zip_first c.into_iter-decl-iterator.result) ≡ c.args.decls.now = first_of (cc, search rules) in
    let second : iter_rest (zip_second c.into_iter-decl-iterator.result) ≡ c.args.blocks.now = first_of (cc, search rules) in
    let n = length c.loop-decl.yielded in
    let d = c.in-Some.decl.now in
    let ws = c.in-Some.block.now in
    let t =
    zip_turn c.args.decls.now c.args.blocks.now c.loop-decl.yielded c.into_iter-decl-iterator.result c.loop-decl.decl-iterator c.next.new.self c.next.result first second c.loop-decl.yielded_by
    (c.in-Some.decl, c.in-Some.block) c.in-Some.is c.next.ensures.steps in
    let x : d ≡ get_or c.args.decls.now n d = t.2 d in
    let y : ws ≡ get_or c.args.blocks.now n ws = t.3 ws in
    let ask = spec.asked_write c.args.widths.now in
    let a = c.as_slice.result.now in
    let b = c.as_slice-in-loop-decl.result.now in
    let p : a ≡ (get_or c.args.decls.now n d).writes = c.as_slice.ensures ∙ ap (λ (z : ArrayBlock). z.writes) x in
    let q : b ≡ get_or c.args.blocks.now n ws = c.as_slice-in-loop-decl.ensures ∙ y in
    let r : first_wrong (both ask a b) ≡ first_wrong (both ask (get_or c.args.decls.now n d).writes (get_or c.args.blocks.now n ws)) =
    ap (λ z. first_wrong (both ask z b)) p ∙ ap (λ z. first_wrong (both ask (get_or c.args.decls.now n d).writes z)) q in
    let k =
    block_stop_at c.args.widths.now c.args.decls.now c.args.blocks.now n d ws _ _ t.0 t.1
    (first_wrong (both ask a b)) r c.in_err-writes.ensures c.loop-decl.invariant in
    grind (arith, common_steps, k)

pub returns : goal.returns
returns c =
    let first : iter_rest (zip_first c.into_iter-decl-iterator.result) ≡ c.args.decls.now = first_of (cc, search rules) in
    let second : iter_rest (zip_second c.into_iter-decl-iterator.result) ≡ c.args.blocks.now = first_of (cc, search rules) in
    let e =
    zip_end c.args.decls.now c.args.blocks.now c.loop-decl.yielded c.into_iter-decl-iterator.result c.loop-decl.decl-iterator c.next.new.self c.next.result first second c.loop-decl.yielded_by c.in-None.is c.next.ensures.steps in
    block_end c.args.widths.now c.args.decls.now c.args.blocks.now (length c.loop-decl.yielded) _ e c.loop-decl.invariant
