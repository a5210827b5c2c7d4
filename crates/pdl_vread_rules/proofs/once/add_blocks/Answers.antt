use Rattle.std.proofs.Common.{◌≡◌, ◌∙◌, true, false, length, rules, arith, sym, ap}
use Rattle.std.specs.Iterator.Adapters.{zip_first, zip_second}
use Rattle.std.specs.Slice.Iter.{iter_rest}
use Rattle.std.proofs.lemmas.Grind.{common_steps}
use Rattle.std.proofs.lemmas.List.{length_push}
use Rattle.std.proofs.lemmas.Slice.Zip.{zip_turn, zip_end}
use Rattle.pdl_vread_rules.specs.Once.{owner}
use Rattle.pdl_vread_rules.proofs.Owners.{is_other, is_second, added, same_inside, second_block, blocks_more, blocks_stop, blocks_end}
use Rattle.pdl_vread_rules.proofs.once.add_blocks.Goals as goal

pub returns-then-not-is_first : goal.returns-then-not-is_first
returns-then-not-is_first c =
    let decls = c.args.decls.now in
    let blocks = c.args.blocks.now in
    let n = length c.loop-decl.yielded in
    let d = c.in-Some.decl.now in
    let ws = c.in-Some.block.now in
    let before = c.loop-decl.owners.keys in
    let first : iter_rest (zip_first c.into_iter-decl-iterator.result) ≡ decls = first_of (cc, search rules) in
    let second : iter_rest (zip_second c.into_iter-decl-iterator.result) ≡ blocks = first_of (cc, search rules) in
    let t =
    zip_turn decls blocks c.loop-decl.yielded c.into_iter-decl-iterator.result c.loop-decl.decl-iterator c.next.new.self c.next.result first second c.loop-decl.yielded_by
    (c.in-Some.decl, c.in-Some.block) c.in-Some.is c.next.ensures.steps in
    let array : c.owner-array.result ≡ owner ws = c.owner-array.ensures ∙ ap owner c.as_slice.ensures in
    let taken_before : c.in_ok-is_first.is_first ≡ false = cc in
    let taken = is_second before ws c.owner-array.result c.in_ok-is_first.is_first array taken_before c.in_ok-is_first.ensures.added in
    second_block decls blocks n d ws before _ t.0 t.1 (t.2 d) (t.3 ws) c.loop-decl.invariant taken

pub loop-decl-preserved : goal.loop-decl-preserved
loop-decl-preserved c =
    let decls = c.args.decls.now in
    let blocks = c.args.blocks.now in
    let n = length c.loop-decl.yielded in
    let d = c.in-Some.decl.now in
    let ws = c.in-Some.block.now in
    let before = c.loop-decl.owners.keys in
    let first : iter_rest (zip_first c.into_iter-decl-iterator.result) ≡ decls = first_of (cc, search rules) in
    let second : iter_rest (zip_second c.into_iter-decl-iterator.result) ≡ blocks = first_of (cc, search rules) in
    let t =
    zip_turn decls blocks c.loop-decl.yielded c.into_iter-decl-iterator.result c.loop-decl.decl-iterator c.next.new.self c.next.result first second c.loop-decl.yielded_by
    (c.in-Some.decl, c.in-Some.block) c.in-Some.is c.next.ensures.steps in
    let array : c.owner-array.result ≡ owner ws = c.owner-array.ensures ∙ ap owner c.as_slice.ensures in
    let told =
    same_inside d ws c.owner-array.result c.as_slice-in-loop-decl.result.now c.as_slice-in-loop-decl-2.result.now array c.as_slice-in-loop-decl.ensures c.as_slice-in-loop-decl-2.ensures in
    let is : c.in_ok-is_first.is_first ≡ true = cc in
    let other = is_other before ws c.owner-array.result c.in_ok-is_first.is_first array is c.in_ok-is_first.ensures.added in
    let more = length_push c.loop-decl.yielded (c.in-Some.decl, c.in-Some.block) in
    let after = added before c.insert.new.self.keys ws c.owner-array.result array other c.in_ok-is_first.ensures.keys in
    blocks_more decls blocks n d ws before _ t.0 t.1 (t.2 d) (t.3 ws) c.loop-decl.invariant _ _ more after other (sym told ∙ c.in_ok-writes.ensures)

pub returns-in_err-writes : goal.returns-in_err-writes
returns-in_err-writes c =
    let decls = c.args.decls.now in
    let blocks = c.args.blocks.now in
    let n = length c.loop-decl.yielded in
    let d = c.in-Some.decl.now in
    let ws = c.in-Some.block.now in
    let before = c.loop-decl.owners.keys in
    let first : iter_rest (zip_first c.into_iter-decl-iterator.result) ≡ decls = first_of (cc, search rules) in
    let second : iter_rest (zip_second c.into_iter-decl-iterator.result) ≡ blocks = first_of (cc, search rules) in
    let t =
    zip_turn decls blocks c.loop-decl.yielded c.into_iter-decl-iterator.result c.loop-decl.decl-iterator c.next.new.self c.next.result first second c.loop-decl.yielded_by
    (c.in-Some.decl, c.in-Some.block) c.in-Some.is c.next.ensures.steps in
    let array : c.owner-array.result ≡ owner ws = c.owner-array.ensures ∙ ap owner c.as_slice.ensures in
    let told =
    same_inside d ws c.owner-array.result c.as_slice-in-loop-decl.result.now c.as_slice-in-loop-decl-2.result.now array c.as_slice-in-loop-decl.ensures c.as_slice-in-loop-decl-2.ensures in
    let is : c.in_ok-is_first.is_first ≡ true = cc in
    let other = is_other before ws c.owner-array.result c.in_ok-is_first.is_first array is c.in_ok-is_first.ensures.added in
    let k = blocks_stop decls blocks n d ws before _ t.0 t.1 (t.2 d) (t.3 ws) c.loop-decl.invariant _ _ other told c.in_err-writes.ensures in
    grind (arith, common_steps, k)

pub returns : goal.returns
returns c =
    let first : iter_rest (zip_first c.into_iter-decl-iterator.result) ≡ c.args.decls.now = first_of (cc, search rules) in
    let second : iter_rest (zip_second c.into_iter-decl-iterator.result) ≡ c.args.blocks.now = first_of (cc, search rules) in
    let e =
    zip_end c.args.decls.now c.args.blocks.now c.loop-decl.yielded c.into_iter-decl-iterator.result c.loop-decl.decl-iterator c.next.new.self c.next.result first second c.loop-decl.yielded_by c.in-None.is c.next.ensures.steps in
    blocks_end c.args.decls.now c.args.blocks.now (length c.loop-decl.yielded) c.loop-decl.owners.keys _ e c.loop-decl.invariant
