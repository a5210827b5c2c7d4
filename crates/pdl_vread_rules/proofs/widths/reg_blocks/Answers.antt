use Rattle.std.proofs.Common.{◌≡◌, length, rules}
use Rattle.std.specs.Iterator.Adapters.{zip_first, zip_second}
use Rattle.std.specs.Slice.Iter.{iter_rest}
use Rattle.std.proofs.lemmas.Slice.Zip.{zip_end}
use Rattle.pdl_vread_rules.specs.Widths as spec
use Rattle.pdl_vread_rules.proofs.Passes.{pair_end}
use Rattle.pdl_vread_rules.proofs.widths.reg_blocks.Goals as goal

pub returns : goal.returns
returns c =
    let first : iter_rest (zip_first c.into_iter-decl-iterator.result) ≡ c.args.decls.now = first_of (cc, search rules) in
    let second : iter_rest (zip_second c.into_iter-decl-iterator.result) ≡ c.args.drives.now = first_of (cc, search rules) in
    let e =
    zip_end c.args.decls.now c.args.drives.now c.loop-decl.yielded c.into_iter-decl-iterator.result c.loop-decl.decl-iterator c.next.new.self c.next.result first second c.loop-decl.yielded_by c.in-None.is c.next.ensures.steps in
    pair_end (spec.asked_block c.args.widths.now) c.args.decls.now c.args.drives.now (length c.loop-decl.yielded) _ e c.loop-decl.invariant
