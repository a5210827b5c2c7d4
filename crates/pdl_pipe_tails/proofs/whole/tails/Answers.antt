use Rattle.std.proofs.Common.{◌≡◌, ◌+◌, ◌∙◌, ◌++◌, ◌∷◌, [], ℕ, ◌<◌, length, refl, sym, ap, subst, arith}
use Rattle.std.proofs.lemmas.List.{length-append, get_or_push}
use Rattle.pdl_semantics.specs.Updates.{update_stage}
use Rattle.pdl_semantics.proofs.SquashStages.{update_before}
use Rattle.pdl_net.proofs.Keeps.{extends_keeps, extends_trans, keeps_trans}
use Rattle.pdl_net.proofs.KeptWidths.{width_keeps}
use Rattle.pdl_pipe_exprs.specs.Nets.{NetsThere, signals_in, signal_at, widths_of}
use Rattle.pdl_pipe_nexts.specs.Lines.{line_pipe}
use Rattle.pdl_pipe_nexts.proofs.LineGrowth.{line_keep}
use Rattle.pdl_pipe_tails.specs.Reserved.{AreAfterAll}
use Rattle.pdl_pipe_tails.specs.Carried.{tail_in, HaveTails}
use Rattle.pdl_pipe_tails.specs.Tails.{HasCut, IsCut, IsLike}
use Rattle.pdl_pipe_tails.proofs.Rows.{all_now, stage_from}
use Rattle.pdl_pipe_tails.proofs.AllRows.{FirstRows, have_rows, tails_same, same_front, rows_more, rows_full, rows_all, row_is, like_last, cut_later}
use Rattle.pdl_pipe_tails.proofs.whole.tails.Goals as goal

pub stage_tails-requires-clause-line : goal.stage_tails-requires-clause-line
stage_tails-requires-clause-line c =
    let a = c.args.b.now in
    let b = c.next_after.new.b in
    let d = c.loop-k.b in
    line_keep a d c.args.line.now
    (keeps_trans a b d (extends_keeps a b c.next_after.ensures.extends) (extends_keeps b d c.loop-k.invariant.extends)) c.requires.line

pub stage_tails-requires-clause-fresh : goal.stage_tails-requires-clause-fresh
stage_tails-requires-clause-fresh c =
    let a = c.args.b.now in
    let b = c.next_after.new.b in
    let d = c.loop-k.b in
    let bd = extends_keeps b d c.loop-k.invariant.extends in
    let ad = keeps_trans a b d (extends_keeps a b c.next_after.ensures.extends) bd in
    subst (AreAfterAll d d c.args.line.now) (sym c.as_slice-in-loop-k.ensures)
    (all_now a b d c.args.line.now c.in_ok-fresh.fresh ad bd c.requires.line c.in_ok-fresh.ensures.after)

pub stage_tails-requires-clause-before : goal.stage_tails-requires-clause-before
stage_tails-requires-clause-before c =
    let a = c.args.b.now in
    let b = c.next_after.new.b in
    let d = c.loop-k.b in
    let x = c.args.line.now in
    let v = c.loop-k.invariant in
    let fresh = c.as_slice-in-loop-k.result.now in
    let bd = extends_keeps b d v.extends in
    let ad = keeps_trans a b d (extends_keeps a b c.next_after.ensures.extends) bd in
    let now =
    subst (AreAfterAll d d x) (sym c.as_slice-in-loop-k.ensures) (all_now a b d x c.in_ok-fresh.fresh ad bd c.requires.line c.in_ok-fresh.ensures.after) in
    subst (λ rows. (m : ℕ) → m < length fresh → HaveTails d m (signal_at (signals_in d fresh) m).width rows) (sym c.as_slice-in-loop-k-2.ensures.value)
    (λ m l. have_rows a d x fresh c.loop-k.before.items c.loop-k.k m v.count ad c.requires.line now l v.rows)

pub loop-k-preserved : goal.loop-k-preserved
loop-k-preserved c =
    let a = c.args.b.now in
    let b = c.next_after.new.b in
    let d = c.loop-k.b in
    let f = c.stage_tails.new.b in
    let x = c.args.line.now in
    let k = c.loop-k.k in
    let v = c.loop-k.invariant in
    let rows = c.loop-k.before.items in
    let row = c.in_ok-row.row in
    let longer = rows ++ row ∷ [] in
    let grown = c.stage_tails.ensures.extends in
    let ad = keeps_trans a b d (extends_keeps a b c.next_after.ensures.extends) (extends_keeps b d v.extends) in
    let agree : (j m : ℕ) → j < k → tail_in f longer [] j m ≡ tail_in d c.as_slice-in-loop-k-2.result.now [] j m =
    λ j m l. tails_same a d f x rows longer [] k (extends_keeps d f grown) v.rows (same_front rows row k v.count) j m l
    ∙ ap (λ rs. tail_in d rs [] j m) (sym c.as_slice-in-loop-k-2.ensures.value) in
    let here = stage_from a d f x (tail_in f longer []) k row ad c.requires.line (c.in_ok-row.ensures.tails (tail_in f longer []) agree) in
    let pushed = c.in_ok-push.ensures.items in
    record {
      count = ap length pushed ∙ length-append rows (row ∷ []) ∙ ap (λ n. n + 1) v.count;
      rows = subst (λ rs. FirstRows a f x rs (k + 1)) (sym pushed) (rows_more a d f x rows row k v.count grown v.rows here);
      extends = extends_trans b d f v.extends grown;
    }

pub stage_tails-requires-2-clause-line : goal.stage_tails-requires-2-clause-line
stage_tails-requires-2-clause-line c =
    let a = c.args.b.now in
    let b = c.next_after.new.b in
    let d = c.loop-k.b in
    line_keep a d c.args.line.now
    (keeps_trans a b d (extends_keeps a b c.next_after.ensures.extends) (extends_keeps b d c.loop-k.invariant.extends)) c.requires.line

pub stage_tails-requires-2-clause-fresh : goal.stage_tails-requires-2-clause-fresh
stage_tails-requires-2-clause-fresh c =
    let a = c.args.b.now in
    let b = c.next_after.new.b in
    let d = c.loop-k.b in
    let bd = extends_keeps b d c.loop-k.invariant.extends in
    let ad = keeps_trans a b d (extends_keeps a b c.next_after.ensures.extends) bd in
    subst (AreAfterAll d d c.args.line.now) (sym c.as_slice-2.ensures)
    (all_now a b d c.args.line.now c.in_ok-fresh.fresh ad bd c.requires.line c.in_ok-fresh.ensures.after)

pub stage_tails-requires-2-clause-before : goal.stage_tails-requires-2-clause-before
stage_tails-requires-2-clause-before c =
    let a = c.args.b.now in
    let b = c.next_after.new.b in
    let d = c.loop-k.b in
    let x = c.args.line.now in
    let v = c.loop-k.invariant in
    let fresh = c.as_slice-2.result.now in
    let bd = extends_keeps b d v.extends in
    let ad = keeps_trans a b d (extends_keeps a b c.next_after.ensures.extends) bd in
    let now = subst (AreAfterAll d d x) (sym c.as_slice-2.ensures) (all_now a b d x c.in_ok-fresh.fresh ad bd c.requires.line c.in_ok-fresh.ensures.after) in
    subst (λ rows. (m : ℕ) → m < length fresh → HaveTails d m (signal_at (signals_in d fresh) m).width rows) (sym c.as_slice-3.ensures.value)
    (λ m l. have_rows a d x fresh c.loop-k.before.items c.loop-k.k m v.count ad c.requires.line now l v.rows)

pub cut_by-requires-clause-verify : goal.cut_by-requires-clause-verify
cut_by-requires-clause-verify c =
    let a = c.args.b.now in
    let b = c.next_after.new.b in
    let d = c.loop-k.b in
    let f = c.stage_tails-2.new.b in
    let ad = keeps_trans a b d (extends_keeps a b c.next_after.ensures.extends) (extends_keeps b d c.loop-k.invariant.extends) in
    width_keeps a f c.args.verify 1 (keeps_trans a d f ad (extends_keeps d f c.stage_tails-2.ensures.extends)) c.requires.squash

pub cut_by-requires-clause-last : goal.cut_by-requires-clause-last
cut_by-requires-clause-last c =
    let a = c.args.b.now in
    let b = c.next_after.new.b in
    let d = c.loop-k.b in
    let f = c.stage_tails-2.new.b in
    let x = c.args.line.now in
    let v = c.in-Some.v in
    let inv = c.loop-k.invariant in
    let rows = c.loop-k.before.items in
    let last = c.in_ok-last-2.last in
    let k_is : c.loop-k.k ≡ v = omega (arith, c.loop-k-test.false, c.loop-k.auto.k-end) in
    let ad = keeps_trans a b d (extends_keeps a b c.next_after.ensures.extends) (extends_keeps b d inv.extends) in
    let full =
    rows_full a d f x rows last v (inv.count ∙ k_is) ad c.requires.line c.stage_tails-2.ensures.extends (subst (FirstRows a d x rows) k_is inv.rows)
    (λ tails agree. c.in_ok-last-2.ensures.tails tails (λ j m l. agree j m l ∙ ap (λ rs. tail_in d rs [] j m) (sym c.as_slice-3.ensures.value))) in
    subst (NetsThere f) (get_or_push rows last [] v (inv.count ∙ k_is) ∙ sym c.as_slice-5.ensures) (full v (omega arith)).there

pub cut_by-requires-clause-like : goal.cut_by-requires-clause-like
cut_by-requires-clause-like c = λ u is.
    let a = c.args.b.now in
    let b = c.next_after.new.b in
    let d = c.loop-k.b in
    let f = c.stage_tails-2.new.b in
    let x = c.args.line.now in
    let v = c.in-Some.v in
    let inv = c.loop-k.invariant in
    let rows = c.loop-k.before.items in
    let last = c.in_ok-last-2.last in
    let k_is : c.loop-k.k ≡ v = omega (arith, c.loop-k-test.false, c.loop-k.auto.k-end) in
    let ad = keeps_trans a b d (extends_keeps a b c.next_after.ensures.extends) (extends_keeps b d inv.extends) in
    let full =
    rows_full a d f x rows last v (inv.count ∙ k_is) ad c.requires.line c.stage_tails-2.ensures.extends (subst (FirstRows a d x rows) k_is inv.rows)
    (λ tails agree. c.in_ok-last-2.ensures.tails tails (λ j m l. agree j m l ∙ ap (λ rs. tail_in d rs [] j m) (sym c.as_slice-3.ensures.value))) in
    let early = update_before (line_pipe x).stmts u v is (sym c.in-Some.ensures) in
    subst (λ ns. IsLike f c.as_slice-4.result.now ns u) (sym c.as_slice-5.ensures)
    (subst (λ rs. IsLike f rs last u) (sym c.as_slice-4.ensures.value) (like_last a f x rows last v u (inv.count ∙ k_is) early full))

pub returns-clause-cut : goal.returns-clause-cut
returns-clause-cut c =
    let a = c.args.b.now in
    let b = c.next_after.new.b in
    let d = c.loop-k.b in
    let f = c.stage_tails-2.new.b in
    let h = c.cut_by.new.b in
    let x = c.args.line.now in
    let v = c.in-Some.v in
    let inv = c.loop-k.invariant in
    let rows = c.loop-k.before.items in
    let last = c.in_ok-last-2.last in
    let cut = c.in_ok-cut-2.cut in
    let k_is : c.loop-k.k ≡ v = omega (arith, c.loop-k-test.false, c.loop-k.auto.k-end) in
    let ad = keeps_trans a b d (extends_keeps a b c.next_after.ensures.extends) (extends_keeps b d inv.extends) in
    let df = c.stage_tails-2.ensures.extends in
    let af = keeps_trans a d f ad (extends_keeps d f df) in
    let fh = c.cut_by.ensures.extends in
    let full =
    rows_full a d f x rows last v (inv.count ∙ k_is) ad c.requires.line df (subst (FirstRows a d x rows) k_is inv.rows)
    (λ tails agree. c.in_ok-last-2.ensures.tails tails (λ j m l. agree j m l ∙ ap (λ rs. tail_in d rs [] j m) (sym c.as_slice-3.ensures.value))) in
    subst (HasCut a h x c.args.verify (record { before = c.loop-k.before; last = last; cut = cut })) c.in-Some.ensures
    (record {
      count = inv.count ∙ k_is;
      each = rows_all a f h x rows last v (inv.count ∙ k_is) fh full;
      cut =
          cut_later f h x c.args.verify rows last cut v (inv.count ∙ k_is) (sym c.in-Some.ensures) (extends_keeps f h fh)
          (width_keeps a f c.args.verify 1 af c.requires.squash).there a full
          (subst (λ ns. IsCut f h c.args.verify rows ns cut (update_stage (line_pipe x).stmts)) c.as_slice-5.ensures
          (subst (λ rs. IsCut f h c.args.verify rs c.as_slice-5.result.now cut (update_stage (line_pipe x).stmts)) c.as_slice-4.ensures.value
          c.in_ok-cut-2.ensures.cut));
    })

pub returns-clause-row : goal.returns-clause-row
returns-clause-row c =
    let a = c.args.b.now in
    let b = c.next_after.new.b in
    let d = c.loop-k.b in
    let f = c.stage_tails-2.new.b in
    let x = c.args.line.now in
    let v = c.in-Some.v in
    let inv = c.loop-k.invariant in
    let last = c.in_ok-last-2.last in
    let ad = keeps_trans a b d (extends_keeps a b c.next_after.ensures.extends) (extends_keeps b d inv.extends) in
    let tails = tail_in d c.as_slice-3.result.now [] in
    let own =
    row_is a f x tails v last (stage_from a d f x tails v last ad c.requires.line (c.in_ok-last-2.ensures.tails tails (λ j m l. refl))) in
    record {
      there = c.in_ok-cut-2.ensures.there;
      wide = c.in_ok-cut-2.ensures.wide ∙ ap (λ ns. widths_of (signals_in f ns)) c.as_slice-5.ensures ∙ own.wide;
    }
