-- A statement that is typed can be carried out on what fits.
use Rattle.std.proofs.Common.{◌≡◌, sym, subst, ℕ, zero, suc, ◌^◌, ◌<◌, ◌≤◌, List, [], ◌∷◌, length, slice_index, arith}
use Rattle.std.proofs.Math.Pow.{pow_mono}
use Rattle.pdl_semantics.specs.Flat.{Op, Bind, CombRead, DelayedRead, Write, ReserveRead, ReserveWrite, Block, Release, Call, SpecCall, Verify, SpecCheck, SpecBarrier, AdviceBind, AdviceRead, AdviceWrite, Mem, Pipe}
use Rattle.pdl_semantics.specs.Stages.{mem_at}
use Rattle.pdl_semantics.specs.Sequential.{Run}
use Rattle.pdl_form.specs.Form.{Form}
use Rattle.pdl_form_types.specs.Stmts.{param_widths, IsTypedMem, AreTypedMems, IsTypedOp, IsTypedForm}
use Rattle.pdl_form_values.proofs.ValueWidths.{safe, all_safe}
use Rattle.pdl_seq.specs.Turns.{IsSafeOp, list_at}
use Rattle.pdl_seq.specs.Fits.{IsShaped, AreFitting}
use Rattle.pdl_seq.proofs.StatementWidths.{few_args, there_in}

typed_mem : (p : Pipe) (ms : List Mem) (m : ℕ) → AreTypedMems ms → m < length ms → IsTypedMem (mem_at (record p { mems = ms }) m)
typed_mem p [] m t h = absurd (omega arith)
typed_mem p (x ∷ ms) zero t h = t.0
typed_mem p (x ∷ ms) (suc m) t h = typed_mem p ms m t.1 (omega arith)

module _ (f : Form) (typed : IsTypedForm f) (lists : List (List ℕ)) (s : IsShaped f.pipe lists) (r : Run)
    (k : AreFitting f r) (room : ℕ) (enough : length f.pipe.start ≤ room) where
  mem_there : (m : ℕ) → m < length f.pipe.mems → m < length lists
  mem_there m h = subst (λ n. m < n) (sym s.count) h

  within : (m a : ℕ) → m < length f.pipe.mems → 2 ^ slice_index f.widths a ≡ (mem_at f.pipe m).depth → slice_index r.env a < (mem_at f.pipe m).depth
  within m a h e = subst (λ n. slice_index r.env a < n) e (k.values.below a)

  small : (m a : ℕ) → m < length f.pipe.mems → 2 ^ slice_index f.widths a ≡ (mem_at f.pipe m).depth → slice_index r.env a < 2 ^ 32
  small m a h e =
      let mem = typed_mem f.pipe f.pipe.mems m typed.mems h in
      let inside : slice_index r.env a < (mem_at f.pipe m).depth = within m a h e in
      let deep : (mem_at f.pipe m).depth ≡ 2 ^ mem.bits = mem.depth in
      let few : mem.bits ≤ 16 = mem.few in
      let least : 2 ^ mem.bits ≤ 2 ^ 32 = pow_mono {i = mem.bits} {j = 32} (omega arith) in
      omega arith

  -- a typed statement can be carried out on these values and memories, with room for as many arguments as the start has
  pub safe_op : (op : Op) → IsTypedOp f op → IsSafeOp lists room op r.env
  safe_op (Bind x e) t = (there_in f typed.wide r x k t.0, safe f.widths r.env typed.wide k.values e t.1)
  safe_op (CombRead x m a) t = (there_in f typed.wide r x k t.0, mem_there m t.1.memory)
  safe_op (DelayedRead x m a) t = (there_in f typed.wide r x k t.0, mem_there m t.1.memory)
  safe_op (Write m a e) t =
      let deep : length (list_at lists m) ≡ (mem_at f.pipe m).depth = s.depth m t.0.memory in (
        mem_there m t.0.memory,
        subst (λ n. slice_index r.env a < n) (sym deep) (within m a t.0.memory t.0.reach),
        small m a t.0.memory t.0.reach,
        safe f.widths r.env typed.wide k.values e t.1,
      )
  safe_op (ReserveRead m a) t = tt
  safe_op (ReserveWrite m a) t = tt
  safe_op (Block m a) t = tt
  safe_op (Release m a) t = tt
  safe_op (Call args) t = let few = few_args f args t in (all_safe f.widths r.env typed.wide k.values (param_widths f) args t, omega arith)
  safe_op (SpecCall args) t = tt
  safe_op (Verify last args) t = let few = few_args f args t in (all_safe f.widths r.env typed.wide k.values (param_widths f) args t, omega arith)
  safe_op SpecCheck t = tt
  safe_op SpecBarrier t = tt
  safe_op (AdviceBind x e) t = tt
  safe_op (AdviceRead x m a) t = tt
  safe_op (AdviceWrite m a e) t = tt
