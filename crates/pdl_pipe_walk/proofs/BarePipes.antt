-- Pipes without variables and memories, as tests take them.
use Rattle.std.proofs.Common.{◌≡◌, ℕ, zero, suc, Bool, true, List, [], ◌∷◌, map, length, refl, sym, ap, ◌∙◌, subst, arith}
use Rattle.std.specs.Prelude.{Option, take}
use Rattle.pdl_semantics.specs.Flat.{Call, SpecCall, Verify, SpecBarrier, Stmt, Mem, Pipe}
use Rattle.pdl_semantics.specs.SecondWrites.{all_twice}
use Rattle.pdl_form.specs.Form.{Form}
use Rattle.pdl_form_types.specs.Stmts.{AreArguments}
use Rattle.pdl_net.specs.declared.Net.{Net}
use Rattle.pdl_net.specs.Circuit.{Circuit}
use Rattle.pdl_net.specs.Meaning.{signal, IsThere}
use Rattle.pdl_pipe_exprs.specs.Nets.{NetsThere, signals_in, widths_of}
use Rattle.pdl_law_parts.specs.Walk.{Letting}
use Rattle.pdl_pipe_walk.specs.declared.locks.MemLock.{MemLock}
use Rattle.pdl_pipe_walk.specs.declared.nets.MarkNet.{MarkNet}
use Rattle.pdl_pipe_walk.specs.declared.nets.ReserveNet.{ReserveNet}
use Rattle.pdl_pipe_walk.specs.declared.nets.PutNet.{PutNet}
use Rattle.pdl_pipe_walk.specs.declared.nets.LettingNet.{LettingNet}
use Rattle.pdl_pipe_walk.specs.declared.nets.BirthNet.{BirthNet}
use Rattle.pdl_pipe_walk.specs.declared.nets.AskNet.{AskNet}
use Rattle.pdl_pipe_walk.specs.declared.nets.AdvisingNet.{AdvisingNet}
use Rattle.pdl_pipe_walk.specs.declared.nets.WalkNets.{WalkNets}
use Rattle.pdl_pipe_walk.specs.Parts.{MarkSignal, mark_in, reservation_in, put_in, letting_in, birth_in, ask_in, advising_in}
use Rattle.pdl_pipe_walk.specs.Locked.{Members, AreLocked, AreTickets}
use Rattle.pdl_pipe_walk.specs.Sized.{IsSizedReserve, IsSizedPut, IsSizedBirth, IsSizedAsk, IsSizedAdvising, IsWalk, AreWalked}
use Rattle.pdl_word.specs.Each.{Each}

-- nets can be made of a call without arguments
pub call_walked : (f : Form) (k : ℕ) (xs : List Stmt)
    → xs ≡ record { stage = k; guards = []; op = Call [] } ∷ [] → f.pipe.start ≡ [] → AreWalked f xs
call_walked f k xs e s =
    let none : AreArguments f.widths (take (length f.pipe.start) f.widths) [] =
    subst (λ (l : List ℕ). AreArguments f.widths (take (length l) f.widths) []) (sym s) tt in
    subst (AreWalked f) (sym e) (((tt, none), tt), tt)

-- a guess without arguments, which is verified, and a barrier
pub guess_walked : (f : Form) (xs : List Stmt)
    → xs
    ≡ record { stage = 0; guards = []; op = SpecCall [] } ∷ record { stage = 0; guards = []; op = Verify true [] }
    ∷ record { stage = 0; guards = []; op = SpecBarrier } ∷ []
    → f.pipe.start ≡ [] → AreWalked f xs
guess_walked f xs e s =
    let none : AreArguments f.widths (take (length f.pipe.start) f.widths) [] =
    subst (λ (l : List ℕ). AreArguments f.widths (take (length l) f.widths) []) (sym s) tt in
    subst (AreWalked f) (sym e) (((tt, none), tt), (((tt, none), tt), (((tt, tt), tt), tt)))

-- a pipe without memories has its locks in each circuit
pub no_locks : {T : Type 0} (l : Members T) (c : Circuit) (p : Pipe) (xs : List (Option (MemLock T)))
    → xs ≡ [] → p.mems ≡ [] → AreLocked l c p xs
no_locks l c p xs e n = record {
  count = ap length e ∙ sym (ap length n);
  locked = λ m low. absurd (omega (arith, low, ap length n));
  locks = λ m x low s. absurd (omega (arith, low, ap length n));
  has_array = λ m low once. absurd (omega (arith, low, ap length n));
  width = λ m low once. absurd (omega (arith, low, ap length n));
  depth = λ m low u once. absurd (omega (arith, low, ap length n));
}

-- without memories there are no tickets
pub no_tickets : {T : Type 0} (l : Members T) (c : Circuit) (xs : List (Option (MemLock T))) (ts : List Net)
    → xs ≡ [] → ts ≡ [] → AreTickets l c xs ts
no_tickets l c xs ts e n = record {
  there = subst (NetsThere c) (sym n) tt;
  count = ap length n ∙ sym (ap length e);
  wide = λ m x low s. absurd (omega (arith, low, ap length e));
}

-- nor flags of whether some path reserves one twice
pub no_flags : (ys : List Stmt) (ms : List Mem) (xs : List Bool) → ms ≡ [] → xs ≡ [] → xs ≡ all_twice ys 0 ms
no_flags ys ms xs n e = e ∙ sym (ap (all_twice ys 0) n)

take_none : (n : ℕ) → take {A = ℕ} n [] ≡ []
take_none zero = refl
take_none (suc n) = refl

-- the nets of a walk without variables that has done nothing are there
pub bare_walk : (c : Circuit) (p : Pipe) (ws : List ℕ) (w : WalkNets)
    → ws ≡ [] → w.vars.items ≡ [] → w.marks.items ≡ [] → IsThere c w.ready → (signal c w.ready).width ≡ 1
    → w.reserves ≡ [] → w.puts ≡ [] → w.lettings ≡ [] → w.births.items ≡ [] → w.asks ≡ [] → w.advises ≡ [] → w.guess ≡ []
    → IsThere c w.fails → (signal c w.fails).width ≡ 1 → IsThere c w.barrier → (signal c w.barrier).width ≡ 1
    → IsWalk c p ws w
bare_walk c p ws w e e1 e2 t o e4 e5 e6 e7 e8 e10 e9 t1 o1 t2 o2 = record {
  there = record {
    vars = subst (NetsThere c) (sym e1) tt;
    marks = subst (λ (l : List MarkNet). Each (λ (h : MarkNet). IsThere c h.net) l) (sym e2) tt;
    ready = t;
    reserves = subst (λ (l : List ReserveNet). Each (λ (r : ReserveNet). IsThere c r.on × IsThere c r.addr) l) (sym e4) tt;
    puts = subst (λ (l : List PutNet). Each (λ (x : PutNet). IsThere c x.on × IsThere c x.value) l) (sym e5) tt;
    lettings = subst (λ (l : List LettingNet). Each (λ (x : LettingNet). IsThere c x.on) l) (sym e6) tt;
    births = subst (λ (l : List BirthNet). Each (λ (x : BirthNet). IsThere c x.on × NetsThere c x.args) l) (sym e7) tt;
    asks = subst (λ (l : List AskNet). Each (λ (x : AskNet). IsThere c x.on × IsThere c x.addr) l) (sym e8) tt;
    advises = subst (λ (l : List AdvisingNet). Each (λ (x : AdvisingNet). IsThere c x.on × IsThere c x.addr × IsThere c x.value) l) (sym e10) tt;
    guess = subst (NetsThere c) (sym e9) tt;
    fails = t1;
    barrier = t2;
  };
  sized = record {
    vars = ap (λ (l : List Net). widths_of (signals_in c l)) e1 ∙ sym e;
    marks = subst (λ (l : List MarkNet). Each (λ (h : MarkSignal). h.signal.width ≡ 1) (map (mark_in c) l)) (sym e2) tt;
    ready = o;
    reserves = subst (λ (l : List ReserveNet). Each (IsSizedReserve p) (map (reservation_in c) l)) (sym e4) tt;
    puts = subst (λ (l : List PutNet). Each (IsSizedPut p) (map (put_in c) l)) (sym e5) tt;
    lettings = subst (λ (l : List LettingNet). Each (λ (x : Letting). x.on.width ≡ 1) (map (letting_in c) l)) (sym e6) tt;
    births = subst (λ (l : List BirthNet). Each (IsSizedBirth p ws) (map (birth_in c) l)) (sym e7) tt;
    asks = subst (λ (l : List AskNet). Each (IsSizedAsk p) (map (ask_in c) l)) (sym e8) tt;
    advises = subst (λ (l : List AdvisingNet). Each (IsSizedAdvising p) (map (advising_in c) l)) (sym e10) tt;
    guess = ap (λ (l : List Net). widths_of (signals_in c l)) e9 ∙ sym (ap (take (length p.start)) e ∙ take_none (length p.start));
    fails = o1;
    barrier = o2;
  };
}
