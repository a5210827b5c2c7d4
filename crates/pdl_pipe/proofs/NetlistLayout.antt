-- Memories, ports, orders and stages, laid out one after the other.
use Rattle.std.proofs.Common.{◌≡◌, ℕ, refl, sym, ap, ◌∙◌, subst, length, map, List, arith}
use Rattle.std.proofs.lemmas.List.{length-map}
use Rattle.std.specs.Prelude.{Option}
use Rattle.pdl_word.specs.Each.{Each}
use Rattle.pdl_form.specs.Form.{Form}
use Rattle.pdl_net.specs.declared.Net.{Net}
use Rattle.pdl_net.specs.Circuit.{Circuit}
use Rattle.pdl_net.specs.Signal.{Signal}
use Rattle.pdl_net.specs.Meaning.{Means}
use Rattle.pdl_net.specs.Growth.{Extends, Keeps}
use Rattle.pdl_net.proofs.Keeps.{extends_keeps, extends_trans, keeps_refl, regs_grow}
use Rattle.pdl_net.proofs.KeptWidths.{width_meant}
use Rattle.pdl_order.specs.declared.OrderRegs.{OrderRegs}
use Rattle.pdl_order.specs.Laws.{own as order_own}
use Rattle.pdl_pipe_exprs.specs.Nets.{NetsThere, signals_in, signal_at}
use Rattle.pdl_pipe_exprs.proofs.NetLists.{there_keeps, signals_keep}
use Rattle.pdl_pipe_exprs.specs.Conditions.{AreBits}
use Rattle.pdl_pipe_exprs.specs.declared.bits.Bits.{Bits}
use Rattle.pdl_law_parts.specs.Walk.{Locks, zero_bit}
use Rattle.pdl_pipe_walk.specs.declared.locks.MemLock.{MemLock}
use Rattle.pdl_pipe_walk.specs.Locked.{Members, locks_in, AreLocked}
use Rattle.pdl_pipe_walk.proofs.NetGrowth.{bits_keep}
use Rattle.pdl_pipe_walk.proofs.MadeLocks.{locks_same}
use Rattle.pdl_pipe_answers.specs.Ports.{answers_in, HasAnswers, IsBit}
use Rattle.pdl_pipe_answers.proofs.PortAnswers.{answers_keep, answer_same}
use Rattle.pdl_pipe_beside.specs.Parts.{AreParts}
use Rattle.pdl_pipe_beside.specs.Orders.{HasOrderOf}
use Rattle.pdl_pipe_beside.proofs.Beside.{made_orders}
use Rattle.pdl_pipe_beside.proofs.PortSteps.{ports_stand}
use Rattle.pdl_pipe_beside.proofs.OrderSteps.{orders_stand}
use Rattle.pdl_pipe_registers.specs.declared.nets.Shared.{Shared}
use Rattle.pdl_pipe_registers.specs.declared.nets.StageNets.{StageNets}
use Rattle.pdl_pipe_registers.specs.Begun.{IsShared, ticket_net}
use Rattle.pdl_pipe_registers.specs.Stages.{zero_signal}
use Rattle.pdl_pipe_registers.specs.Staged.{AreStaged, AreApart, next_signals}
use Rattle.pdl_pipe_registers.proofs.TicketsMade.{next_are, next_there, next_same}
use Rattle.pdl_pipe_nexts.specs.declared.line.StageLine.{StageLine}
use Rattle.pdl_pipe_nexts.specs.Lines.{line_form, line_pipe, IsLineIn}
use Rattle.pdl_pipe_locks.proofs.LockGrowth.{Stays, locked_kept, laws_kept}
use Rattle.pdl_pipe_emitted.proofs.LineGrowth.{line_there}
use Rattle.pdl_pipe_emitted.proofs.pipe_moves.AllMoves.{filled_bits}
use Rattle.pdl_pipe_emitted.specs.Emitted.{CanEmit, IsLayout}
use Rattle.pdl_pipe.specs.Emitted.{HasMemories, IsLaidOut}
use Rattle.pdl_pipe.proofs.KeptSteps.{apart_from, unwritten_kept}

-- stages with the answers, tickets and locks of a later circuit
answered_later : {T : Type 0} (l : Members T) (a c : Circuit) (x : StageLine) (e : Keeps a c) (nexts : List Signal) (ls : Locks)
    → HasAnswers a (line_pipe x) x.shared.now.ports.now
    → AreStaged c (line_form x) nexts (answers_in a x.shared.now.ports.now) ls x.stages.now
    → AreStaged c (line_form x) nexts (answers_in c x.shared.now.ports.now) ls x.stages.now
answered_later l a c x e nexts ls answers all k s low is =
    let h = all k s low is in
    record {
      registers = h.registers;
      own = h.own;
      nets = h.nets;
      tickets = h.tickets;
      kept = h.kept;
      answered = λ v q. h.answered v q ∙ sym (answer_same a c e (line_pipe x) x.shared.now.ports.now k v (signal_at (signals_in c s.vars) v) answers);
      rows = h.rows;
      walk = h.walk;
    }

-- what all stages share, made after memories and ports, in a later circuit
module _ {T : Type 0} (l : Members T) (stays : Stays l) (a c : Circuit) (f : Form) (x : Shared)
    (xs : List (Option (MemLock T))) (low mid : ℕ) (bits : Bits) (ac : Extends a c)
    (mem : HasMemories l a f bits xs x.ports.now low mid) (same_bits : x.bits ≡ bits)
    (next_is : x.next ≡ map (ticket_net bits.zero) xs)
    (zeros_there : NetsThere c x.zeros) (zeros : signals_in c x.zeros ≡ map zero_signal f.widths) where
  keeps : Keeps a c
  keeps = extends_keeps a c ac

  locked_now : AreLocked l c f.pipe xs
  locked_now = locked_kept l a c f.pipe xs keeps stays mem.locked

  zero_now : Means c bits.zero zero_bit
  zero_now = (bits_keep a c bits keeps mem.are_bits).zero

  -- the nets of the next tickets mean there the next tickets of its locks
  pub next_now : signals_in c x.next ≡ next_signals c xs
  next_now = ap (signals_in c) next_is ∙ next_are l c f.pipe bits.zero zero_now xs

  -- it stands there
  pub shared_now : IsShared c f x
  shared_now = record {
    bits = subst (AreBits c) (sym same_bits) (bits_keep a c bits keeps mem.are_bits);
    zeros_there = zeros_there;
    zeros = zeros;
    next_there = subst (NetsThere c) (sym next_is) (next_there l c f.pipe bits.zero zero_now xs locked_now);
    next_count = ap length next_is ∙ length-map xs (ticket_net bits.zero) ∙ locked_now.count;
    ports = answers_keep a c keeps f.pipe x.ports.now mem.answers;
  }

module _ {T : Type 0} (l : Members T) (stays : Stays l) (a b s c : Circuit) (x : StageLine)
    (xs : List (Option (MemLock T))) (rs : List (Option OrderRegs)) (low mid : ℕ) (bits : Bits) (ab : Extends a b)
    (bs : Extends b s) (sc : Extends s c)
    (mem : HasMemories l a (line_form x) bits xs x.shared.now.ports.now low mid) (same_bits : x.shared.now.bits ≡ bits)
    (next_is : x.shared.now.next ≡ map (ticket_net bits.zero) xs)
    (zeros_there : NetsThere s x.shared.now.zeros) (zeros : signals_in s x.shared.now.zeros ≡ map zero_signal (line_form x).widths) where
  to_zeros : Extends a s
  to_zeros = extends_trans a b s ab bs

  to_last : Extends a c
  to_last = extends_trans a s c to_zeros sc

  bc : Extends b c
  bc = extends_trans b s c bs sc

  esc : Keeps s c
  esc = extends_keeps s c sc

  zeros_last : signals_in c x.shared.now.zeros ≡ map zero_signal (line_form x).widths
  zeros_last = signals_keep s c x.shared.now.zeros esc zeros_there ∙ zeros

  -- the nets of the next tickets mean in the last circuit the next tickets of its locks
  next_last : signals_in c x.shared.now.next ≡ next_signals c xs
  next_last =
      next_now l stays a c (line_form x) x.shared.now xs low mid bits to_last mem same_bits next_is
      (there_keeps s c x.shared.now.zeros esc zeros_there) zeros_last

  -- what all stages share stands in the last circuit
  shared_last : IsShared c (line_form x) x.shared.now
  shared_last =
      shared_now l stays a c (line_form x) x.shared.now xs low mid bits to_last mem same_bits next_is
      (there_keeps s c x.shared.now.zeros esc zeros_there) zeros_last

  module _ (orders : AreParts order_own (HasOrderOf b (line_pipe x)) (length a.regs) (length b.regs) rs (length (line_pipe x).stages))
      (staged : AreStaged c (line_form x) (next_signals s xs) (answers_in s x.shared.now.ports.now) (locks_in l (line_pipe x) s xs) x.stages.now)
      (count : length x.stages.now ≡ length (line_pipe x).stages) (apart : AreApart (length s.regs) (length c.regs) x.stages.now) where
    -- the stages stand with their rows in the last circuit, by its tickets, answers and locks
    staged_last : AreStaged c (line_form x) (next_signals c xs) (answers_in c x.shared.now.ports.now) (locks_in l (line_pipe x) c xs) x.stages.now
    staged_last =
        let eas = extends_keeps a s to_zeros in
        let locked = locked_kept l a s (line_pipe x) xs eas stays mem.locked in
        let answered =
        answered_later l s c x esc (next_signals s xs) (locks_in l (line_pipe x) s xs)
        (answers_keep a s eas (line_pipe x) x.shared.now.ports.now mem.answers) staged in
        subst (λ (g : Locks). AreStaged c (line_form x) (next_signals c xs) (answers_in c x.shared.now.ports.now) g x.stages.now)
        (sym (locks_same l s c esc stays (line_pipe x) xs locked))
        (subst (λ ns. AreStaged c (line_form x) ns (answers_in c x.shared.now.ports.now) (locks_in l (line_pipe x) s xs) x.stages.now)
        (sym (next_same l s c esc (line_pipe x) xs locked)) answered)

    -- memories, ports, orders and stages stand in the last circuit, the registers of each kind after those of the one before
    layout : IsLayout l c x xs rs low mid (length b.regs)
    layout =
        let keeps = extends_keeps a c to_last in
        let locked = locked_kept l a c (line_pipe x) xs keeps stays mem.locked in
        let n = regs_grow a b (extends_keeps a b ab) in
        let m = regs_grow b s (extends_keeps b s bs) in
        let i = regs_grow b c (extends_keeps b c bc) in
        let o = mem.order in
        let o0 = o.0 in
        let o1 = o.1 in
        record {
          shared = shared_last;
          next = next_last;
          staged = staged_last;
          count = count;
          apart = apart_from (length s.regs) (length c.regs) (length c.regs) x.stages.now (omega arith) apart (length b.regs) m;
          locked = locked;
          lawful = laws_kept l a c (line_pipe x) xs keeps mem.locked mem.lawful;
          unwritten = unwritten_kept a c (line_pipe x) (λ k has. to_last.writes k has) mem.locked.has_array mem.unwritten;
          locks_to = mem.locks_to;
          stand_ports = ports_stand a c (line_pipe x) x.shared.now.ports.now keeps mem.stand_ports;
          ports_from = mem.ports_from;
          ports_to = mem.ports_to;
          stand_orders = orders_stand b c (line_pipe x) rs (extends_keeps b c bc) (made_orders b (line_pipe x) (length a.regs) (length b.regs) rs orders);
          orders_from = λ k r q is. let f = orders.from k r q is in omega (arith, f, o1);
          orders_to = orders.to;
          order = (o0, omega (arith, o1, n), i);
          reply = (mem.taken c keeps).reply;
          word = (mem.taken c keeps).word;
          inputs = to_last.ports ∙ mem.inputs;
          shapes = to_last.shapes ∙ mem.shapes;
        }

-- one line of these stages, whose threads don't move yet
module _ {T : Type 0} (l : Members T) (stays : Stays l) (a b s c : Circuit) (x : StageLine)
    (xs : List (Option (MemLock T))) (rs : List (Option OrderRegs)) (low mid : ℕ) (bits : Bits) (ab : Extends a b)
    (bs : Extends b s) (sc : Extends s c) (can : CanEmit (line_form x))
    (mem : HasMemories l a (line_form x) bits xs x.shared.now.ports.now low mid) (same_bits : x.shared.now.bits ≡ bits)
    (next_is : x.shared.now.next ≡ map (ticket_net bits.zero) xs)
    (zeros_there : NetsThere s x.shared.now.zeros)
    (zeros : signals_in s x.shared.now.zeros ≡ map zero_signal (line_form x).widths)
    (orders : AreParts order_own (HasOrderOf b (line_pipe x)) (length a.regs) (length b.regs) rs (length (line_pipe x).stages))
    (ss : List StageNets) (stages_are : x.stages.now ≡ ss)
    (staged : AreStaged c (line_form x) (next_signals s xs) (answers_in s x.shared.now.ports.now) (locks_in l (line_pipe x) s xs) ss)
    (count : length ss ≡ length (line_pipe x).stages) (apart : AreApart (length s.regs) (length c.regs) ss)
    (nets : List Net) (moves_are : x.moves.now ≡ nets) (kills_are : x.kills.now ≡ nets)
    (long : length nets ≡ length ss) (blank : Each (λ (y : Net). y ≡ bits.zero) nets) where
  all_staged : AreStaged c (line_form x) (next_signals s xs) (answers_in s x.shared.now.ports.now) (locks_in l (line_pipe x) s xs) x.stages.now
  all_staged =
      subst (AreStaged c (line_form x) (next_signals s xs) (answers_in s x.shared.now.ports.now) (locks_in l (line_pipe x) s xs)) (sym stages_are) staged

  all_count : length x.stages.now ≡ length (line_pipe x).stages
  all_count = ap length stages_are ∙ count

  none_moves : Each (IsBit c) nets
  none_moves =
      let zero = (bits_keep a c bits (extends_keeps a c (extends_trans a s c (extends_trans a b s ab bs) sc)) mem.are_bits).zero in
      filled_bits c bits.zero nets (width_meant c bits.zero _ 1 zero refl) blank

  -- with its orders as they are told
  pub laid_out : (forks : List (Option OrderRegs)) → forks ≡ rs → IsLaidOut l c x xs forks
  laid_out forks is =
      subst (IsLaidOut l c x xs) (sym is) (
        low,
        mid,
        length b.regs,
        layout l stays a b s c x xs rs low mid bits ab bs sc mem same_bits next_is zeros_there zeros orders all_staged all_count
            (subst (AreApart (length s.regs) (length c.regs)) (sym stages_are) apart),
      )

  -- the nets of the line are there: its stages, and a net of 1 bit for each stage's move and removal
  pub line_in : IsLineIn c x
  line_in =
      line_there c c x (next_signals c xs) (answers_in c x.shared.now.ports.now) (locks_in l (line_pipe x) c xs)
      (staged_last l stays a b s c x xs rs low mid bits ab bs sc mem same_bits next_is zeros_there zeros orders all_staged all_count
      (subst (AreApart (length s.regs) (length c.regs)) (sym stages_are) apart))
      (keeps_refl c) all_count
      (shared_last l stays a b s c x xs rs low mid bits ab bs sc mem same_bits next_is zeros_there zeros)
      (next_last l stays a b s c x xs rs low mid bits ab bs sc mem same_bits next_is zeros_there zeros) can.typed.forks can.wide
      (ap length moves_are ∙ long ∙ sym (ap length stages_are)) (subst (Each (IsBit c)) (sym moves_are) none_moves)
      (ap length kills_are ∙ long ∙ sym (ap length stages_are)) (subst (Each (IsBit c)) (sym kills_are) none_moves)
